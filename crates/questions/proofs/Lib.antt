pub mod Kept
pub mod Fitting
