pub mod Keyed
pub mod Apart
pub mod Fitting
