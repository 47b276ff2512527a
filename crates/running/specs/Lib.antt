pub mod Slices
pub mod Claims
