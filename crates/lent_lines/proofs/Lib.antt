pub mod Sizes
pub mod Claims
