pub mod Image
pub mod Fits
pub mod Claims
