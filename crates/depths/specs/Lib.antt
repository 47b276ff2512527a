pub mod Depths
pub mod Claims
