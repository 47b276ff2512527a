pub mod Digits
pub mod Plain
pub mod Claims
pub mod Lengths
