pub mod Passes
pub mod InNumbers
pub mod Claims
