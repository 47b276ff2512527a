pub mod Renewed
pub mod Claims
