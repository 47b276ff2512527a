mod Clearing
pub mod Claims
