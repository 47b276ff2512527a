pub mod Run
pub mod Partial
pub mod Session
pub mod Claims
