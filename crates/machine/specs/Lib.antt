pub mod Step
pub mod Running
pub mod Lent
pub mod Claims
