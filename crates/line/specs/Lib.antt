pub mod Calls
pub mod Lines
pub mod Answers
pub mod Claims
