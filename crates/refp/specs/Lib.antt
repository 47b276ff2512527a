pub mod Lists
pub mod Copy
pub mod Running
pub mod Answers
pub mod Claims
