pub mod Opened
pub mod Calling
pub mod Defining
