pub mod Spelling
pub mod Claims
