pub mod Entries
pub mod Written
pub mod ListLaws
pub mod CopyLaws
