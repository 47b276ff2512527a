pub mod Lines
pub mod Pasting
pub mod Newlines
