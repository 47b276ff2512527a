pub mod Reading
pub mod Claims
