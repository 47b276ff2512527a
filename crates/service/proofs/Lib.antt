pub mod New
pub mod Hearing
pub mod Claims
