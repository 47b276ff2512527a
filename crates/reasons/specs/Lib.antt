pub mod Reasons
pub mod Claims
pub mod Readings
