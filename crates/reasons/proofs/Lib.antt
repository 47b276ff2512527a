pub mod Readings
pub mod Refusing
pub mod Row
pub mod Turns
pub mod Places
pub mod Limits
