pub mod Steps
pub mod Kept
pub mod Limits
pub mod OnKeys
pub mod Examples
