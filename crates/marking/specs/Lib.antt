pub mod Marking
pub mod OnKeys
pub mod Claims
