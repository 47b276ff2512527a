pub mod Relayed
pub mod Claims
