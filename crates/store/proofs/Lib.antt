pub mod Finding
pub mod Highest
mod Holding
