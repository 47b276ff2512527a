pub mod Brought
pub mod Writing
pub mod Turning
