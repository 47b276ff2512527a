pub mod Writing
pub mod Deriving
