pub mod Writing
pub mod Claims
