pub mod LentLines
pub mod Claims
