pub mod Asked
pub mod Claims
