pub mod BackwardSome
pub mod Accepted
pub mod Claims
mod Deciding
