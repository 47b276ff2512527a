pub mod Plan
pub mod Group
pub mod Claims
