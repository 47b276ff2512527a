pub mod Pictures
pub mod Files
