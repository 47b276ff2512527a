pub mod Counting
pub mod Calls
pub mod Pictures
pub mod Files
pub mod Derived
pub mod ReadBack
