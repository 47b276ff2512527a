pub mod Highest
pub mod FreeBuffer
