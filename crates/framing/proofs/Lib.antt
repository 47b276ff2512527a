pub mod Framed
pub mod Pasted
pub mod Standing
