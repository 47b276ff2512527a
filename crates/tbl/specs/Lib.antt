pub mod DepthRows
pub mod GopSize
