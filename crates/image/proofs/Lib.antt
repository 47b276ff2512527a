pub mod BytesKept
pub mod BytesFit
pub mod ContentsKept
pub mod ContentsImage
mod Tested
