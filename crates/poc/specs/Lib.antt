pub mod PictureNumber
pub mod Domain
pub mod Standard
pub mod Number
pub mod Distance
pub mod FullRun
pub mod Clip
pub mod Why
