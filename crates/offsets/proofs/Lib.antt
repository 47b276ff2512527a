mod Float
pub mod Formula
mod OffsetTable
