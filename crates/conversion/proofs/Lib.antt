pub mod KeyedLaws
pub mod ApartLaws
pub mod Taken
mod Fitting
