pub mod OrderLaws
mod Insertion
mod Gathering
