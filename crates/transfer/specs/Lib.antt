pub mod Exchanged
