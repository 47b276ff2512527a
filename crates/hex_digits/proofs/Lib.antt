pub mod HexLaws
pub mod Pairs
pub mod Faithful
pub mod Tables
pub mod Tested
