mod Lengths
mod Derivations
pub mod Claims
