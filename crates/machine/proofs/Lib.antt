pub mod EveryCall
pub mod Running
