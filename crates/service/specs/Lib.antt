pub mod Calls
pub mod Laws
pub mod Served
pub mod Claims
