pub mod Told
pub mod Telling
pub mod Laws
