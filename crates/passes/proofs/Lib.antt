pub mod Walked
pub mod Sides
pub mod PassLaws
pub mod Taken
pub mod Backward
pub mod Steps
pub mod OneList
