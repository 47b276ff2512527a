pub mod Claims
mod Steps
