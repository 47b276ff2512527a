pub mod Reading
pub mod Pouring
pub mod Conversation
