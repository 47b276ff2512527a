pub mod TurnedDown
