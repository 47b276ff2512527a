mod TurnedDown
