mod Wiring
