mod Both
mod Settling
mod Coming
