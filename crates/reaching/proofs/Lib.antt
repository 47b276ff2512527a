mod Front
mod Judging
