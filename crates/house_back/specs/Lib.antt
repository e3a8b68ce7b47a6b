pub mod Plays
pub mod Demand2
