pub mod Player
pub mod Ticking
pub mod Starting
