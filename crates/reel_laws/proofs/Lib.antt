pub mod Laps
pub mod Frames
pub mod Kept
pub mod Making
pub mod Built
pub mod Played
pub mod Closed
pub mod Room
