pub mod Ticks
pub mod Shows
pub mod Replay
pub mod Time
pub mod Table
