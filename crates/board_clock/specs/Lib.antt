pub mod Clock
pub mod Replay
