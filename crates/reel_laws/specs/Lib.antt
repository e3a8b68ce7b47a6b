pub mod Laps
pub mod Building
