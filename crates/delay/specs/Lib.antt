pub mod Delay
pub mod Kept
