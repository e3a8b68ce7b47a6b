pub mod Frames
pub mod ReadsBack
pub mod Demand2
