pub mod House
pub mod Writing
pub mod Plans
