pub mod Trailer
pub mod Room
