pub mod Line
pub mod Delta
