pub mod Full
pub mod Edges
pub mod Plan
pub mod RowReader
