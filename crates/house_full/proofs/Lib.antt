pub mod Laws
pub mod ReadsBack
pub mod FullLeast
pub mod Edges
pub mod RowReader
