pub mod Record
pub mod Building
