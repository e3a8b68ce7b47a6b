pub mod Laws
pub mod Marking
pub mod Noting
pub mod Storing
pub mod Panel
