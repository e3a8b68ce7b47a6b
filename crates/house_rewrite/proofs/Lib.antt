pub mod Laws
pub mod Subs
pub mod Demand3
