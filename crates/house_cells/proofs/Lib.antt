pub mod Ahead
pub mod CellLaws
pub mod RunLaws
pub mod EachLaws
pub mod StretchLaws
