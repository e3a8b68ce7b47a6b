pub mod Tiles
pub mod Marks
pub mod Mapping
pub mod Noted
pub mod Panel
