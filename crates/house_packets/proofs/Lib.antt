pub mod UnitLaws
pub mod PacketLaws
pub mod GapLaws
pub mod RowLaws
pub mod CountLaws
pub mod Turns
pub mod PacketsBack
