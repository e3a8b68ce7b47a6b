pub mod Row
pub mod RowRule
pub mod Search
pub mod Window
