pub mod LineLaws
pub mod RowLaws
pub mod LineBack
pub mod ReadsBack
