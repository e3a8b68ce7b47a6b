pub mod Playing
pub mod Numbers
