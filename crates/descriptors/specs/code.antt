pub mod Rows
pub mod Edits
