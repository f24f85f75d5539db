pub mod Orders
pub mod Rows
pub mod Edits
pub mod Admissions
