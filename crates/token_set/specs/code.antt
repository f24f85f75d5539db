pub mod Sets
pub mod Edits
pub mod Views
