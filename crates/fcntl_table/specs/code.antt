pub mod Edits
pub mod Hosts
