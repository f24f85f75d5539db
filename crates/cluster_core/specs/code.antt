pub mod Changes
pub mod Calls
