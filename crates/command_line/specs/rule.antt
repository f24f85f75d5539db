pub mod Tasks
pub mod Words
