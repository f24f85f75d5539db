pub mod Runs
pub mod Entries
pub mod Parts
pub mod Laws
pub mod Edits
pub mod Replays
