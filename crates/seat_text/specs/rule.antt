pub mod Blocks
pub mod Logs
pub mod SeatLines
pub mod Speaking
pub mod Talks
