pub mod Reading
pub mod SeatLines
pub mod Taking
pub mod Talks
