pub mod Search
pub mod Bytes
pub mod Segment
pub mod Runs
