pub mod Moves
pub mod OpenCalls
pub mod Search
pub mod Taken
