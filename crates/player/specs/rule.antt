pub mod Progress
pub mod Rounds
pub mod Expectations
