pub mod Rounds
pub mod Answers
