pub mod Answers
pub mod Playing
