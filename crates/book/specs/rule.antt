pub mod States
pub mod Commits
pub mod Trails
