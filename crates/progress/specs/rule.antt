pub mod Rounds
pub mod Agenda
pub mod Bounds
pub mod Making
