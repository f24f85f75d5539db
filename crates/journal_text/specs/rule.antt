pub mod Texts
pub mod Served
pub mod Events
pub mod Lines
pub mod Journals
pub mod Readings
