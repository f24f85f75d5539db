pub mod Asking
pub mod Having
pub mod Readings
pub mod Registers
pub mod Talks
