pub mod Stores
pub mod Scripts
pub mod Audits
pub mod Faults
pub mod Judging
pub mod Commands
