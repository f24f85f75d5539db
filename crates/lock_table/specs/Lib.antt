pub mod code
pub mod rule
