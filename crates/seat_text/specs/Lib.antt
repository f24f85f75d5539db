pub mod rule
pub mod code
