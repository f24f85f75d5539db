pub mod SharedSpans
pub mod Rows
pub mod Blockers
