-- Runs, entry by entry, and the facts of each.
pub mod JournalRuns
pub mod Runs
pub mod EarlyNumbers
pub mod Replayed
pub mod Checked
