pub mod Histories
pub mod Judgements
pub mod Owners
