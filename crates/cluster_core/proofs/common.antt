-- Lemmas of lists, choices and numbers.
pub mod Choices
pub mod Refusals
pub mod Numbered
pub mod Places
pub mod Lists
pub mod Lengths
