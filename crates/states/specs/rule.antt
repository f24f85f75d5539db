pub mod States
pub mod Texts
