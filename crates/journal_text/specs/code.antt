pub mod Fits
pub mod Places
pub mod Built
pub mod OneText
