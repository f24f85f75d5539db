pub mod Texts
pub mod Served
pub mod Scripts
pub mod ThreadLines
pub mod ShapedScripts
pub mod Layout
pub mod Listing
