pub mod Blocking
pub mod OpenLaws
pub mod OpenLists
pub mod ToldLaws
