pub mod Hosts
pub mod Tables
