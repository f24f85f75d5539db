pub mod Shapes
pub mod TokenRuns
pub mod Messages
pub mod Entries
pub mod Distances
pub mod Members
