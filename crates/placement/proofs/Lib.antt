pub mod Rises
pub mod CallIndexes
pub mod Index
pub mod Placing
pub mod Replays
pub mod Waits
