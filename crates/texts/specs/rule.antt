pub mod FirstBadLine
pub mod Layout
pub mod LineFeeds
pub mod Reads
pub mod Words
