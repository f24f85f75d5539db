-- The facts of tokens, and of the locks under them, after every run.
pub mod Covering
pub mod Served
pub mod Heard
pub mod Unbarred
pub mod Lowering
pub mod Clearing
pub mod Talks
pub mod TalkMoves
pub mod RowMoves
pub mod TalkStarts
pub mod Epochs
pub mod Ending
pub mod Present
pub mod Members
pub mod Starts
pub mod Apart
