-- The listings of locks and of tokens.
pub mod TokenLists
pub mod LockLists
