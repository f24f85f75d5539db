-- The item with a number in a list of those from a number on.
pub use Rattle.messages.proofs.Rules.{numbered-read, numbered-set, Begun, begun_empty, begun_more, within_is, put_at, read_number}
