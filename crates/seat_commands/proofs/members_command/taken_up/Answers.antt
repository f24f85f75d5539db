use Rattle.std.proofs.Common.{List, refl, subst, ℕ}
use Rattle.seat_commands.specs.rule.ListFiles.{IsReadBack}
use Rattle.seat_commands.proofs.members_command.taken_up.Goals as goal

pub returns-then-read-eq0-clause-taken : goal.returns-then-read-eq0-clause-taken
returns-then-read-eq0-clause-taken g c = record {
  bytes = c.in_ok-bytes.bytes.items;
  has = c.in_ok-bytes.ensures;
  list = subst (λ (bytes : List ℕ). IsReadBack c.args.line.now.shape bytes c.in_ok-read.read) c.as_slice.ensures.value c.in_ok-read.ensures.list;
  taken = c.all_of.new.file;
  begins = λ none. c.in_ok-begun.ensures;
  goes_on = λ some. absurd (some c.if-read-eq0.true);
}

pub returns-clause-taken : goal.returns-clause-taken
returns-clause-taken g c = record {
  bytes = c.in_ok-bytes.bytes.items;
  has = c.in_ok-bytes.ensures;
  list = subst (λ (bytes : List ℕ). IsReadBack c.args.line.now.shape bytes c.in_ok-read.read) c.as_slice.ensures.value c.in_ok-read.ensures.list;
  taken = c.all_of.new.file;
  begins = λ none. absurd (c.if-read-eq0.false none);
  goes_on = λ some. refl;
}
