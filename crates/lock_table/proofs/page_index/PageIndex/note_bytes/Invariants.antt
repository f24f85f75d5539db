use Rattle.std.proofs.Common.{◌≡◌, ℕ, ◌+◌, ◌≤◌, ◌<◌, ◌⊎◌}
use Rattle.model.specs.declared.owner.Owner.{Owner}
use Rattle.lock_table.specs.code.Rows.{Has, HasFile, HasPage, IsKept, MayHold}
use Rattle.lock_table.proofs.page_index.PageIndex.note_bytes.Given as goal

abbrev pub invariant-loop-page : goal.invariant-loop-page
invariant-loop-page l = record {
  kept : IsKept l.self;
  keeps : (f : ℕ) (o : Owner) (b : ℕ) → MayHold l.initial.self f o b → MayHold l.self f o b;
  size : l.size ≡ l.self.extra + 64;
  file : Has l.self.wide l.owner ⊎ HasFile l.self l.file l.owner;
  pages : (p : ℕ) → l.first ≤ p → p < l.page → HasPage l.self l.file l.owner p;
}
