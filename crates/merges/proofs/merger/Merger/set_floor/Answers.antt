use Rattle.std.proofs.Common.{◌≤◌, arith}
use Rattle.std.proofs.lemmas.List.Elements.{All-weaker}
use Rattle.std.specs.Prelude.{slice_index_or}
use Rattle.merges.specs.declared.logged.LoggedEntry.{LoggedEntry}
use Rattle.merges.specs.declared.logged.LoggedChange.{LoggedChange}
use Rattle.merges.specs.code.Merging.{fields_of}
use Rattle.merges.proofs.Floors.{raised_good}
use Rattle.merges.proofs.merger.Merger.set_floor.Goals as goal

pub returns-clause-good : goal.returns-clause-good
returns-clause-good c =
    raised_good (fields_of c.args.self.now) c.min-self.result c.requires.good
    (All-weaker (λ (x : LoggedChange). c.least_end.result ≤ x.interval.ended) (λ (x : LoggedChange). c.min-self.result ≤ x.interval.ended) (λ x h. omega (arith, h, c.min-self.ensures)) c.args.self.now.changes c.least_end.ensures.lower)
    (λ k d within.
    All-weaker (λ (y : LoggedEntry). c.args.moment ≤ y.interval.ended) (λ (y : LoggedEntry). c.min-self.result ≤ y.interval.ended) (λ y h. omega (arith, h, c.min-self.ensures)) (slice_index_or c.args.self.now.logs.items k d).entries (c.requires.ends k d within))
