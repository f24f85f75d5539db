use Rattle.std.proofs.Common.{◌≡◌, ◌∷◌, refl, ap, List}
use Rattle.merges.specs.declared.logged.LoggedChange.{LoggedChange}
use Rattle.merges.specs.code.Merging.{MergerFields, fields_of}
use Rattle.merges.proofs.NextChanges.{change_done}
use Rattle.merges.proofs.merger.Merger.put_change.Goals as goal

pub returns-clause-puts : goal.returns-clause-puts
returns-clause-puts c =
    let m : MergerFields = fields_of c.args.self.now in
    let it : (cs : List LoggedChange) × (m.changes ≡ c.in-Some.change ∷ cs) = c.in-Some.ensures in
    let n : MergerFields = record m { run = c.took.new.run; changes = c.pass.new.self } in
    change_done m c.in-Some.change it.0 it.1 c.took.new.run c.requires (c.if-not-allows.ensures.yes refl) (c.if-is_too_early.ensures.no refl) (c.in_ok-took.ensures.took c.if-not-branch.false) n
    (ap (λ (cs : List LoggedChange). record m { run = c.took.new.run; changes = cs }) (c.pass.ensures c.in-Some.change it.0 it.1))
