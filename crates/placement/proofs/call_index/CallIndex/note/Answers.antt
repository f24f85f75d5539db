use Rattle.std.proofs.Common.{◌∷◌, ◌++◌, [], ◌&&◌, Bool, arith, refl, sym, ◌∙◌, ap}
use Rattle.std.specs.Prelude.{is_some, if◌then◌else◌}
use Rattle.std.proofs.lemmas.Grind.{common_steps}
use Rattle.model.specs.declared.host.Host.{Host}
use Rattle.model.specs.rule.Owners.{host_of_call, same_host}
use Rattle.placement.specs.code.Indexes.{row_of}
use Rattle.placement.proofs.CallIndexes.{taken-row, taken-other}
use Rattle.placement.proofs.call_index.CallIndex.note.Goals as goal

pub returns-else-not-branch : goal.returns-else-not-branch
returns-else-not-branch c =
    let old = c.args.self.now in
    let unknown = ap is_some (sym c.get.ensures) ∙ sym c.is_some.ensures ∙ c.if-is_some.false in
    let put = λ (host : Host). c.in_ok-push_next.ensures.row host ∙ ap (λ (pushed : Bool). row_of old.rows host ++ (if pushed && same_host (host_of_call c.args.id) host then c.args.index ∷ [] else [])) c.if-not-branch.false in
    taken-row old (record { rows = c.push_next.new.rows; others = old.others }) c.args.id c.args.index refl unknown (grind (arith, common_steps, c.in_ok-push_next.ensures.next, c.if-not-branch.false)) put

pub returns-in_ok-insert : goal.returns-in_ok-insert
returns-in_ok-insert c =
    let old = c.args.self.now in
    let unknown = ap is_some (sym c.get.ensures) ∙ sym c.is_some.ensures ∙ c.if-is_some.false in
    let put = λ (host : Host). c.in_ok-push_next.ensures.row host ∙ ap (λ (pushed : Bool). row_of old.rows host ++ (if pushed && same_host (host_of_call c.args.id) host then c.args.index ∷ [] else [])) c.if-not-branch.true in
    taken-other old (record { rows = c.push_next.new.rows; others = c.insert.new.self }) c.args.id c.args.index put unknown c.in_ok-insert.ensures.updates.0
