use Rattle.std.specs.Prelude.{◌≡◌, ◌≤◌, List, Option, Some, None, option_copied}
use Rattle.std.proofs.Common.{sym, ap, ◌∙◌, arith}
use Rattle.intervals.specs.rule.Bytes.{Range, largest_around}
use Rattle.token_server.specs.declared.known_nodes.known_node.KnownNode.{KnownNode}
use Rattle.token_server.specs.rule.Rows.{Row, row_conflicts, row_conflicts_at}
use Rattle.token_server.specs.rule.Parts.{ServerParts}
use Rattle.token_server.specs.declared.sent_command.SentCommand.{SentCommand}
use Rattle.token_server.specs.code.Edits.{told_to, row_told}
use Rattle.token_server.specs.code.Rows.{seen, rows_overlaid}
use Rattle.token_server.proofs.KnownNodeLaws.{row_free}
use Rattle.token_server.proofs.GrantLaws.{free_around-none}
use Rattle.token_server.proofs.ObstacleLaws.{told-nothing, told-clear, around-cut}
use Rattle.token_server.proofs.server.Server.free_around.Goals as goal

pub returns-in_default : goal.returns-in_default
returns-in_default c =
    let lo = ap (λ (s : Range). s.lo) c.required.view_is in
    let hi = ap (λ (s : Range). s.hi) c.required.view_is in
    let inside = c.required.invariant.0 in
    let order : c.args.required.lo ≤ c.args.required.hi = omega (arith, lo, hi, inside) in
    let row : Option Row = rows_overlaid c.args.self.now.known_nodes c.args.draft.now.rows c.args.node in
    let known_nodes : c.args.self.now.known_nodes ≡ c.self.inside.known_nodes = ap (λ (p : ServerParts). p.known_nodes) (sym c.self.view_is) in
    let none : row ≡ None = ap (λ (cs : List KnownNode). rows_overlaid cs c.args.draft.now.rows c.args.node) known_nodes ∙ c.in_default.ensures.row in
    free_around-none (row_told (told_to c.args.told.now c.args.node) row) c.args.required c.args.within c.args.mode order c.requires.starts_within c.requires.ends_within (told-nothing (told_to c.args.told.now c.args.node) row none)

pub free_around-free-requires-clause-free : goal.free_around-free-requires-clause-free
free_around-free-requires-clause-free c =
    let there : Row = seen c.in-Some.row in
    let row : Option Row = rows_overlaid c.args.self.now.known_nodes c.args.draft.now.rows c.args.node in
    let known_nodes : c.args.self.now.known_nodes ≡ c.self.inside.known_nodes = ap (λ (p : ServerParts). p.known_nodes) (sym c.self.view_is) in
    let is : row ≡ Some there = ap (λ (cs : List KnownNode). rows_overlaid cs c.args.draft.now.rows c.args.node) known_nodes ∙ c.in-Some.ensures.row in
    row_free (Some there) c.args.required c.args.mode (told-clear (told_to c.args.told.now c.args.node) there c.args.required c.args.mode (ap (λ (o : Option Row). row_conflicts (row_told (told_to c.args.told.now c.args.node) o) c.args.required c.args.mode) (sym is) ∙ c.requires.free))

pub returns-in-Some-told_to : goal.returns-in-Some-told_to
returns-in-Some-told_to c =
    let lo = ap (λ (s : Range). s.lo) c.required.view_is in
    let hi = ap (λ (s : Range). s.hi) c.required.view_is in
    let inside = c.required.invariant.0 in
    let order : c.args.required.lo ≤ c.args.required.hi = omega (arith, lo, hi, inside) in
    let t : SentCommand = c.in-Some-told_to.told.now in
    let there : Row = seen c.in-Some.row in
    let row : Option Row = rows_overlaid c.args.self.now.known_nodes c.args.draft.now.rows c.args.node in
    let known_nodes : c.args.self.now.known_nodes ≡ c.self.inside.known_nodes = ap (λ (p : ServerParts). p.known_nodes) (sym c.self.view_is) in
    let is : row ≡ Some there = ap (λ (cs : List KnownNode). rows_overlaid cs c.args.draft.now.rows c.args.node) known_nodes ∙ c.in-Some.ensures.row in
    let tells : told_to c.args.told.now c.args.node ≡ Some t = sym c.told_to.ensures ∙ ap option_copied c.in-Some-told_to.is in
    let same : row_told (told_to c.args.told.now c.args.node) row ≡ row_told (Some t) (Some there) = (λ i. row_told (tells i) (is i)) in
    let clear = ap (λ (o : Option Row). row_conflicts o c.args.required c.args.mode) (sym same) ∙ c.requires.free in
    let l = c.free_around-free.ensures.largest in
    around-cut t there c.args.required c.args.within c.free_around-free.result c.cut_granted.result c.args.mode order c.requires.starts_within c.requires.ends_within l.has_first l.has_last clear c.free_around-free.ensures.value c.cut_granted.ensures
    ∙ ap (λ (o : Option Row). largest_around (λ b. row_conflicts_at o b c.args.mode) c.args.required c.args.within) (sym same)
