use Rattle.std.specs.Prelude.{◌≡◌, ◌+◌, All, Option, None, MatchOption}
use Rattle.std.proofs.Common.{sym, ap, subst, ◌∙◌, arith, map}
use Rattle.std.proofs.lemmas.List.Elements.{All-push}
use Rattle.token_server.specs.declared.shown_row.ShownRow.{ShownRow}
use Rattle.token_server.specs.rule.Parts.{server_state}
use Rattle.token_server.specs.code.Rows.{IsRow}
use Rattle.token_server.proofs.ReaderLaws.{shown-more, shown-same}
use Rattle.token_server.proofs.server.Server.rows.Goals.{in-Some+in_ok-push, in_default}
use Rattle.token_server.proofs.server.Server.rows.Goals as goal

pub loop-place-preserved : goal.loop-place-preserved
loop-place-preserved c =
    let i = c.loop-place.place in
    let s = server_state c.args.self.now in
    let rows = c.loop-place.rows.items in
    let next : 1 + i ≡ i + 1 = omega arith in
    let P : Option ShownRow → Type 0 = λ o. MatchOption o (s.rows (i + 1) ≡ None) (λ r. IsRow s r × (r.node ≡ i + 1)) in
    elim c.match-branch-2.branch [
      | in-Some+in_ok-push w ↦
          let r : ShownRow = w.in-Some.row in
          let is : IsRow s r × (r.node ≡ i + 1) = subst P w.in-Some.is c.in_ok-row.ensures in
          let pushed = w.in_ok-push.ensures.items in
          rw w.rows-is (record {
            nodes = ap (map (λ (q : ShownRow). q.node)) pushed ∙ shown-more s i (i + 1) rows r next is c.loop-place.invariant.nodes;
            each = subst (All (IsRow s)) (sym pushed) (All-push (IsRow s) rows r c.loop-place.invariant.each is.0);
          })
      | in_default w ↦
          let none : s.rows (i + 1) ≡ None = subst P w.in_default.is c.in_ok-row.ensures in
          rw w.rows-is (record {
            nodes = shown-same s i (i + 1) rows next none c.loop-place.invariant.nodes;
            each = c.loop-place.invariant.each;
          })
    ]
