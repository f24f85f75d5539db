use Rattle.std.specs.Prelude.{◌≡◌, ℕ, ◌+◌, Bool, false, All, map}
use Rattle.std.proofs.Common.{sym, ap, subst, ◌∙◌, arith}
use Rattle.std.proofs.lemmas.List.Elements.{All-push}
use Rattle.token_server.specs.rule.Parts.{server_state}
use Rattle.messages.specs.rule.Shapes.{most_files}
use Rattle.token_server.specs.code.Rows.{nodes_where}
use Rattle.token_server.proofs.ReaderLaws.{nodes_where-missing}
use Rattle.cluster_core.specs.rule.Parts.{world_state}
use Rattle.states.specs.declared.cluster_state.ToldServer.{ToldServer}
use Rattle.states.specs.rule.States.{works, IsToldServer}
use Rattle.states.proofs.ToldLaws.{numbers-more, server-at}
use Rattle.states.proofs.cluster_state.servers.Goals.{in-Some+in_ok-of+in_ok-push, in_default}
use Rattle.states.proofs.cluster_state.servers.Goals as goal

pub loop-place-preserved : goal.loop-place-preserved
loop-place-preserved c =
    let i = c.loop-place.place in
    let w = world_state c.args.world.now in
    let servers = c.loop-place.servers.items in
    let passes : ℕ → Bool = works w in
    let number : ToldServer → ℕ = λ s. s.file in
    let Is : ToldServer → Type 0 = λ s. IsToldServer (w.servers s.file) s in
    let next : 1 + i ≡ i + 1 = omega arith in
    elim c.match-server_of.branch [
      | in-Some+in_ok-of+in_ok-push q ↦
          let t : ToldServer = q.in_ok-of.field-0 in
          let pushed = q.in_ok-push.ensures.items in
          let found = q.in-Some.ensures in
          let is : t.file ≡ i + 1 = q.in_ok-of.ensures.file ∙ q.of.ensures in
          rw q.servers-is (record {
            files = ap (map number) pushed ∙ numbers-more number passes i (i + 1) servers t next found.0 is c.loop-place.invariant.files;
            each = subst (All Is) (sym pushed) (All-push Is servers t c.loop-place.invariant.each (server-at w (server_state q.in-Some.server.now) t (i + 1) found.1 is q.in_ok-of.ensures.told));
          })
      | in_default q ↦
          let gone : passes (i + 1) ≡ false = q.in_default.ensures in
          rw q.servers-is (record {
            files = c.loop-place.invariant.files ∙ sym (nodes_where-missing passes i (i + 1) next gone);
            each = c.loop-place.invariant.each;
          })
    ]

pub returns-clause-files : goal.returns-clause-files
returns-clause-files c =
    let last : c.loop-place.place ≡ most_files = omega (arith, c.loop-place-test.false, c.loop-place.auto.place-end) in
    c.loop-place.invariant.files ∙ ap (nodes_where (works (world_state c.args.world.now))) last
