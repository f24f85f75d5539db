use Rattle.std.specs.Prelude.{◌≡◌, ℕ, ◌≤◌, Bool, true, false}
use Rattle.std.proofs.Common.{refl, sym, ap, subst, ◌∙◌}
use Rattle.std.proofs.lemmas.Bool.{false≢true}
use Rattle.intervals.specs.rule.Bytes.{Range, greatest}
use Rattle.model.specs.declared.mode.Mode.{Mode}
use Rattle.model.specs.declared.mode.Mode.TheVariants.{Read, Write}
use Rattle.model.specs.contracts.mode.ModePartialEq.TheImpl as derived
use Rattle.token_server.specs.declared.token_queue.token_request.TokenRequest.{TokenRequest}
use Rattle.token_server.specs.rule.Rows.{row_conflicts}
use Rattle.token_server.specs.code.Rows.{NoneExclusive}
use Rattle.token_server.specs.code.Edits.{reached}
use Rattle.token_server.proofs.KnownNodeLaws.{exclusive-readable}
use Rattle.token_server.proofs.AwaitLaws.{unopposed-own}
use Rattle.token_server.proofs.server.Server.obstacle.Goals as goal

only_read : (mode : Mode) (same : Bool) → same ≡ derived.ghosts.eq mode Read → same ≡ true → mode ≡ Read
only_read Read same is true_is = refl
only_read Write same is true_is = absurd (false≢true (sym is ∙ true_is))

pub returns-then-eq : goal.returns-then-eq
returns-then-eq c =
    let r = c.args.request.now in
    let p = c.args.self.now in
    let span : Range = r.wanted.required in
    let within : span.hi ≤ greatest =
    subst (λ (s : Range). s.hi ≤ greatest) (c.required.view_is ∙ c.required-required.ensures.value) c.required.invariant.1 in
    let none : NoneExclusive (reached p c.args.rows.now).rows = c.requires c.if-readable.true in
    let reads : r.mode ≡ Read = ap (λ (x : TokenRequest). x.mode) (sym c.request.view_is) ∙ only_read _ c.eq.result c.eq.ensures c.if-eq.true in
    let free : (node : ℕ) → row_conflicts ((reached p c.args.rows.now).rows node) span r.mode ≡ false =
    λ node. ap (λ (m : Mode). row_conflicts ((reached p c.args.rows.now).rows node) span m) reads
    ∙ exclusive-readable (reached p c.args.rows.now).rows span none within node in
    ap (λ (x : TokenRequest). x.call.node) c.request.view_is ∙ unopposed-own (reached p c.args.rows.now) r free
