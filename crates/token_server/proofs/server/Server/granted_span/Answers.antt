use Rattle.std.specs.Prelude.{◌≡◌, ◌≤◌}
use Rattle.std.proofs.Common.{subst, sym, ap, ◌∙◌, arith}
use Rattle.intervals.specs.rule.Bytes.{Range}
use Rattle.token_server.specs.rule.Serve.{narrowed}
use Rattle.token_server.specs.rule.Parts.{ServerParts}
use Rattle.token_server.specs.code.Edits.{with_told, drafted}
use Rattle.token_server.proofs.GrantLaws.{narrowed-begin, narrowed-holds, narrowed-free, narrowed-more, narrowed-skip, narrowed-end, granted-exact, one_span}
use Rattle.token_server.proofs.server.Server.granted_span.Goals.{then-not-is_of_node, else-not-is_of_node}
use Rattle.token_server.proofs.server.Server.granted_span.Goals as goal

pub returns-then-eq : goal.returns-then-eq
returns-then-eq c =
    let r = c.args.request.now in
    let u = with_told c.args.told.now (drafted c.args.self.now c.args.draft.now) in
    let same : narrowed u.active r ≡ r.wanted.required = sym c.narrowed-span.ensures.value ∙ one_span c.narrowed-span.result c.required-required.result _ c.eq.ensures c.if-eq.true ∙ c.required-required.ensures.value in
    c.narrowed-span.ensures.value ∙ granted-exact u r c.requires (rw (← c.required-required.ensures.value) c.required-required.ensures.ordered) (ap (λ (s : Range). s.lo) same) (ap (λ (s : Range). s.hi) same)

pub loop-place-init : goal.loop-place-init
loop-place-init c =
    let s = with_told c.args.told.now (drafted c.args.self.now c.args.draft.now) in
    let r = c.args.request.now in
    rw c.narrowed-span.ensures.value (narrowed-begin s r (rw (← c.required-required.ensures.value) c.required-required.ensures.ordered) (subst (λ (x : Range). x.lo ≤ r.wanted.required.lo) c.narrowed-span.ensures.value c.narrowed-span.ensures.starts_before) (subst (λ (x : Range). r.wanted.required.hi ≤ x.hi) c.narrowed-span.ensures.value c.narrowed-span.ensures.ends_after))

pub free_around-span-requires-clause-starts_within : goal.free_around-span-requires-clause-starts_within
free_around-span-requires-clause-starts_within c =
    let nodes : c.nodes-place-end.result ≡ c.args.self.now.shape.nodes = c.nodes-place-end.ensures.value ∙ ap (λ (p : ServerParts). p.shape.nodes) c.self.view_is in
    rw c.required-required.ensures.value (narrowed-holds _ _ c.loop-place.place _ c.requires (omega arith) c.loop-place.invariant).0

pub free_around-span-requires-clause-ends_within : goal.free_around-span-requires-clause-ends_within
free_around-span-requires-clause-ends_within c =
    let nodes : c.nodes-place-end.result ≡ c.args.self.now.shape.nodes = c.nodes-place-end.ensures.value ∙ ap (λ (p : ServerParts). p.shape.nodes) c.self.view_is in
    rw c.required-required.ensures.value (narrowed-holds _ _ c.loop-place.place _ c.requires (omega arith) c.loop-place.invariant).1

pub free_around-span-requires-clause-free : goal.free_around-span-requires-clause-free
free_around-span-requires-clause-free c =
    let nodes : c.nodes-place-end.result ≡ c.args.self.now.shape.nodes = c.nodes-place-end.ensures.value ∙ ap (λ (p : ServerParts). p.shape.nodes) c.self.view_is in
    rw c.required-required.ensures.value (narrowed-free (with_told c.args.told.now (drafted c.args.self.now c.args.draft.now)) c.args.request.now c.loop-place.place c.requires (omega arith) (sym c.is_of_node.ensures ∙ c.if-not-is_of_node.true))

pub loop-place-preserved : goal.loop-place-preserved
loop-place-preserved c =
    let s = with_told c.args.told.now (drafted c.args.self.now c.args.draft.now) in
    let r = c.args.request.now in
    let nodes : c.nodes-place-end.result ≡ c.args.self.now.shape.nodes = c.nodes-place-end.ensures.value ∙ ap (λ (p : ServerParts). p.shape.nodes) c.self.view_is in
    elim c.if-not-is_of_node.branch [
      | then-not-is_of_node w ↦ rw w.span-is (narrowed-more s r c.loop-place.place c.loop-place.span _ c.requires (omega arith) c.loop-place.invariant (sym c.is_of_node.ensures ∙ w.if-not-is_of_node.true) (rw (← c.required-required.ensures.value) w.free_around-span.ensures))
      | else-not-is_of_node w ↦ rw w.span-is (narrowed-skip s r c.loop-place.place c.loop-place.span c.loop-place.invariant (sym c.is_of_node.ensures ∙ w.if-not-is_of_node.false))
    ]

pub returns : goal.returns
returns c =
    let nodes : c.nodes-place-end.result ≡ c.args.self.now.shape.nodes = c.nodes-place-end.ensures.value ∙ ap (λ (p : ServerParts). p.shape.nodes) c.self.view_is in
    narrowed-end (with_told c.args.told.now (drafted c.args.self.now c.args.draft.now)) c.args.request.now c.loop-place.place c.loop-place.span c.loop-place.invariant (omega arith)
