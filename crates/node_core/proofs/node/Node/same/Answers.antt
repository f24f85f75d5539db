use Rattle.std.proofs.lemmas.Bool.{iff_false, false≢true}
use Rattle.node_core.proofs.NodeLaws.{same-state, state-same}
use Rattle.node_core.proofs.node.Node.same.Goals as goal

pub returns-then-not-same_shape : goal.returns-then-not-same_shape
returns-then-not-same_shape c = rw (← c.self.view_is, ← c.other.view_is) (λ h. absurd (false≢true h), λ e. absurd (iff_false c.same_shape.ensures c.if-not-same_shape.true (state-same _ _ e).shape))

pub returns-then-self-other : goal.returns-then-self-other
returns-then-self-other c = rw (← c.self.view_is, ← c.other.view_is) (λ h. absurd (false≢true h), λ e. absurd (c.if-self-other.true (state-same _ _ e).node))

pub returns-then-self-other-2 : goal.returns-then-self-other-2
returns-then-self-other-2 c = rw (← c.self.view_is, ← c.other.view_is) (λ h. absurd (false≢true h), λ e. absurd (c.if-self-other-2.true (state-same _ _ e).incarnation))

pub returns-then-self-other-3 : goal.returns-then-self-other-3
returns-then-self-other-3 c = rw (← c.self.view_is, ← c.other.view_is) (λ h. absurd (false≢true h), λ e. absurd (c.if-self-other-3.true (state-same _ _ e).calls))

pub returns-then-not-same : goal.returns-then-not-same
returns-then-not-same c = rw (← c.self.view_is, ← c.other.view_is) (λ h. absurd (false≢true h), λ e. absurd (iff_false c.same.ensures c.if-not-same.true (state-same _ _ e).pending))

pub returns-then-not-same-2 : goal.returns-then-not-same-2
returns-then-not-same-2 c = rw (← c.self.view_is, ← c.other.view_is) (λ h. absurd (false≢true h), λ e. absurd (iff_false c.same-2.ensures c.if-not-same-2.true (state-same _ _ e).processes))

pub returns-then-not-same-3 : goal.returns-then-not-same-3
returns-then-not-same-3 c = rw (← c.self.view_is, ← c.other.view_is) (λ h. absurd (false≢true h), λ e. absurd (iff_false c.same-3.ensures c.if-not-same-3.true (state-same _ _ e).locks))

pub returns : goal.returns
returns c =
    rw (← c.self.view_is, ← c.other.view_is) (
      λ h. same-state _ _ (record {
        shape = c.same_shape.ensures.0 c.if-not-same_shape.false;
        node = c.if-self-other.false;
        incarnation = c.if-self-other-2.false;
        calls = c.if-self-other-3.false;
        processes = c.same-2.ensures.0 c.if-not-same-2.false;
        locks = c.same-3.ensures.0 c.if-not-same-3.false;
        pending = c.same.ensures.0 c.if-not-same.false;
        files = c.same-4.ensures.0 h;
      }),
      λ e. c.same-4.ensures.1 (state-same _ _ e).files,
    )
