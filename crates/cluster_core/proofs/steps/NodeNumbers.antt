-- A node's step keeps its number, and names a call by it.
use Rattle.std.proofs.Common.{◌≡◌, ℕ, ◌+◌, inl, inr, refl, ap, subst, Option, Some, None, Ok}
use Rattle.model.specs.declared.call.CallId.{CallId}
use Rattle.token_set.specs.rule.Tokens.{raised}
use Rattle.messages.specs.declared.event.NodeInput.TheVariants.{Call, Interrupt, Retry}
use Rattle.messages.specs.declared.message.Message.{Message}
use Rattle.messages.specs.declared.message.Message.TheVariants.{Grant, Revoke, Taken, Deny, Hello}
use Rattle.messages.specs.declared.outcome.Outcome.{Outcome}
use Rattle.node_core.specs.declared.event.NodeEvent.{NodeEvent}
use Rattle.node_core.specs.declared.event.NodeEvent.TheVariants.{Input, Deliver}
use Rattle.node_core.specs.rule.State.{NodeState, Effect, open_call, open_call_of}
use Rattle.node_core.specs.rule.Commands.{in_epoch, in_order, after_command, granted, revoked, delivered}
use Rattle.node_core.specs.rule.Node.{node_rule}
use Rattle.cluster_core.proofs.steps.NodeSteps.{call_done, deliver_done, interrupt_done, retry_done, remembered_state, in_order_either, told_either}
use Rattle.cluster_core.proofs.steps.NodeTokens.{called_asks, tried_if_asks, denied_asks, interrupted_asks}

-- both are states of one node, in one incarnation
abbrev OfOneHost : NodeState → NodeState → Type 0
OfOneHost s t = (t.node ≡ s.node) × (t.incarnation ≡ s.incarnation)

in_order-host : (s : NodeState) (file number : ℕ) (e : Effect) → OfOneHost s e.state → OfOneHost s (in_order s file number e).state
in_order-host s file number e kept =
    let is = remembered_state s (s.files file).answer in
    in_order_either (λ x. OfOneHost s x.state) s file number e (λ next. kept) (ap (λ (x : NodeState). x.node) is, ap (λ (x : NodeState). x.incarnation) is) (refl, refl)

-- a message leaves the node its number and its incarnation
delivered-host : (s : NodeState) (m : Message) → OfOneHost s (delivered s m).state
delivered-host s (Grant file number call mode span) =
    let t = in_epoch s file number in
    let next = after_command t file (raised (t.files file).token span mode) number (Taken file number call) (t.files file).owes_freed in
    let asks = tried_if_asks next (open_call next call.number) in
    in_order-host t file number (granted t file number call mode span) (asks.node_is, asks.incarnation_is)
delivered-host s (Revoke file number holder call mode wanted) = let t = in_epoch s file number in in_order-host t file number (revoked t file number call mode wanted) (refl, refl)
delivered-host s (Hello file number holder) = told_either (λ e. OfOneHost s e.state) (in_epoch s file number) file number (λ is. (refl, refl)) (refl, refl)
delivered-host s (Deny file call holder number lock) = let asks = denied_asks s lock (open_call s call.number) in (asks.node_is, asks.incarnation_is)
delivered-host s m = (refl, refl)

-- a call is named by its node, and nothing else is named
abbrev pub NamesBy : ℕ → NodeEvent → Option CallId → Type 0
NamesBy node (Input (Call pid op)) None = ⊥
NamesBy node (Input (Call pid op)) (Some id) = id.node ≡ node
NamesBy node (Deliver m) call = call ≡ None
NamesBy node (Input (Interrupt pid)) call = call ≡ None
NamesBy node (Input (Retry pid)) call = call ≡ None

pub record Steps (s : NodeState) (event : NodeEvent) (done : NodeState × Outcome) : Type 0 where
  pub node : done.0.node ≡ s.node
  pub incarnation : done.0.incarnation ≡ s.incarnation
  pub named : NamesBy s.node event done.1.call

pub node_rule-steps : (s : NodeState) (event : NodeEvent) (done : NodeState × Outcome) → node_rule s event ≡ Ok done → Steps s event done
node_rule-steps s (Input (Call pid op)) done h =
    let counted = record s { calls = s.calls + 1 } in
    subst (Steps s (Input (Call pid op))) (call_done s pid op done h) (record { node = (called_asks counted (s.calls + 1) pid op).node_is; incarnation = (called_asks counted (s.calls + 1) pid op).incarnation_is; named = refl })
node_rule-steps s (Deliver m) done h = elim (deliver_done s m done h) [
  | inl taken ↦ let same = delivered-host s m in subst (Steps s (Deliver m)) taken.1 (record { node = same.0; incarnation = same.1; named = refl })
  | inr passed ↦ subst (Steps s (Deliver m)) passed (record { node = refl; incarnation = refl; named = refl })
]
node_rule-steps s (Input (Interrupt pid)) done h =
    let asks = interrupted_asks s (open_call_of s pid) in
    subst (Steps s (Input (Interrupt pid))) (interrupt_done s pid done h) (record { node = asks.node_is; incarnation = asks.incarnation_is; named = refl })
node_rule-steps s (Input (Retry pid)) done h =
    subst (Steps s (Input (Retry pid))) (retry_done s pid done h) (record { node = (tried_if_asks s (open_call_of s pid)).node_is; incarnation = (tried_if_asks s (open_call_of s pid)).incarnation_is; named = refl })
