-- Stretches that answer no call: the same calls are open in them, and the same locks held.
use Rattle.std.proofs.Common.{◌≡◌, ℕ, true, sym, ◌∙◌, ap, subst, List, ◌∷◌, ◌++◌, Contains, None}
use Rattle.std.proofs.lemmas.Bool.{and_parts}
use Rattle.std.proofs.lemmas.List.Elements.{All-head, All-tail}
use Rattle.model.specs.rule.Locks.{Blocks}
use Rattle.model.specs.rule.Table.{Table}
use Rattle.messages.specs.rule.Shapes.{ShapeFields, IsShape}
use Rattle.messages.specs.rule.Messages.{is_within}
use Rattle.messages.specs.declared.entry.Entry.{Entry}
use Rattle.node_core.specs.declared.open_call.OpenCall.{OpenCall}
use Rattle.token_server.proofs.CareLaws.{All-right}
use Rattle.cluster_core.specs.rule.World.{WorldState, has_node, is_alive}
use Rattle.cluster_core.specs.rule.Runs.{Leads}
use Rattle.cluster_core.specs.rule.Union.{union}
use Rattle.cluster_core.specs.rule.Rests.{IsBlockedHere}
use Rattle.cluster_core.specs.rule.Rounds.{AnswersNone, AllRest, IsBlockedWait}
use Rattle.cluster_core.proofs.runs.Runs.{good_run}
use Rattle.cluster_core.proofs.rounds.Blocked.{blocked_waits}
use Rattle.cluster_core.proofs.rounds.Quiet.{rests-without-answers}
use Rattle.cluster_core.proofs.rounds.Stretches.{Stretch, cut, after_first}

-- a stretch that answers no call
pub record Silent (shape : ShapeFields) (u : WorldState) (es : List Entry) (v : WorldState) : Type 0 where
  pub stretch : Stretch shape u es v
  pub none : AnswersNone es

-- the two parts of such a stretch, and the world between them
pub record SilentCut (shape : ShapeFields) (u : WorldState) (fs es : List Entry) (v : WorldState) : Type 0 where
  pub world : WorldState
  pub first : Leads u fs world
  pub rest : Silent shape world es v

pub silent_parts : (shape : ShapeFields) (u v : WorldState) (fs gs : List Entry) (e : Entry) (hs : List Entry) → gs ≡ fs ++ e ∷ hs → Silent shape u gs v → SilentCut shape u fs (e ∷ hs) v
silent_parts shape u v fs gs e hs split x =
    let y : Silent shape u (fs ++ e ∷ hs) v = subst (λ (xs : List Entry). Silent shape u xs v) split x in
    let c = cut shape u v fs (e ∷ hs) y.stretch in
    record { world = c.world; first = c.first; rest = record { stretch = c.rest; none = All-right (λ (z : Entry). z.reply ≡ None) fs (e ∷ hs) y.none } }

pub silent_after : (shape : ShapeFields) (u v : WorldState) (e : Entry) (es : List Entry) (x : Silent shape u (e ∷ es) v) → Silent shape x.stretch.leads.0 es v
silent_after shape u v e es x = record { stretch = after_first shape u v e es x.stretch; none = All-tail (λ (z : Entry). z.reply ≡ None) e es x.none }

pub silent_head : (shape : ShapeFields) (u v : WorldState) (e : Entry) (es : List Entry) → Silent shape u (e ∷ es) v → e.reply ≡ None
silent_head shape u v e es x = All-head (λ (z : Entry). z.reply ≡ None) e es x.none

pub silent_rests : (shape : ShapeFields) (u v : WorldState) (es : List Entry) → Silent shape u es v → AllRest u v × (union v ≡ union u)
silent_rests shape u v es x = rests-without-answers u v es x.stretch.leads x.stretch.quiet x.none

-- a call that is open at the end of the stretch
module _ (shape : ShapeFields) (is : IsShape shape) (v : WorldState) (n : ℕ) (c : OpenCall) (alive : is_alive v n ≡ true) (at : Contains (v.nodes n).pending c) (u : WorldState) (es : List Entry) (x : Silent shape u es v) where
  pub open_then : Contains (u.nodes n).pending c
  open_then = subst (λ (cs : List OpenCall). Contains cs c) ((silent_rests shape u v es x).0.nodes n).pending at

  pub there_then : has_node u n ≡ true
  there_then = ap (λ (s : ShapeFields). is_within s.nodes n) (sym (silent_rests shape u v es x).0.shape) ∙ (and_parts (has_node v n) (v.alive n) alive).0

  -- a lock that blocks it in the stretch blocks it at the end
  pub blocked_after : IsBlockedWait u c → IsBlockedWait v c
  blocked_after b = record {
    waits = b.waits;
    lock = b.lock;
    blocks = subst (λ (t : Table). Blocks (t.locks c.file) c.owner c.span c.mode b.lock) (sym (silent_rests shape u v es x).1) b.blocks;
  }

  pub here_after : IsBlockedHere (u.nodes n) c → IsBlockedWait v c
  here_after b = blocked_after (blocked_waits shape x.stretch.run u (good_run shape x.stretch.run u is x.stretch.before).0 n there_then c open_then b)
