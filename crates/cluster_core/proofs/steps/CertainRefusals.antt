-- A refusal of an actor's own step is a refusal of the world.
use Rattle.std.specs.Prelude.{◌≢◌, Bool, true, false, cond, not, ◌&&◌, nat_le}
use Rattle.std.proofs.Common.{◌≡◌, ℕ, refl, sym, ◌∙◌, ap, Result, Ok, Err}
use Rattle.messages.specs.rule.Entries.{refused_by}
use Rattle.messages.specs.rule.Shapes.{may_rebuild}
use Rattle.messages.specs.declared.event.Event.{Event}
use Rattle.messages.specs.declared.event.Event.TheVariants.{Member}
use Rattle.messages.specs.declared.event.MemberEvent.TheVariants.{Declare, FailServer}
use Rattle.messages.specs.declared.entry.Entry.{Entry}
use Rattle.messages.specs.declared.outcome.Outcome.{Outcome}
use Rattle.messages.specs.declared.refusal.Refused.{Refused}
use Rattle.messages.specs.declared.refusal.Refused.TheVariants.{JournalFull, Stranger, NotAlive, Spent}
use Rattle.messages.specs.declared.refusal.StepError.{StepError}
use Rattle.node_core.specs.rule.State.{NodeState}
use Rattle.token_server.specs.rule.State.{ServerState}
use Rattle.cluster_core.specs.rule.World.{WorldState, journal_limit, has_node, has_file}
use Rattle.cluster_core.specs.rule.Next.{after_node, after_server, kept_next}

pub err_is : {A E : Type 0} (a b : E) → ◌≡◌ {A = Result A E} (Err a) (Err b) → a ≡ b
err_is a b e = cc

-- a refusal of a node's step is the node's own
pub node_refused : (w : WorldState) (event : Event) (n : ℕ) (x : Result (NodeState × Outcome) StepError) (r : Refused) → after_node w event n x ≡ Err r → (e : StepError) × (x ≡ Err e) × (refused_by e ≡ r)
node_refused w event n (Ok done) r refused = absurd (cc)
node_refused w event n (Err e) r refused = (e, refl, err_is {A = WorldState × Entry} (refused_by e) r refused)

-- a refusal of a token server's step is the server's own
pub server_refused : (w : WorldState) (event : Event) (file : ℕ) (x : Result (ServerState × Outcome) StepError) (r : Refused) → after_server w event file x ≡ Err r → (e : StepError) × (x ≡ Err e) × (refused_by e ≡ r)
server_refused w event file (Ok done) r refused = absurd (cc)
server_refused w event file (Err e) r refused = (e, refl, err_is {A = WorldState × Entry} (refused_by e) r refused)

-- a step of its actor that is done is not refused
pub node_goes : (w : WorldState) (event : Event) (n : ℕ) (x : Result (NodeState × Outcome) StepError) (done : NodeState × Outcome) (q : Result (WorldState × Entry) Refused) (r : Refused) → x ≡ Ok done → q ≡ after_node w event n x → q ≡ Err r → ⊥
node_goes w event n x done q r is gives refused =
    let both = sym refused ∙ (gives ∙ ap (after_node w event n) is) in
    absurd (cc)

pub server_goes : (w : WorldState) (event : Event) (file : ℕ) (x : Result (ServerState × Outcome) StepError) (done : ServerState × Outcome) (q : Result (WorldState × Entry) Refused) (r : Refused) → x ≡ Ok done → q ≡ after_server w event file x → q ≡ Err r → ⊥
server_goes w event file x done q r is gives refused =
    let both = sym refused ∙ (gives ∙ ap (after_server w event file) is) in
    absurd (cc)

unspent : (e : Refused) (full known works : Bool) (made : WorldState × Entry) → cond full (Err JournalFull) (cond (not known) (Err Stranger) (cond works (Ok made) (Err NotAlive))) ≡ Err e → e ≢ Spent
unspent e true known works made h = λ spent. absurd (cc)
unspent e false false works made h = λ spent. absurd (cc)
unspent e false true true made h = λ spent. absurd (cc)
unspent e false true false made h = λ spent. absurd (cc)

-- a declaration is not refused for want of a number
pub declare-unspent : (w : WorldState) (n : ℕ) (e : Refused) → kept_next w (Member (Declare n)) ≡ Err e → e ≢ Spent
declare-unspent w n e h = unspent e (nat_le journal_limit w.length) (has_node w n) (w.alive n) _ h

-- a failure of a token server is not refused for want of a number
pub fail-unspent : (w : WorldState) (file : ℕ) (e : Refused) → kept_next w (Member (FailServer file)) ≡ Err e → e ≢ Spent
fail-unspent w file e h = unspent e (nat_le journal_limit w.length) (may_rebuild w.shape.version && has_file w file) (w.working file) _ h
