-- A script has one outcome at most.
use Rattle.std.proofs.Common.{◌≡◌, ℕ, Bool, inl, inr, arith, sym, ◌∙◌, ap, subst, List, [], ◌∷◌}
use Rattle.std.proofs.lemmas.Bool.{cases_lt, false≢true}
use Rattle.std.proofs.lemmas.Option.{slice_get_within, none-some, same_Some}
use Rattle.std.specs.Prelude.{slice_get, Option, Some, None, IfSome}
use Rattle.std.specs.declared.result.Result.{Result}
use Rattle.std.specs.declared.result.Result.TheVariants.{Ok, Err}
use Rattle.messages.specs.declared.refusal.Refused.{Refused}
use Rattle.messages.specs.declared.refusal.Refused.TheVariants.{NoMemory, Fenced}
use Rattle.messages.specs.declared.event.Event.TheVariants as event
use Rattle.messages.specs.declared.event.NodeInput.TheVariants as input
use Rattle.messages.specs.declared.event.ServerInput.TheVariants as order
use Rattle.messages.specs.declared.event.MemberEvent.TheVariants as change
use Rattle.messages.specs.declared.message.Message.{Message}
use Rattle.messages.specs.declared.entry.Entry.{Entry}
use Rattle.cluster_core.specs.rule.World.{WorldState}
use Rattle.cluster_core.specs.rule.Next.{kept_next}
use Rattle.cluster_core.specs.rule.Journals.{delivery}
use Rattle.lockscript.specs.declared.script_line.ScriptCommand.{ScriptCommand}
use Rattle.lockscript.specs.declared.script_line.ScriptCommand.TheVariants.{Call, Deliver, Lose, Settle, Interrupt, Retry, Resend, Declare, Restart, Learn, FailServer, StartServer}
use Rattle.lockscript.specs.rule.Scripts.{LineFields}
use Rattle.player.specs.rule.Progress.{Progress, End, first_progress, after_delivery, index_of, settling, Ends, InTurn, Passes, IsLeastUnsettled, IsNextMessage, Delivers, IsSettled, Does, played_of}
use Rattle.player.specs.code.Rounds.{ComesToOne, FullComesToNothing}

ends_one : (line : ℕ) (p : Progress) (q s : End) (r : Result (WorldState × Entry) Refused) → Ends line p r q → Ends line p r s → q ≡ s
ends_one line p q s (Ok made) a b = a ∙ sym b
ends_one line p q s (Err NoMemory) a b = absurd a
ends_one line p q s (Err refusal) a b = a ∙ sym b

passes_one : (line : ℕ) (p : Progress) (q s : End) (r : Result (WorldState × Entry) Refused) → Passes line p r q → Passes line p r s → q ≡ s
passes_one line p q s (Err Fenced) a b = a ∙ sym b
passes_one line p q s r a b = ends_one line p q s r a b

some_one : (o : Option Message) (m n : Message) → o ≡ Some m → o ≡ Some n → m ≡ n
some_one o m n a b = cc

least_one : (settled : ℕ → Bool) (i j : ℕ) → IsLeastUnsettled settled i → IsLeastUnsettled settled j → i ≡ j
least_one settled i j a b = elim (cases_lt i j) [
  | inl lt ↦ absurd (false≢true (sym a.unsettled ∙ b.before i lt))
  | inr ge ↦ elim (cases_lt j i) [
    | inl lt ↦ absurd (false≢true (sym b.unsettled ∙ a.before j lt))
    | inr le ↦ omega (arith, ge, le)
  ]
]

-- a run has one next message at most
next_one : (p : Progress) (i j : ℕ) (m n : Message) → IsNextMessage p i m → IsNextMessage p j n → (i ≡ j) × (m ≡ n)
next_one p i j m n a b =
    let same = least_one p.settled i j a.least b.least in
    let P : ℕ → Type 0 = λ k. slice_get p.world.sent k ≡ Some n in
    (same, some_one (slice_get p.world.sent i) m n a.sent (subst P (sym same) b.sent))

-- a run in which each message is settled has no next message
settled_next : (p : Progress) (i : ℕ) (m : Message) → IsSettled p → IsNextMessage p i m → ⊥
settled_next p i m settled is = false≢true (sym is.least.unsettled ∙ settled i (slice_get_within p.world.sent i m is.sent))

delivers_one : (line : ℕ) (p : Progress) (q s : End) (m n : Message) → Delivers line m p q → Delivers line n p s → q ≡ s
delivers_one line p q s m n a b =
    let same = next_one p a.0 b.0 m n a.1 b.1 in
    let P : Message → Type 0 = λ x. Passes line (settling b.0 p) (kept_next p.world (event.Deliver x)) s in
    let Q : ℕ → Type 0 = λ k. Passes line (settling k p) (kept_next p.world (event.Deliver m)) s in
    passes_one line (settling a.0 p) q s (kept_next p.world (event.Deliver m)) a.2 (subst Q (sym same.0) (subst P (sym same.1) b.2))

-- a run in which each message is settled delivers none
none_left : (line : ℕ) (p : Progress) (q mid : End) (m : Message) → q ≡ Some p → IfSome q IsSettled → Delivers line m p mid → ⊥
none_left line p q mid m is settled delivers =
    let P : End → Type 0 = λ x. IfSome x IsSettled in
    settled_next p delivers.0 m (subst P is settled) delivers.1

settles_one : (line : ℕ) (p q s : End) (ms ns : List Message) → InTurn (Delivers line) p ms q → IfSome q IsSettled → InTurn (Delivers line) p ns s → IfSome s IsSettled → q ≡ s
settles_one line None q s ms ns a q_settled b s_settled = a ∙ sym b
settles_one line (Some p) q s [] [] a q_settled b s_settled = a ∙ sym b
settles_one line (Some p) q s [] (n ∷ ns) a q_settled b s_settled = absurd (none_left line p q b.0 n a q_settled b.1)
settles_one line (Some p) q s (m ∷ ms) [] a q_settled b s_settled = absurd (none_left line p s a.0 m b s_settled a.1)
settles_one line (Some p) q s (m ∷ ms) (n ∷ ns) a q_settled b s_settled =
    let P : End → Type 0 = λ x. InTurn (Delivers line) x ns s in
    settles_one line a.0 q s ms ns a.2 q_settled (subst P (sym (delivers_one line p a.0 b.0 m n a.1 b.1)) b.2) s_settled

does_one : (line : ℕ) (c : ScriptCommand) (p : Progress) (q s : End) → Does line c p q → Does line c p s → q ≡ s
does_one line (Call node pid op) p q s a b = ends_one line p q s (kept_next p.world (event.AtNode node (input.Call pid op))) a b
does_one line (Deliver number) p q s a b =
    let made = delivery p.world (slice_get p.world.sent (index_of number)) in
    ends_one line (after_delivery (index_of number) p made) q s made a b
does_one line (Lose number) p q s a b = a ∙ sym b
does_one line (Interrupt node pid) p q s a b = ends_one line p q s (kept_next p.world (event.AtNode node (input.Interrupt pid))) a b
does_one line (Retry node pid) p q s a b = ends_one line p q s (kept_next p.world (event.AtNode node (input.Retry pid))) a b
does_one line (Resend file) p q s a b = ends_one line p q s (kept_next p.world (event.AtServer file order.Resend)) a b
does_one line (Declare node) p q s a b = ends_one line p q s (kept_next p.world (event.Member (change.Declare node))) a b
does_one line (Restart node) p q s a b = ends_one line p q s (kept_next p.world (event.Member (change.Restart node))) a b
does_one line (Learn file node incarnation) p q s a b = ends_one line p q s (kept_next p.world (event.AtServer file (order.Learn node incarnation))) a b
does_one line (FailServer file) p q s a b = ends_one line p q s (kept_next p.world (event.Member (change.FailServer file))) a b
does_one line (StartServer file) p q s a b = ends_one line p q s (kept_next p.world (event.Member (change.StartServer file))) a b
does_one line Settle p q s a b = settles_one line (Some p) q s a.0 b.0 a.1 a.2 b.1 b.2

-- the lines, run in order from one end, come to another
abbrev Runs : End → List LineFields → End → Type 0
Runs = InTurn (λ (l : LineFields). Does l.number l.command)

runs_one : (p q s : End) (ls : List LineFields) → Runs p ls q → Runs p ls s → q ≡ s
runs_one None q s ls a b = a ∙ sym b
runs_one (Some p) q s [] a b = a ∙ sym b
runs_one (Some p) q s (l ∷ ls) a b =
    let P : End → Type 0 = λ x. Runs x ls s in
    runs_one a.0 q s ls a.2 (subst P (sym (does_one l.number l.command p a.0 b.0 a.1 b.1)) b.2)

pub comes_to_one : ComesToOne
comes_to_one shape lines a b first second =
    let same = same_Some first.0 second.0 (runs_one (Some (first_progress shape)) (Some first.0) (Some second.0) lines first.1 second.1) in
    first.2 ∙ (ap (λ (p : Progress). played_of shape p) same ∙ sym second.2)

pub full_comes_to_nothing : FullComesToNothing
full_comes_to_nothing shape lines played full comes = none-some comes.0 (runs_one (Some (first_progress shape)) None (Some comes.0) lines full comes.1)
