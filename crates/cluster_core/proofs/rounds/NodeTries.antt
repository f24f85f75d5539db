-- A call that is tried is answered, or it waits for a lock of its own node, or its server is asked.
use Rattle.std.specs.Prelude.{◌≡◌, ◌⊎◌, ℕ, ◌≤◌, Bool, true, false, cond, nat_le, is_some, [], ◌∷◌, ◌++◌, Option, Some, None}
use Rattle.std.proofs.Common.{refl, sym, ap, subst, ◌∙◌, inl, inr, arith}
use Rattle.std.proofs.lemmas.Bool.{and_from, le-leb, eq-eqb, both_ways}
use Rattle.intervals.specs.rule.Bytes.{Range, is_in}
use Rattle.model.specs.declared.mode.Mode.{Mode}
use Rattle.model.specs.declared.mode.Mode.TheVariants.{Read, Write}
use Rattle.model.specs.declared.level.Level.{Level}
use Rattle.model.specs.declared.level.Level.TheVariants.{Shared, Exclusive}
use Rattle.model.specs.declared.lock_info.LockInfo.{LockInfo}
use Rattle.model.specs.rule.Table.{LockTarget, lock_within}
use Rattle.model.specs.rule.Locks.{lowest_blocker}
use Rattle.token_set.specs.rule.Tokens.{Token, serves, covers, raised, raised_level, desired}
use Rattle.token_set.proofs.TokenLaws.{covers-from}
use Rattle.messages.specs.declared.message.Message.TheVariants.{Taken, Freed}
use Rattle.model.specs.declared.op.LockCommand.{LockCommand}
use Rattle.model.specs.declared.op.LockCommand.TheVariants as lock_command
use Rattle.node_core.specs.declared.open_call.OpenCall.{OpenCall}
use Rattle.node_core.specs.rule.State.{NodeState, FileState, Effect, with_file, host, target_of}
use Rattle.node_core.specs.rule.Try.{settled, may_free, with_freed, locked_by, refusal_of, answered_if, answered_here, requested, tried_against, tried_if}
use Rattle.node_core.specs.rule.Commands.{after_command}
use Rattle.cluster_core.specs.rule.Rests.{IsBlockedHere, IsRequested, TryAnswersOrAsks, GrantAnswers}

-- a call is answered
abbrev Answers : Effect → Type 0
Answers e = is_some e.reply ≡ true

freed-answers : (file : ℕ) (e : Effect) → Answers e → Answers (with_freed file e)
freed-answers file e a = by (e.state.files file).owes_freed
  where
    tell : Effect
    tell = record { state = with_file e.state file (record (e.state.files file) { owes_freed = false }); reply = e.reply; sends = e.sends ++ Freed file (host e.state) ∷ [] }

    by : (b : Bool) → Answers (cond b tell e)
    by true = a
    by false = a

if-answers : (b : Bool) (x y : Effect) → Answers x → Answers y → Answers (cond b x y)
if-answers true x y a b = a
if-answers false x y a b = b

locked-answers : (s : NodeState) (number : ℕ) (about : LockTarget) (mode : Option Mode) → Answers (locked_by s number about mode)
locked-answers s number about mode =
    let e = settled s number (lock_within s.table about mode) in
    if-answers (may_free mode (lock_within s.table about mode).1) (with_freed about.file e) e (freed-answers about.file e refl) refl

here-answers : (s : NodeState) (c : OpenCall) (i : LockCommand) → Answers (answered_here s c i)
here-answers s c lock_command.Set = locked-answers s c.number (target_of c) (Some c.mode)
here-answers s c lock_command.Wait = locked-answers s c.number (target_of c) (Some c.mode)
here-answers s c lock_command.Query = refl

-- a lock of the node in the way answers all but a wait
refused : (s : NodeState) (c : OpenCall) (lock : LockInfo) (i : LockCommand) → Answers (answered_if s c.number (refusal_of i lock)) ⊎ (i ≡ lock_command.Wait)
refused s c lock lock_command.Set = inl refl
refused s c lock lock_command.Wait = inr refl
refused s c lock lock_command.Query = inl refl

pub try-answers_or_asks : TryAnswersOrAsks
try-answers_or_asks s c = by (lowest_blocker (s.table.locks c.file) c.owner c.span c.mode) refl
  where
    Comes : Effect → Type 0
    Comes e = Answers e ⊎ (IsBlockedHere s c ⊎ IsRequested s c e)

    open_yet : lowest_blocker (s.table.locks c.file) c.owner c.span c.mode ≡ None → (b : Bool) → covers (s.files c.file).token c.span c.mode ≡ b → Comes (cond b (answered_here s c c.lock_command) (requested s c))
    open_yet free true is = inl (here-answers s c c.lock_command)
    open_yet free false is = inr (inr (record { free = free; uncovered = is; wanted = record { required = c.span; desired = desired s.shape.policy (s.files c.file).token c.span }; required = refl; asks = refl }))

    by : (o : Option LockInfo) → lowest_blocker (s.table.locks c.file) c.owner c.span c.mode ≡ o → Comes (tried_against s c o)
    by (Some lock) is = elim (refused s c lock c.lock_command) [
      | inl answers ↦ inl answers
      | inr waits ↦ inr (inl (record { waits = waits; lock = lock; there = is }))
    ]
    by None is = open_yet is (covers (s.files c.file).token c.span c.mode) refl

-- a byte that is granted serves the mode
raised-serves : (level : Option Level) (mode : Mode) → serves (raised_level level mode) mode ≡ true
raised-serves level Write = refl
raised-serves None Read = refl
raised-serves (Some Shared) Read = refl
raised-serves (Some Exclusive) Read = refl

raised-covers : (t : Token) (span s : Range) (mode : Mode) → span.lo ≤ s.lo → s.hi ≤ span.hi → covers (raised t span mode) s mode ≡ true
raised-covers t span s mode starts ends = covers-from (raised t span mode) s mode each
  where
    each : (b : ℕ) → s.lo ≤ b → b ≤ s.hi → serves (raised t span mode b) mode ≡ true
    each b above below =
        let here : is_in span b ≡ true = and_from (nat_le span.lo b) (nat_le b span.hi) (le-leb span.lo b (omega arith)) (le-leb b span.hi (omega arith)) in
        ap (λ (i : Bool). serves (cond i (raised_level (t b) mode) (t b)) mode) here ∙ raised-serves (t b) mode

pub grant-answers : GrantAnswers
grant-answers s file number call mode span c found of_file of_mode starts ends =
    subst (λ (o : Option OpenCall). Answers (tried_if next o) ⊎ IsBlockedHere s c) (sym found) (elim (try-answers_or_asks next c) [
      | inl answers ↦ inl answers
      | inr rest ↦ elim rest [
        | inl blocked ↦ inr (record { waits = blocked.waits; lock = blocked.lock; there = blocked.there })
        | inr asked ↦ absurd (never asked.uncovered)
      ]
    ])
  where
    made : FileState
    made = record { token = raised (s.files file).token span mode; last = number; answer = Some (Taken file number call); owes_freed = (s.files file).owes_freed }

    next : NodeState
    next = after_command s file (raised (s.files file).token span mode) number (Taken file number call) (s.files file).owes_freed

    token-is : (next.files c.file).token ≡ raised (s.files file).token span mode
    token-is = ap (λ (b : Bool). (cond b made (s.files c.file)).token) (eq-eqb c.file file of_file)

    covered : covers (next.files c.file).token c.span c.mode ≡ true
    covered = (λ i. covers (token-is i) c.span (of_mode i)) ∙ raised-covers (s.files file).token span c.span mode starts ends

    never : covers (next.files c.file).token c.span c.mode ≡ false → ⊥
    never uncovered = both_ways (covers (next.files c.file).token c.span c.mode) uncovered covered
