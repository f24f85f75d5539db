-- Worlds in which no call is stuck, by what is told of the open calls.
use Rattle.std.specs.Prelude.{◌==◌, not, IsUtf8}
use Rattle.std.proofs.Common.{◌≡◌, true, false, arith, refl, sym, ap, ◌∙◌, eqb-true, subst, List, [], ◌∷◌, All, length, map, ◌<◌, ℕ, ◌+◌, ◌++◌, inl, inr, get_or, take, Option, Some}
use Rattle.std.proofs.lemmas.Bool.{false≢true}
use Rattle.std.proofs.lemmas.List.Elements.{All-contains, All-head}
use Rattle.messages.specs.rule.Shapes.{IsShape}
use Rattle.model.specs.declared.call.CallId.{CallId}
use Rattle.model.specs.declared.lock_info.LockInfo.{LockInfo}
use Rattle.model.specs.declared.op.LockCommand.{LockCommand}
use Rattle.model.specs.declared.op.LockCommand.TheVariants.{Set, Wait, Query}
use Rattle.node_core.specs.declared.open_call.OpenCall.{OpenCall}
use Rattle.cluster_core.specs.rule.Rounds.{IsBlockedWait}
use Rattle.cluster_core.specs.rule.World.{WorldState}
use Rattle.states.specs.declared.open_call.OpenState.{OpenState}
use Rattle.states.specs.rule.States.{is_wait, open_in, IsBlocker, IsOpenState}
use Rattle.states.proofs.OpenLaws.{open_told}
use Rattle.player.specs.rule.Rounds.{NoneStuck, works}
use Rattle.std.proofs.lemmas.List.{take_more}
use Rattle.replay.specs.rule.Scripts.{IsCount}
use Rattle.lockscript.specs.declared.error.ParseError.{ParseError}
use Rattle.lockscript.specs.declared.error.ParseError.TheVariants.{NoMemory, BadLine}
use Rattle.lockscript.specs.rule.ThreadLines.{IsRefusedOnThreads}
use Rattle.replay.specs.rule.Faults.{IsThreadsFault, fault_of_parse}

waits : (command : LockCommand) → not (is_wait command) ≡ false → command ≡ Wait
waits Wait h = refl
waits Set h = absurd (false≢true (sym h))
waits Query h = absurd (false≢true (sym h))

-- a wait that is told with a lock is blocked
pub told_blocked : (w : WorldState) (o : OpenState) → IsOpenState w o → not (is_wait o.asked.lock_command) ≡ false → (length o.locks.items ≡ 0 → ⊥) → IsBlockedWait w o.asked
told_blocked w o told wait some = by o.locks.items refl
  where
    by : (locks : List LockInfo) → o.locks.items ≡ locks → IsBlockedWait w o.asked
    by [] are = absurd (some (ap (λ (ls : List LockInfo). length ls) are))
    by (lock ∷ rest) are = record { waits = waits o.asked.lock_command wait; lock = lock; blocks = (All-head (IsBlocker w o.asked) lock rest (subst (All (IsBlocker w o.asked)) are told.each)).blocks }

-- the open call is blocked, if the server of its file works
abbrev pub IsExcused : WorldState → OpenState → Type 0
IsExcused w o = works w o.asked.file ≡ true → IsBlockedWait w o.asked

pub all_excused : (w : WorldState) (told : List OpenState) → IsShape w.shape → map (λ o. o.asked) told ≡ open_in w → All (IsExcused w) told → NoneStuck w
all_excused w told served same each n c alive at working =
    let it = open_told w told n c served same alive at in
    subst (IsBlockedWait w) it.2 (All-contains (IsExcused w) told it.0 each it.1 (ap (λ (o : OpenCall). works w o.file) it.2 ∙ working))

-- the one list of no calls
pub are_none : (calls : List CallId) → (length calls == 0) ≡ true → calls ≡ []
are_none [] none = refl
are_none (call ∷ rest) none = absurd (let is = eqb-true (length (call ∷ rest)) 0 none in omega (arith, is))

pub one_more : {A : Type 0} (Is : A → Type 0) (xs : List A) (x : A) (count : ℕ) → IsCount Is xs count → Is x → IsCount Is (xs ++ x ∷ []) (count + 1)
one_more Is [] x count counted is = inl (is, (0, ap (λ (n : ℕ). n + 1) counted, refl))
one_more Is (y ∷ ys) x count (inl here) is = inl (here.0, (here.1.0 + 1, ap (λ (n : ℕ). n + 1) here.1.1, one_more Is ys x here.1.0 here.1.2 is))
one_more Is (y ∷ ys) x count (inr there) is = inr (there.0, one_more Is ys x count there.1 is)

pub no_more : {A : Type 0} (Is : A → Type 0) (xs : List A) (x : A) (count : ℕ) → IsCount Is xs count → (Is x → ⊥) → IsCount Is (xs ++ x ∷ []) count
no_more Is [] x count counted not = inr (not, counted)
no_more Is (y ∷ ys) x count (inl here) not = inl (here.0, (here.1.0, here.1.1, no_more Is ys x here.1.0 here.1.2 not))
no_more Is (y ∷ ys) x count (inr there) not = inr (there.0, no_more Is ys x count there.1 not)

-- what was taken of a list, and the next of it
pub one_more_taken : {A : Type 0} (Is : A → Type 0) (xs : List A) (i : ℕ) (x : A) (count : ℕ) → i < length xs → x ≡ get_or xs i x → IsCount Is (take i xs) count → Is x → IsCount Is (take (i + 1) xs) (count + 1)
one_more_taken Is xs i x count lt at counted is =
    subst (λ (ys : List _). IsCount Is ys (count + 1)) (ap (λ (y : _). take i xs ++ y ∷ []) at ∙ sym (take_more xs i x lt)) (one_more Is (take i xs) x count counted is)

pub no_more_taken : {A : Type 0} (Is : A → Type 0) (xs : List A) (i : ℕ) (x : A) (count : ℕ) → i < length xs → x ≡ get_or xs i x → IsCount Is (take i xs) count → (Is x → ⊥) → IsCount Is (take (i + 1) xs) count
no_more_taken Is xs i x count lt at counted not =
    subst (λ (ys : List _). IsCount Is ys count) (ap (λ (y : _). take i xs ++ y ∷ []) at ∙ sym (take_more xs i x lt)) (no_more Is (take i xs) x count counted not)

-- why the text of a file is refused
pub text_fault : (Holds : Option (List ℕ) → Type 0) (RanShort : Type 0) (path text : List ℕ) (error : ParseError) → Holds (Some text) → IsUtf8 text → IsRefusedOnThreads text error
    → IsThreadsFault Holds RanShort path (fault_of_parse error)
text_fault Holds RanShort path text (BadLine line) holds utf8 is = (text, holds, utf8, is)
text_fault Holds RanShort path text NoMemory holds utf8 is = inr (is.0, (text, holds, utf8, is.1))
