-- What lists answer.
use Rattle.std.specs.Io.KnownBytes.{Appends}
use Rattle.std.specs.Option.{option_zip}
use Rattle.messages.specs.declared.event.MemberEvent.{MemberEvent}
use Rattle.seat_commands.specs.rule.Changes.{ListParts, list_rule, list_state, noted_text}
use Rattle.std.proofs.Common.{arith, length, subst, Ok, ◌≡◌, ◌≢◌, ◌++◌, ◌∷◌, ℕ, codes, false, List, Option, Some, None, refl, sym, ◌∙◌, ap, inl, inr}
use Rattle.texts.specs.rule.Layout.{space}
use Rattle.texts.specs.rule.Reads.{Lacks}
use Rattle.texts.proofs.Pairs.{same-split}
use Rattle.seat_text.specs.declared.seat_line.SeatLine.{SeatLine}
use Rattle.seat_text.specs.rule.Blocks.{bad_line}
use Rattle.seat_text.specs.rule.SeatLines.{IsServedLine, line_text}
use Rattle.seat_text.proofs.SeatLines.{line as seat_lines}
use Rattle.seat_commands.specs.rule.Registers.{Adds, AnswersChange, Notes, Registry, IsBadFor, IsColumnOf, IsInquiryOf, SaysOfList, change_of, is_change_word}
use Rattle.seat_commands.specs.rule.Clocks.{IsMoment, MayRead}

abbrev value : ℕ → Option ℕ → ℕ
value d None = d
value d (Some x) = x

-- a clock is read twice
pub read_twice : (last began now ended z : Option ℕ) → IsMoment last began now → IsMoment now ended z → MayRead last (option_zip began ended) z
read_twice None began None ended z first next = (ap (λ (b : Option ℕ). option_zip b ended) first.0, next.1)
read_twice None began (Some now) ended z first next = let never : None ≡ Some now = sym first.1 in absurd cc
read_twice (Some last) began None ended z first next = let never : None ≡ Some first.0 = first.4 in absurd cc
read_twice (Some last) began (Some now) ended z first next =
    let n : now ≡ first.0 = ap (value 0) first.4 in
    (first.0, next.0, record { rises = first.1; in_order = omega (arith, n, next.1); within = next.2 }, rw (first.3, next.3) refl, next.4)

-- where the column of a line that asks nothing was written, that is what is said to it
pub passes_over : {K : Type 0} (kept : K → Option (List ℕ)) (a : Registry K) (line : List ℕ) (column : ℕ) (old new : List ℕ) → IsBadFor line column → new ≡ old ++ bad_line column
    → (said : List ℕ) × SaysOfList kept a line said a × (new ≡ old ++ said)
passes_over kept a line column old new bad wrote = (bad_line column, inr (inr (record { column = column; bad = bad; says = refl; same = refl })), wrote)

-- a line that tells a seat of no change asks nothing
pub asks_nothing : (line : List ℕ) (told : SeatLine) → IsServedLine told → line ≡ line_text told → change_of told ≡ None → line ≢ codes "list" → IsInquiryOf line None
asks_nothing line told served is none no_list = (
  λ change asks.
      let same = seat_lines.apart asks.told told asks.served served (sym asks.text ∙ is) in
      let both : None ≡ Some change = sym none ∙ (ap change_of (sym same) ∙ asks.asks) in absurd cc,
  no_list,
)

-- a line that tells a seat nothing asks nothing
pub tells_nothing : (line : List ℕ) → ((told : SeatLine) → IsServedLine told → line ≢ line_text told) → line ≢ codes "list" → IsInquiryOf line None
tells_nothing line no_line no_list = (λ change asks. absurd (no_line asks.told asks.served asks.text), no_list)

-- a line whose first word has no operand
pub at_word : (line word rest : List ℕ) → Lacks space word → line ≡ word ++ space ∷ rest → is_change_word word ≡ false → IsColumnOf line 1
at_word line word rest lacks is other_word = inr (record {
  no_operand = λ other more other_lacks other_is. ap is_change_word ((same-split space other word more rest other_lacks lacks (sym other_is ∙ is)).0) ∙ other_word;
  column_is = refl;
})

-- a line of one word
pub at_word_alone : (line : List ℕ) → ((word rest : List ℕ) → Lacks space word → line ≡ word ++ space ∷ rest → ⊥) → IsColumnOf line 1
at_word_alone line one = inr (record { no_operand = λ word rest lacks is. absurd (one word rest lacks is); column_is = refl })

-- a change is added behind a reading of the clock, and its block is kept behind another one
pub adds : {K : Type 0} (kept : K → Option (List ℕ)) (change : MemberEvent) (incarnation : ℕ) (began : Option ℕ) (a b z : Registry K) (said : List ℕ) → IsMoment a.last began b.last → a.keeper ≡ b.keeper
    → list_rule (list_state a.list) change ≡ Ok (list_state b.list, incarnation) → Notes kept change incarnation began b said z → Adds kept change a said z
adds {K} kept change incarnation began a b z said read keeper added n = record {
  incarnation = incarnation;
  interval = option_zip began n.ended;
  added = added ∙ ap (λ (l : ListParts). Ok (list_state l, incarnation)) (sym n.list_stays);
  read = read_twice a.last began b.last n.ended z.last read n.read;
  says = n.says ∙ ap (λ (l : ListParts). noted_text (record { change = change; incarnation = incarnation; interval = option_zip began n.ended }) (length l.changes)) (sym n.list_stays);
  keeps = subst (λ (k : K). Appends (kept k) (kept z.keeper) said) (sym keeper) n.keeps;
}

-- so that is what is said to the change
pub change_added : {K : Type 0} (kept : K → Option (List ℕ)) (change : MemberEvent) (incarnation : ℕ) (began : Option ℕ) (a b z : Registry K) (old new : List ℕ) → IsMoment a.last began b.last → a.keeper ≡ b.keeper
    → list_rule (list_state a.list) change ≡ Ok (list_state b.list, incarnation) → (said : List ℕ) × Notes kept change incarnation began b said z × (new ≡ old ++ said)
    → (said : List ℕ) × AnswersChange kept change a said z × (new ≡ old ++ said)
change_added kept change incarnation began a b z old new read keeper added n = (n.0, inl (adds kept change incarnation began a b z n.0 read keeper added n.1), n.2)
