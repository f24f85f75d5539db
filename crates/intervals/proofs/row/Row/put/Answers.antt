use Rattle.std.proofs.Common.{◌≡◌, ℕ, refl, ap, sym, ◌∙◌, ◌+◌, ◌-◌, ◌≤◌, List, length, ◌++◌, take, drop, set, rules, arith}
use Rattle.intervals.specs.code.Parts.{all_runs}
use Rattle.std.proofs.lemmas.Bool.{eqb-true}
use Rattle.std.proofs.lemmas.List.{length-append, length-drop}
use lib.Seq.{length-take-le}
use Rattle.intervals.proofs.Places.{put_first, put_none, put_part, put_to, no_runs}
use Rattle.intervals.proofs.row.Row.put.Goals as goal

-- the length of a list after n elements are taken out
left_len : {A : Type 0} (l m : List A) (i n : ℕ) → i + n ≤ length l → m ≡ take i l ++ drop (i + n) l → length m + n ≡ length l
left_len l m i n le is =
    let both = ap length is ∙ length-append (take i l) (drop (i + n) l) in
    omega (arith, both, length-take-le i l (omega arith), length-drop (i + n) l)

pub remove-requires : goal.remove-requires
remove-requires g c = let left = left_len c.args.self.now.rest.items c.drop.new.self.0.items c.args.at c.args.more (omega arith) (c.drop.ensures.items ∙ c.drain.ensures.kept) in omega (arith, c.if-at-eq0.false)

pub index_mut-requires : goal.index_mut-requires
index_mut-requires g c = let left = left_len c.args.self.now.rest.items c.drop.new.self.0.items c.args.at c.args.more (omega arith) (c.drop.ensures.items ∙ c.drain.ensures.kept) in omega (arith, c.if-at-eq0.false)

pub returns-then-at-eq0-clause-place : goal.returns-then-at-eq0-clause-place
returns-then-at-eq0-clause-place g c some = omega (arith, c.if-at-eq0.true)

pub returns-then-at-eq0-clause-len : goal.returns-then-at-eq0-clause-len
returns-then-at-eq0-clause-len g c = let left = left_len c.args.self.now.rest.items c.drop.new.self.0.items c.args.at c.args.more (omega arith) (c.drop.ensures.items ∙ c.drain.ensures.kept) in omega arith

pub returns-then-at-eq0-clause-capacity : goal.returns-then-at-eq0-clause-capacity
returns-then-at-eq0-clause-capacity g c = omega (arith, c.drain.ensures.capacity, c.drop.ensures.capacity)

pub returns-then-is_empty-clause-below : goal.returns-then-is_empty-clause-below
returns-then-is_empty-clause-below g c some = absurd (let none = eqb-true _ _ (sym c.is_empty.ensures ∙ c.if-is_empty.true) in omega arith)

pub returns-then-is_empty-clause-above : goal.returns-then-is_empty-clause-above
returns-then-is_empty-clause-above g c some = absurd (let none = eqb-true _ _ (sym c.is_empty.ensures ∙ c.if-is_empty.true) in omega arith)

pub returns-then-is_empty-clause-place : goal.returns-then-is_empty-clause-place
returns-then-is_empty-clause-place g c some = absurd (let none = eqb-true _ _ (sym c.is_empty.ensures ∙ c.if-is_empty.true) in omega arith)

pub returns-then-is_empty-clause-len : goal.returns-then-is_empty-clause-len
returns-then-is_empty-clause-len g c = let left = left_len c.args.self.now.rest.items c.drop.new.self.0.items c.args.at c.args.more (omega arith) (c.drop.ensures.items ∙ c.drain.ensures.kept) in omega (arith, c.remove.ensures.len)

pub returns-then-is_empty-clause-capacity : goal.returns-then-is_empty-clause-capacity
returns-then-is_empty-clause-capacity g c = omega (arith, c.drain.ensures.capacity, c.drop.ensures.capacity, c.remove.ensures.capacity)

pub returns-else-is_empty-clause-place : goal.returns-else-is_empty-clause-place
returns-else-is_empty-clause-place g c some = let left = left_len c.args.self.now.rest.items c.drop.new.self.0.items c.args.at c.args.more (omega arith) (c.drop.ensures.items ∙ c.drain.ensures.kept) in omega (arith, c.if-at-eq0.false)

pub returns-else-is_empty-clause-len : goal.returns-else-is_empty-clause-len
returns-else-is_empty-clause-len g c = let left = left_len c.args.self.now.rest.items c.drop.new.self.0.items c.args.at c.args.more (omega arith) (c.drop.ensures.items ∙ c.drain.ensures.kept) in omega arith

pub returns-else-is_empty-clause-capacity : goal.returns-else-is_empty-clause-capacity
returns-else-is_empty-clause-capacity g c = omega (arith, c.drain.ensures.capacity, c.drop.ensures.capacity)

pub returns-then-at-eq0-clause-placed : goal.returns-then-at-eq0-clause-placed
returns-then-at-eq0-clause-placed g c = put_first c.args.self.now _ c.args.at c.args.more c.args.runs.items c.if-at-eq0.true c.put.ensures (c.drop.ensures.items ∙ c.drain.ensures.kept) c.requires.some

pub returns-then-is_empty-clause-placed : goal.returns-then-is_empty-clause-placed
returns-then-is_empty-clause-placed g c = put_none c.args.self.now _ c.args.at c.args.more c.drop.new.self.0.items c.args.runs.items c.if-at-eq0.false (omega arith) (no_runs c.args.runs.items (let none = eqb-true _ _ (sym c.is_empty.ensures ∙ c.if-is_empty.true) in omega arith)) (c.drop.ensures.items ∙ c.drain.ensures.kept) refl c.remove.ensures.items c.requires.some

pub returns-else-is_empty-clause-placed : goal.returns-else-is_empty-clause-placed
returns-else-is_empty-clause-placed g c = put_part c.args.self.now _ c.args.at c.args.more c.drop.new.self.0.items c.args.runs.items c.if-at-eq0.false (omega arith) (search rules) (c.drop.ensures.items ∙ c.drain.ensures.kept) refl (ap (λ p. set c.drop.new.self.0.items (c.args.at - 1) p) c.put-else-is_empty.ensures) c.requires.some

pub returns-else-is_empty-clause-below : goal.returns-else-is_empty-clause-below
returns-else-is_empty-clause-below g c some =
    let row = c.args.self.now in
    let left = c.drop.new.self.0.items in
    ap (λ p. row.first ++ all_runs (take c.args.at (set left (c.args.at - 1) p))) c.put-else-is_empty.ensures ∙ put_to row c.args.at c.args.more left c.args.runs.items c.if-at-eq0.false (omega arith) (c.drop.ensures.items ∙ c.drain.ensures.kept)
