use Rattle.std.proofs.Common.{◌≡◌, ◌<◌, ◌++◌, [], ◌∷◌, inl, inr, refl, arith, sym, ap, ◌∙◌, eq-eqb, ne_eqb, vec_len}
use Rattle.std.proofs.lemmas.Bool.{cases_lt, false≢true, and_from, and_left, and_right}
use Rattle.intervals.proofs.Runs.{last_below, join_last, join_apart, join_first, set_self, joined}
use Rattle.intervals.proofs.Join.{join}
use Rattle.intervals.proofs.byte_run.writes.append.Given.{Over}
use Rattle.intervals.proofs.byte_run.writes.append.Goals as goal
use Rattle.intervals.proofs.byte_run.writes.append.Goals.{in-Some+else-last-run, else-last-run-via-then-last-run+else-eq, else-last-run-via-else-last-run, in_default}

-- the last run ends before the new one begins
pub overflow_add-last : goal.overflow_add-last
overflow_add-last g c =
    let some : 0 < vec_len c.args.runs.now = c.in-Some.ensures.variant.0 refl in
    let below : c.in-Some.last.now.hi < c.args.run.lo = last_below _ _ _ _ c.requires.below (omega arith) c.in-Some.ensures.value in
    omega arith

pub returns-then-eq-clause-made : goal.returns-then-eq-clause-made
returns-then-eq-clause-made g c =
    let some : 0 < vec_len c.args.runs.now = c.in-Some.ensures.variant.0 refl in
    (joined g.V.PartialEq.eq g.met.V.Exact.exact g.met.V.Eq.laws.refl _ _ _ c.requires.made c.requires.below c.requires.rises (sym (join_last g.V.PartialEq.eq _ _ _ _ (omega arith) c.in-Some.ensures.value (and_from _ _ (eq-eqb _ _ c.if-last-run.true) (sym c.eq.ensures ∙ c.if-eq.true))))).made

pub returns-then-eq-clause-below : goal.returns-then-eq-clause-below
returns-then-eq-clause-below g c =
    let some : 0 < vec_len c.args.runs.now = c.in-Some.ensures.variant.0 refl in
    (joined g.V.PartialEq.eq g.met.V.Exact.exact g.met.V.Eq.laws.refl _ _ _ c.requires.made c.requires.below c.requires.rises (sym (join_last g.V.PartialEq.eq _ _ _ _ (omega arith) c.in-Some.ensures.value (and_from _ _ (eq-eqb _ _ c.if-last-run.true) (sym c.eq.ensures ∙ c.if-eq.true))))).below

pub returns-then-eq-clause-bytes : goal.returns-then-eq-clause-bytes
returns-then-eq-clause-bytes g c =
    let some : 0 < vec_len c.args.runs.now = c.in-Some.ensures.variant.0 refl in
    (joined g.V.PartialEq.eq g.met.V.Exact.exact g.met.V.Eq.laws.refl _ _ _ c.requires.made c.requires.below c.requires.rises (sym (join_last g.V.PartialEq.eq _ _ _ _ (omega arith) c.in-Some.ensures.value (and_from _ _ (eq-eqb _ _ c.if-last-run.true) (sym c.eq.ensures ∙ c.if-eq.true))))).bytes

-- the runs with the new one at the end
after_push : (g : Over) (c : goal.In-Ok g) → c.push.new.self.items ≡ join g.V.PartialEq.eq c.args.runs.now.items c.args.run
after_push g c =
    let pushed = c.in-Ok.ensures.items in
    elim c.match-last_mut.branch [
      | in-Some+else-last-run w ↦
          let some : 0 < vec_len c.args.runs.now = w.in-Some.ensures.variant.0 refl in
          elim w.else-last-run.branch [
            | else-last-run-via-then-last-run+else-eq v ↦
                pushed ∙ ap (λ r. r.items ++ c.args.run ∷ []) (w.runs-is ∙ v.runs-is) ∙ ap (λ l. l ++ c.args.run ∷ []) (set_self _ _ _ (omega arith) w.in-Some.ensures.value) ∙ sym (join_apart g.V.PartialEq.eq _ _ _ _ (omega arith) w.in-Some.ensures.value (and_right _ _ (sym v.eq.ensures ∙ v.if-eq.false)))
            | else-last-run-via-else-last-run v ↦
                pushed ∙ ap (λ r. r.items ++ c.args.run ∷ []) (w.runs-is ∙ v.runs-is) ∙ ap (λ l. l ++ c.args.run ∷ []) (set_self _ _ _ (omega arith) w.in-Some.ensures.value) ∙ sym (join_apart g.V.PartialEq.eq _ _ _ _ (omega arith) w.in-Some.ensures.value (and_left _ _ (ne_eqb _ _ v.if-last-run.false)))
          ]
      | in_default w ↦ pushed ∙ ap (λ r. r.items ++ c.args.run ∷ []) w.runs-is ∙ sym (join_first g.V.PartialEq.eq _ _ (elim (cases_lt 0 (vec_len c.args.runs.now)) [ inl some ↦ absurd (false≢true (w.in_default.ensures.variant.1 some)) | inr none ↦ omega arith ]))
    ]

pub returns-clause-made : goal.returns-clause-made
returns-clause-made g c = (joined g.V.PartialEq.eq g.met.V.Exact.exact g.met.V.Eq.laws.refl _ _ _ c.requires.made c.requires.below c.requires.rises (after_push g c)).made

pub returns-clause-below : goal.returns-clause-below
returns-clause-below g c = (joined g.V.PartialEq.eq g.met.V.Exact.exact g.met.V.Eq.laws.refl _ _ _ c.requires.made c.requires.below c.requires.rises (after_push g c)).below

pub returns-clause-bytes : goal.returns-clause-bytes
returns-clause-bytes g c = (joined g.V.PartialEq.eq g.met.V.Exact.exact g.met.V.Eq.laws.refl _ _ _ c.requires.made c.requires.below c.requires.rises (after_push g c)).bytes
