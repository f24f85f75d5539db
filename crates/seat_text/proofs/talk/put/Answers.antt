use Rattle.std.proofs.Common.{◌≡◌, ℕ, ◌-◌, List, ◌++◌, length, take, drop, sym, ap, ◌∙◌, append_assoc, take-append-drop}
use Rattle.std.proofs.lemmas.List.{take_rest}
use Rattle.std.proofs.KnownBytes.{Appends-kept, Appends-trans}
use Rattle.seat_text.proofs.talk.put.Goals.{in-Ok, in-Err}
use Rattle.seat_text.proofs.talk.put.Goals as goal

moves_front : (all done rest : List ℕ) (n : ℕ) → all ≡ done ++ rest → all ≡ (done ++ take n rest) ++ take (length rest - n) (drop n rest)
moves_front all done rest n e =
    e ∙ ap (λ (l : List ℕ). done ++ l) (sym (take-append-drop n rest)) ∙ sym (append_assoc done (take n rest) (drop n rest)) ∙ ap (λ (l : List ℕ). (done ++ take n rest) ++ l) (sym (take_rest rest n))

pub loop-preserved : goal.loop-preserved
loop-preserved g c =
    let rest = c.loop.rest.now in
    let before = c.loop.invariant in
    elim c.match-write.branch [
      | in-Ok w ↦
          rw w.rest-is (before.0 ++ take w.in-Ok.count rest, moves_front _ before.0 rest w.in-Ok.count before.1, Appends-trans _ _ _ _ _ before.2 w.in-Ok.ensures.bytes)
      | in-Err w ↦ rw w.rest-is (before.0, before.1, Appends-kept _ _ _ _ before.2 w.in-Err.ensures.bytes)
    ]
