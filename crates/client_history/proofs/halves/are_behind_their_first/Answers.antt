use Rattle.std.proofs.Common.{length, get_or, sym, ◌∙◌, arith, refl}
use Rattle.std.proofs.lemmas.Bool.{false≢true}
use Rattle.std.proofs.lemmas.Option.{slice_get-get_or, slice_get_read}
use Rattle.client_history.proofs.HalfLaws.{IsFirstMarked, halves_more, halves_late, halves_all}
use Rattle.client_history.proofs.halves.are_behind_their_first.Goals as goal

pub returns-then-not-is_first_marked : goal.returns-then-not-is_first_marked
returns-then-not-is_first_marked c =
    let calls = c.args.calls.now in
    let order = c.args.order.now in
    let k = c.loop-i.i-index in
    let call = c.index-calls-i.result in
    let i = get_or order k 0 in
    let at = slice_get-get_or order k 0 c.loop-i-test.true in
    let there = slice_get_read calls (length calls) i call refl (c.requires k i at) c.index-calls-i.is in
    let stays : IsFirstMarked call c.loop-i.marks.items → ⊥ = λ is. false≢true (sym c.if-not-is_first_marked.true ∙ c.is_first_marked.ensures.1 (rw c.deref.ensures.value is)) in
    (λ no. absurd (false≢true no), λ all. absurd (halves_late calls order k c.loop-i.marks.items c.loop-i.invariant i call at there stays all))

pub index_mut-requires : goal.index_mut-requires
index_mut-requires c =
    let order = c.args.order.now in
    let k = c.loop-i.i-index in
    let within = c.requires k (get_or order k 0) (slice_get-get_or order k 0 c.loop-i-test.true) in
    let size = c.loop-i.invariant.size in
    omega arith

pub loop-i-preserved : goal.loop-i-preserved
loop-i-preserved c =
    let calls = c.args.calls.now in
    let order = c.args.order.now in
    let k = c.loop-i.i-index in
    let call = c.index-calls-i.result in
    let i = get_or order k 0 in
    let at = slice_get-get_or order k 0 c.loop-i-test.true in
    let there = slice_get_read calls (length calls) i call refl (c.requires k i at) c.index-calls-i.is in
    let is : IsFirstMarked call c.loop-i.marks.items = rw c.deref.ensures.value at (c.is_first_marked.ensures.0 c.if-not-is_first_marked.false) in
    halves_more calls order k c.loop-i.marks.items c.loop-i.invariant i call at there is

pub returns : goal.returns
returns c = (λ yes. halves_all c.args.calls.now c.args.order.now c.loop-i.i-index c.loop-i.marks.items c.loop-i.invariant c.loop-i-test.false, λ all. refl)
