use Rattle.std.proofs.Common.{◌≡◌, ℕ, arith, length, subst}
use Rattle.cluster_core.specs.code.Changes.{KnowsFirst}
use Rattle.cluster_core.proofs.sent_index.SentIndex.note_from.Goals as goal

pub returns : goal.returns
returns c = λ known.
    let P : ℕ → Type 0 = λ n. KnowsFirst c.loop-place.self.places c.loop-place.self.others.items c.args.sent.now n in
    let whole : c.loop-place.place ≡ length c.args.sent.now = let past = c.loop-place-test.false in let within = c.loop-place.auto.place-end in omega arith in
    subst P whole (c.loop-place.invariant.knows known)
