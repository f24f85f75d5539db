use Rattle.std.proofs.Common.{◌≡◌, ap, sym, ◌∙◌, Some, slice_get, [], ◌∷◌, ◌++◌}
use Rattle.book.proofs.Adding.{adds_moves, added, last_get}
use Rattle.book.proofs.trail.Trail.push.Goals as goal

pub compare_exchange-found-requires : goal.compare_exchange-found-requires
compare_exchange-found-requires g c =
    let h = c.self.invariant.2 in
    let offer = c.plain-offer.ensures in
    let pen = c.no_pen-pen.ensures in (
      ap (λ w. w.tracked) h,
      c.self.invariant.1 ∙ sym (ap (λ w. w.book) h),
      pen.0 ∙ (c.self.invariant.1 ∙ sym (ap (λ w. w.book) h)),
      offer.0,
      rw (ap (λ w. w.key) h, pen.1, offer.1, offer.3) (adds_moves c.self.inside.seen.log c.args.item.now c.self.inside.len (sym c.self.invariant.0)),
    )

pub returns-clause-spot : goal.returns-clause-spot
returns-clause-spot g c =
    let v = c.self.inside.seen.log in
    let w = c.compare_exchange-found.new.seen.log in
    let item = c.args.item.now in
    let put : w ≡ v ++ item ∷ [] = added c.plain-offer.result.ask v w c.self.inside.len c.compare_exchange-found.result c.if-found-place.false c.compare_exchange-found.ensures.7 ∙ ap (λ e. v ++ e ∷ []) c.plain-offer.ensures.1 in
    let stands : slice_get w c.self.inside.len ≡ Some item = rw (put, c.self.invariant.0) (last_get v item) in
    rw (c.new.ensures, c.again.ensures, ← c.self.view_is) (c.self.invariant.0, stands)

pub returns-clause-put : goal.returns-clause-put
returns-clause-put g c =
    let v = c.self.inside.seen.log in
    let put = added c.plain-offer.result.ask v c.compare_exchange-found.new.seen.log c.self.inside.len c.compare_exchange-found.result c.if-found-place.false c.compare_exchange-found.ensures.7 in
    rw (← c.self.view_is) (put ∙ ap (λ e. v ++ e ∷ []) c.plain-offer.ensures.1)
