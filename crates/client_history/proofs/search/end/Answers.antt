use Rattle.std.proofs.Common.{◌≡◌, List, length, take, drop, ◌++◌, sym, ap, subst, ◌∙◌, arith}
use Rattle.client_history.specs.declared.search_front.SearchFront.{SearchFront}
use Rattle.client_history.specs.code.Search.{GoesPast}
use Rattle.client_history.proofs.Ended.{goes_past, written_back}
use Rattle.client_history.proofs.search.end.Goals as goal

pub returns : goal.returns
returns c = λ some.
    let running = c.args.«open».now in
    let settled = c.in_ok-new.new.items in
    let forgot = c.forget_each.new.fronts in
    let back : take c.in_ok-new.new.len (forgot ++ drop (length forgot) settled) ≡ forgot = written_back forgot settled c.in_ok-new.new.len (c.forget_each.ensures.len ∙ ap length c.deref_mut.ensures.value) (omega arith) in
    subst (λ (fs : List SearchFront). GoesPast c.args.end running c.args.fronts.now.items c.in_ok-still.still.items fs) (sym back)
    (goes_past c.args.end running c.args.fronts.now.items settled forgot c.in_ok-over.over.items c.in_ok-still.still.items
    (rw (← c.replace-old.ensures.value) ((c.in_ok-new.ensures {u = tt}) some))
    (c.in_ok-over.ensures {u = tt})
    (rw c.deref-2.ensures.value at (c.in_ok-still.ensures {u = tt}))
    (rw (c.deref_mut.ensures.value, c.deref.ensures.value) at c.forget_each.ensures.forgot))
