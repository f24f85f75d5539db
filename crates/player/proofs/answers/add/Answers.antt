use Rattle.std.proofs.Common.{◌≡◌, ◌∙◌, ◌==◌, ◌&&◌, ◌∷◌, ◌++◌, [], Some, None, cond, sym, ap}
use Rattle.std.specs.Prelude.{is_some}
use Rattle.std.specs.Option.{option_copied_mut}
use Rattle.player.specs.code.Answers.{get_list}
use Rattle.player.proofs.Expectations.{items, put-last}
use Rattle.player.proofs.answers.add.Goals as goal

pub returns-in-Some : goal.returns-in-Some
returns-in-Some g c n p =
    let v = c.args.value in
    let held : get_list c.args.lists.now (c.args.node, c.args.pid) ≡ Some c.in-Some.list.now = sym c.get_mut.ensures.value ∙ ap option_copied_mut c.in-Some.is in
    let updates = (c.get_mut.follows.holds c.push.new.self).3 (ap is_some held) in
    put-last c.args.node c.args.pid n p (get_list c.args.lists.now) _ c.push.new.self v (updates.0 (n, p)) (c.in_ok-push.ensures.items ∙ sym (ap (λ o. items o ++ v ∷ []) held))

pub returns : goal.returns
returns g c n p =
    let v = c.args.value in
    let list = c.push-2.new.self in
    let none : get_list c.args.lists.now (c.args.node, c.args.pid) ≡ None = sym c.get_mut.ensures.value ∙ ap option_copied_mut c.in_default.is in
    let here = (c.args.node == n) && (c.args.pid == p) in
    let put = c.in_ok-insert.ensures.updates.0 (n, p) ∙ ap (λ lists. cond here (Some list) (get_list lists (n, p))) c.get_mut.follows.holds-at-none in
    put-last c.args.node c.args.pid n p (get_list c.args.lists.now) _ list v put (c.in_ok-push-2.ensures.items ∙ ap (λ xs. xs ++ v ∷ []) c.new-list.ensures.items ∙ sym (ap (λ o. items o ++ v ∷ []) none))
