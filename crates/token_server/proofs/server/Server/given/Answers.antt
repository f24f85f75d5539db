use Rattle.std.specs.Prelude.{◌≡◌, ◌+◌, ◌≤◌, List, [], ◌∷◌, ◌++◌, length}
use Rattle.std.proofs.Common.{refl, sym, ap, subst, ◌∙◌, take, arith}
use Rattle.std.proofs.lemmas.List.{take_more, take_all}
use Rattle.token_server.specs.declared.sent_command.SentCommand.{SentCommand}
use Rattle.token_server.specs.declared.known_nodes.new_row.NewRow.{NewRow}
use Rattle.token_server.specs.code.Edits.{drafted}
use Rattle.token_server.proofs.ToldLaws.{GivesTold, GiveTold, give_told-more, with_given-told}
use Rattle.token_server.proofs.server.Server.given.Goals as goal

pub loop-next-preserved : goal.loop-next-preserved
loop-next-preserved c =
    let i = c.loop-next.next-index in
    let told : List SentCommand = c.args.told.now in
    let t : SentCommand = c.next-item.result in
    let g : NewRow = c.in_ok-one.one in
    let known_nodes = c.args.self.now.known_nodes in
    let edit = c.args.draft.now.rows in
    let next : take (i + 1) told ≡ take i told ++ t ∷ [] = take_more told i t c.loop-next-test.true ∙ ap (λ (x : SentCommand). take i told ++ x ∷ []) (sym c.next-item.is) in
    let one : GivesTold known_nodes edit t g = record { place = c.in_ok-one.ensures.place; row = c.in_ok-one.ensures.row } in
    let both = give_told-more known_nodes edit (take i told) c.loop-next.given.items t g c.loop-next.invariant one in
    subst (λ (ts : List SentCommand). GiveTold known_nodes edit ts c.push.new.self.items) (sym next) (subst (λ (gs : List NewRow). GiveTold known_nodes edit (take i told ++ t ∷ []) gs) (sym c.in_ok-push.ensures.items) both)

pub returns : goal.returns
returns c =
    let told : List SentCommand = c.args.told.now in
    let past : length told ≤ c.loop-next.next-index = omega (arith, c.loop-next-test.false) in
    let known_nodes = c.args.self.now.known_nodes in
    let edit = c.args.draft.now.rows in
    with_given-told (drafted c.args.self.now c.args.draft.now) known_nodes edit told c.loop-next.given.items refl (subst (λ (ts : List SentCommand). GiveTold known_nodes edit ts c.loop-next.given.items) (take_all c.loop-next.next-index told past) c.loop-next.invariant)
