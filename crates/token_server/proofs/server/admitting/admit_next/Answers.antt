use Rattle.std.specs.Prelude.{◌≡◌, List, [], ◌∷◌, ◌++◌, take, Option, Some, None}
use Rattle.std.proofs.Common.{sym, ap, subst, ◌∙◌, append-nil}
use Rattle.std.proofs.lemmas.List.{get_or_read}
use Rattle.intervals.specs.rule.Bytes.{Range}
use Rattle.token_server.specs.declared.token_queue.token_request.TokenRequest.{TokenRequest}
use Rattle.token_server.specs.rule.Requests.{requests_in, meets}
use Rattle.token_server.specs.code.Admissions.{request_at, IsAdmitted}
use Rattle.token_server.specs.rule.Actives.{requests_of}
use Rattle.token_server.proofs.WalkLaws.{requests_in-more}
use Rattle.token_server.specs.code.Edits.{still_active}
use Rattle.token_server.proofs.ComesLaws.{freed-skip, freed-all}
use Rattle.token_server.proofs.server.admitting.admit_next.Goals as goal

pub returns-in_default-clause-more : goal.returns-in_default-clause-more
returns-in_default-clause-more c =
    let slots = c.args.slots.now in
    let place = c.args.place in
    let done = requests_in (take place slots) in
    let at : request_at slots place ≡ None = sym (get_or_read slots place c.index-slots-place.result c.requires.place_in c.index-slots-place.is None) ∙ c.in_default.is in
    subst (λ (xs : List TokenRequest). IsAdmitted (still_active (Some c.args.call) (requests_of c.args.held.now)) xs c.args.fresh.now.items)
    (sym (requests_in-more slots place c.requires.place_in ∙ ap (λ (slot : Option TokenRequest). done ++ requests_in (slot ∷ [])) at ∙ append-nil done)) c.requires.so_far

pub returns-then-not-meets-clause-more : goal.returns-then-not-meets-clause-more
returns-then-not-meets-clause-more c =
    let slots = c.args.slots.now in
    let place = c.args.place in
    let low = c.requires.place_in in
    let r : TokenRequest = c.in-Some.request in
    let at : request_at slots place ≡ Some r = sym (get_or_read slots place c.index-slots-place.result low c.index-slots-place.is None) ∙ c.in-Some.is in
    freed-skip (requests_of c.args.held.now) slots c.args.call c.args.ended.now place c.args.fresh.now.items r c.requires.ended low at (ap (λ (s : Range). meets s r.wanted.required) (sym c.required-freed.ensures.value) ∙ sym c.meets.ensures ∙ c.if-not-meets.true) c.requires.so_far

pub returns-clause-all : goal.returns-clause-all
returns-clause-all c = λ is.
    let slots = c.args.slots.now in
    let place = c.args.place in
    let low = c.requires.place_in in
    let r : TokenRequest = c.in-Some.request in
    let at : request_at slots place ≡ Some r = sym (get_or_read slots place c.index-slots-place.result low c.index-slots-place.is None) ∙ c.in-Some.is in
    let bounds = c.needs_all_of.ensures is in
    freed-all slots c.args.ended.now place r low at (rw c.required-freed.ensures.value at bounds.0) (rw c.required-freed.ensures.value at bounds.1)
