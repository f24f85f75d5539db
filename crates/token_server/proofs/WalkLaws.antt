-- Walks over slots.
use Rattle.std.specs.Prelude.{◌≡◌, ℕ, ◌+◌, ◌<◌, List, [], ◌∷◌, ◌++◌, length, take, drop, Option, Some, None}
use Rattle.std.proofs.Common.{ap, sym, ◌∙◌, get_or}
use Rattle.std.proofs.lemmas.List.{append-nil, drop_more, take_more, get_or_read, take-append-drop}
use Rattle.token_server.specs.contracts.token_queue.token_request.TokenRequestPartialEq.TheImpl as derived
use Rattle.token_server.specs.declared.token_queue.token_request.TokenRequest.{TokenRequest}
use Rattle.token_server.specs.rule.Requests.{requests_in}
use Rattle.token_server.specs.code.Admissions.{request_at}
use Rattle.token_server.proofs.PlaceLaws.{requests_in-append}

-- the requests from a place on: that of its slot, if it holds one, and then those of later slots
pub requests_in-from : (slots : List (Option TokenRequest)) (place : ℕ) → place < length slots → requests_in (drop place slots) ≡ requests_in (request_at slots place ∷ drop (place + 1) slots)
requests_in-from slots place low = ap requests_in (drop_more slots place None low)

-- the requests up to a place and one more slot: those before it, and then that of its slot, if it holds one
pub requests_in-more : (slots : List (Option TokenRequest)) (place : ℕ) → place < length slots → requests_in (take (place + 1) slots) ≡ requests_in (take place slots) ++ requests_in (request_at slots place ∷ [])
requests_in-more slots place low = ap requests_in (take_more slots place None low) ∙ requests_in-append (take place slots) (request_at slots place ∷ [])

-- the requests up to a slot with a request: those before it, and then that request
pub requests_in-full : (slots : List (Option TokenRequest)) (place : ℕ) (slot : Option TokenRequest) (r : TokenRequest) → place < length slots → slot ≡ get_or slots place slot → slot ≡ Some r
    → requests_in (take (place + 1) slots) ≡ requests_in (take place slots) ++ r ∷ []
requests_in-full slots place slot r low read some =
    requests_in-more slots place low ∙ ap (λ (s : Option TokenRequest). requests_in (take place slots) ++ requests_in (s ∷ [])) (sym (get_or_read slots place slot low read None) ∙ some)

-- the requests up to an empty slot are those before it
pub requests_in-empty : (slots : List (Option TokenRequest)) (place : ℕ) (slot : Option TokenRequest) → place < length slots → slot ≡ get_or slots place slot → slot ≡ None
    → requests_in (take (place + 1) slots) ≡ requests_in (take place slots)
requests_in-empty slots place slot low read none =
    requests_in-more slots place low ∙ ap (λ (s : Option TokenRequest). requests_in (take place slots) ++ requests_in (s ∷ [])) (sym (get_or_read slots place slot low read None) ∙ none)
    ∙ append-nil (requests_in (take place slots))

-- the requests from a slot with a request on: that request, and then those behind it
pub requests_in-step : (slots : List (Option TokenRequest)) (place : ℕ) (r : TokenRequest) → place < length slots → request_at slots place ≡ Some r → requests_in (drop place slots) ≡ r ∷ requests_in (drop (place + 1) slots)
requests_in-step slots place r low some = requests_in-from slots place low ∙ ap (λ (slot : Option TokenRequest). requests_in (slot ∷ drop (place + 1) slots)) some

-- the requests in slots: those before a place, the one at it, and those behind it
pub requests_in-around : (slots : List (Option TokenRequest)) (place : ℕ) (r : TokenRequest) → place < length slots → request_at slots place ≡ Some r
    → requests_in slots ≡ requests_in (take place slots) ++ r ∷ requests_in (drop (place + 1) slots)
requests_in-around slots place r low at =
    ap requests_in (sym (take-append-drop place slots)) ∙ requests_in-append (take place slots) (drop place slots) ∙ ap (λ rs. requests_in (take place slots) ++ rs) (requests_in-step slots place r low at)
