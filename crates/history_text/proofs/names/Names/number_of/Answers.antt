use Rattle.std.proofs.Common.{◌≡◌, ℕ, List, [], ◌∷◌, ◌++◌, length, map, slice_get, Some, sym, ap, subst, ◌∙◌, arith}
use Rattle.std.proofs.lemmas.List.{length-map}
use Rattle.std.specs.String.{string_bytes}
use Rattle.history_text.specs.rule.Owners.{AreDistinct}
use Rattle.history_text.proofs.OwnerLaws.{added_count, added_last, added_name, distinct_names, found_name}
use Rattle.history_text.proofs.names.Names.number_of.Goals as goal

pub returns-in-Some-clause-named : goal.returns-in-Some-clause-named
returns-in-Some-clause-named c =
    subst (λ (ns : List (List ℕ)). slice_get ns c.in-Some.number ≡ Some c.args.name.now) c.self.view_is
    (found_name c.self.inside.names.keys c.args.name.now c.in-Some.number c.in-Some.ensures.within (sym c.in-Some.ensures.index))

pub returns-in-Some-clause-distinct : goal.returns-in-Some-clause-distinct
returns-in-Some-clause-distinct c = subst AreDistinct c.self.view_is (distinct_names c.self.inside.names.keys c.self.invariant)

pub returns-clause-count : goal.returns-clause-count
returns-clause-count c =
    let old = c.self.inside.names.keys in
    let k = c.in_ok-from_str.field-0 in
    let keys = c.in_ok-insert.ensures.keys ∙ added_name old c.args.name.now k c.in_ok-from_str.ensures.ok (sym c.in_default.ensures.found) in
    let now = ap (λ (xs : List _). length (map string_bytes xs)) keys ∙ added_count old c.args.name.now k c.in_ok-from_str.ensures.ok in
    let was : length c.args.self.now ≡ length old = sym (ap length c.self.view_is) ∙ length-map old string_bytes in
    omega (arith, now, was, c.len-number.ensures.len)

pub returns-clause-named : goal.returns-clause-named
returns-clause-named c =
    let old = c.self.inside.names.keys in
    let k = c.in_ok-from_str.field-0 in
    let keys = c.in_ok-insert.ensures.keys ∙ added_name old c.args.name.now k c.in_ok-from_str.ensures.ok (sym c.in_default.ensures.found) in
    ap (λ (xs : List _). slice_get (map string_bytes xs) c.len-number.result) keys
    ∙ ap (slice_get (map string_bytes (old ++ k ∷ []))) c.len-number.ensures.len
    ∙ added_last old c.args.name.now k c.in_ok-from_str.ensures.ok

pub returns-clause-distinct : goal.returns-clause-distinct
returns-clause-distinct c = distinct_names c.insert.new.self.keys c.in_ok-insert.ensures.unique
