-- The tests of owners and nodes: owners that test alike are equal, and an owner or a node tests alike with itself.
use Rattle.std.specs.Prelude.{◌≡◌, true, refl}
use Rattle.std.proofs.Common.{eq-eqb}
use Rattle.std.proofs.lemmas.Bool.{and_parts, and_from, eqb-true, false≢true}
use Rattle.model.specs.declared.host.Host.{Host}
use Rattle.model.specs.declared.owner.Kind.{Kind}
use Rattle.model.specs.declared.owner.Kind.TheVariants.{OfProcess, OfDescription}
use Rattle.model.specs.declared.owner.Owner.{Owner}
use Rattle.model.specs.rule.Owners.{same_kind, same_owner, same_host}

kind_exact : (a b : Kind) → same_kind a b ≡ true → a ≡ b
kind_exact OfProcess OfProcess h = refl
kind_exact OfProcess OfDescription h = absurd (false≢true h)
kind_exact OfDescription OfProcess h = absurd (false≢true h)
kind_exact OfDescription OfDescription h = refl

kind_refl : (a : Kind) → same_kind a a ≡ true
kind_refl OfProcess = refl
kind_refl OfDescription = refl

pub owner_exact : (a b : Owner) → same_owner a b ≡ true → a ≡ b
owner_exact a b h =
    let first = and_parts _ _ h in
    let second = and_parts _ _ first.1 in
    let third = and_parts _ _ second.1 in
    let nodes = eqb-true _ _ first.0 in
    let incarnations = eqb-true _ _ second.0 in
    let kinds = kind_exact _ _ third.0 in
    let numbers = eqb-true _ _ third.1 in
    λ i. record { node = nodes i; incarnation = incarnations i; kind = kinds i; number = numbers i }

pub owner_refl : (a : Owner) → same_owner a a ≡ true
owner_refl a = and_from _ _ (eq-eqb a.node a.node refl) (and_from _ _ (eq-eqb a.incarnation a.incarnation refl) (and_from _ _ (kind_refl a.kind) (eq-eqb a.number a.number refl)))

pub host_refl : (a : Host) → same_host a a ≡ true
host_refl a = and_from _ _ (eq-eqb a.node a.node refl) (eq-eqb a.incarnation a.incarnation refl)
