-- Merging is confluent: what may be put may be put first.
use Rattle.std.proofs.Common.{◌≡◌, ℕ, true, false, ◌⊎◌, inl, inr, refl, sym, subst, ◌∙◌, ap, [], ◌∷◌, Option, Some, None}
use Rattle.messages.specs.rule.Messages.{is_among}
use Rattle.messages.specs.declared.actor.Actor.{Actor}
use Rattle.messages.specs.declared.event.Event.TheVariants.{Member}
use Rattle.messages.specs.declared.event.MemberEvent.{MemberEvent}
use Rattle.messages.specs.declared.entry.Entry.{Entry}
use Rattle.cluster_core.specs.rule.World.{WorldState}
use Rattle.cluster_core.specs.rule.Next.{next}
use Rattle.cluster_core.proofs.common.Refusals.{ok_is}
use Rattle.merges.specs.declared.logged.LoggedEntry.{LoggedEntry}
use Rattle.merges.specs.declared.logged.LoggedChange.{LoggedChange}
use Rattle.merges.specs.rule.Merges.{same_actor}
use Rattle.merges.specs.code.Merging.{Merging, current, with_left, EntryComes, ChangeComes, Comes, IsDone}
use Rattle.merges.proofs.Diamonds.{IsConfluent}
use Rattle.merges.proofs.Counts.{same_is, is_same}
use Rattle.merges.proofs.Alike.{with_more, AreAlike, comes_alike}
use Rattle.merges.proofs.Swaps.{entry_after_entry, entries_alike, change_after_entry, entry_after_change, change_alike}

-- the next of a list is put
abbrev pub Puts : ℕ → Merging → Option Actor → Merging → Type 0
Puts skew m list n = (x : LoggedEntry) × Comes skew m list x n

alike_back : (s t : Merging) → AreAlike s t → AreAlike t s
alike_back s t alike =
    (s.world.sent, (λ i. with_more (sym alike.1 i) s.world.sent), λ m. sym (alike.2 m) ∙ ap (λ (z : Merging). is_among z.world.sent m) (sym alike.1))

lists_decided : (k l : Option Actor) → (k ≡ l) ⊎ (k ≡ l → ⊥)
lists_decided None None = inl refl
lists_decided None (Some b) = inr (λ same. absurd (cc))
lists_decided (Some a) None = inr (λ same. absurd (cc))
lists_decided (Some a) (Some b) =
    elim (same_actor a b) as (λ t. same_actor a b ≡ t → (Some a ≡ Some b) ⊎ (Some a ≡ Some b → ⊥)) [
      | true ↦ λ is. inl (ap Some (same_is a b is))
      | false ↦ λ is. inr (λ same. let one : a ≡ b = cc in let both : true ≡ false = sym (is_same a b one) ∙ is in absurd (cc))
    ] refl

no_more : (skew : ℕ) (m n : Merging) (list : Option Actor) → IsDone m → Puts skew m list n → ⊥
no_more skew m n None done puts = let both : [] ≡ record { event = puts.1.event; interval = puts.0.interval } ∷ puts.1.rest = sym done.changes ∙ puts.1.first in absurd (cc)
no_more skew m n (Some a) done puts = let both : [] ≡ puts.0 ∷ puts.1.rest = sym (done.left a (current m.world a)) ∙ puts.1.first in absurd (cc)

stays_done : (s t : Merging) → AreAlike s t → IsDone s → IsDone t
stays_done s t alike done = subst IsDone (sym alike.1) (record { left = done.left; changes = done.changes })

one_entry : (skew : ℕ) (m n p : Merging) (a : Actor) (x y : LoggedEntry) → EntryComes skew m a x n → EntryComes skew m a y p → n ≡ p
one_entry skew m n p a x y c d =
    let both : x ∷ c.rest ≡ y ∷ d.rest = sym c.first ∙ d.first in
    let same : x ≡ y = cc in
    let rest : c.rest ≡ d.rest = cc in
    let made = ok_is (n.world, x.entry) (p.world, y.entry) (sym c.step ∙ ap (λ (z : LoggedEntry). next m.world z.entry.event) same ∙ d.step) in
    let world : n.world ≡ p.world = ap (λ (q : WorldState × Entry). q.0) made in
    let left : n.left ≡ p.left = c.left ∙ ap (with_left m.left a (current m.world a)) rest ∙ sym d.left in
    let changes : n.changes ≡ p.changes = c.changes ∙ sym d.changes in
    λ i. record { world = world i; left = left i; changes = changes i }

one_change : (skew : ℕ) (m n p : Merging) (x y : LoggedEntry) → ChangeComes skew m x n → ChangeComes skew m y p → n ≡ p
one_change skew m n p x y c d =
    let both : record { event = c.event; interval = x.interval } ∷ c.rest ≡ record { event = d.event; interval = y.interval } ∷ d.rest = sym c.first ∙ d.first in
    let heads : ◌≡◌ {A = LoggedChange} (record { event = c.event; interval = x.interval }) (record { event = d.event; interval = y.interval }) = cc in
    let same : c.event ≡ d.event = ap (λ (z : LoggedChange). z.event) heads in
    let rest : c.rest ≡ d.rest = cc in
    let made = ok_is (n.world, x.entry) (p.world, y.entry) (sym c.step ∙ ap (λ (z : MemberEvent). next m.world (Member z)) same ∙ d.step) in
    let world : n.world ≡ p.world = ap (λ (q : WorldState × Entry). q.0) made in
    let left : n.left ≡ p.left = c.left ∙ sym d.left in
    let changes : n.changes ≡ p.changes = c.changes ∙ rest ∙ sym d.changes in
    λ i. record { world = world i; left = left i; changes = changes i }

one_puts : (skew : ℕ) (m n p : Merging) (list : Option Actor) → Puts skew m list n → Puts skew m list p → n ≡ p
one_puts skew m n p None c d = one_change skew m n p c.0 d.0 c.1 d.1
one_puts skew m n p (Some a) c d = one_entry skew m n p a c.0 d.0 c.1 d.1

alike_puts : (skew : ℕ) (s t m : Merging) (list : Option Actor) → AreAlike s t → Puts skew s list m → (n : Merging) × Puts skew t list n × AreAlike m n
alike_puts skew s t m list alike puts =
    let next = comes_alike skew s t m list puts.0 alike puts.1 in
    (next.0, (puts.0, next.1), next.2)

puts_swap : (skew : ℕ) (m n p : Merging) (k l : Option Actor) → (k ≡ l → ⊥) → Puts skew m k n → Puts skew m l p → (r : Merging) × (s : Merging) × Puts skew n l r × Puts skew p k s × AreAlike r s
puts_swap skew m n p None None other c d = absurd (other refl)
puts_swap skew m n p (Some a) (Some b) other c d =
    let unlike : a ≡ b → ⊥ = λ same. other (ap Some same) in
    let back : b ≡ a → ⊥ = λ same. unlike (sym same) in
    (_, _, (d.0, entry_after_entry skew m n p a b c.0 d.0 unlike c.1 d.1), (c.0, entry_after_entry skew m p n b a d.0 c.0 back d.1 c.1), entries_alike skew m n p a b c.0 d.0 unlike c.1 d.1)
puts_swap skew m n p (Some a) None other c d =
    (_, _, (d.0, change_after_entry skew m n p a c.0 d.0 c.1 d.1), (c.0, entry_after_change skew m n p a c.0 d.0 c.1 d.1), change_alike skew m n p a c.0 d.0 c.1 d.1)
puts_swap skew m n p None (Some b) other c d =
    (_, _, (d.0, entry_after_change skew m p n b d.0 c.0 d.1 c.1), (c.0, change_after_entry skew m p n b d.0 c.0 d.1 c.1), alike_back _ _ (change_alike skew m p n b d.0 c.0 d.1 c.1))

pub merging_is_confluent : (skew : ℕ) → IsConfluent Merging (Option Actor) (Puts skew) AreAlike IsDone
merging_is_confluent skew = record {
  decides = lists_decided;
  ends = λ s n l done puts. no_more skew s n l done puts;
  stays = stays_done;
  one = λ s m n l. one_puts skew s m n l;
  follows = λ s t m l alike puts. alike_puts skew s t m l alike puts;
  swaps = λ s m n k l other c d. puts_swap skew s m n k l other c d;
}
