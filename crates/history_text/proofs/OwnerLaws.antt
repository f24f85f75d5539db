-- Owners: the numbers of their names, names that are kept in a set, and facts that stay so.
use Rattle.std.proofs.Common.{◌≡◌, ℕ, ◌+◌, ◌*◌, ◌/◌, ◌%◌, List, slice_get, sym, ap, ◌∙◌, arith, ◌<◌, Bool, true, false, ⊎_elim, [], ◌∷◌, ◌++◌, length, length-append, map, get_or, position, Some, subst, true≢false, if◌then◌else◌, ◌≤◌, Option, None, IfSome}
use Rattle.std.proofs.Math.Nat.{div-add-mod}
use Rattle.std.proofs.lemmas.Option.{same_Some, get_or_from_slice_get, slice_get_cases, slice_get-map, slice_get_within}
use Rattle.model.specs.rule.Limits.{OwnerFields}
use Rattle.history_text.specs.rule.Histories.{AreOneToOne}
use Rattle.history_text.specs.rule.Owners.{AreDistinct, owner_numbered, IsTimed}
use Rattle.std.specs.List.{IsDistinct, list_any}
use Rattle.std.specs.Option.{option_map}
use Rattle.std.specs.Str.{bytes_eq}
use Rattle.std.specs.String.{string_bytes, string_eq}
use Rattle.std.specs.declared.string.String.{String}
use Rattle.std.proofs.lemmas.Bool.{cases_order}
use Rattle.std.proofs.lemmas.List.{length-map}
use Rattle.std.proofs.lemmas.List.Quantifiers.{position-Some}
use Rattle.std.proofs.lemmas.Map.Keys.{apart_from_distinct}
use Rattle.std.proofs.lemmas.Slice.Eq.{bytes_eq-Decides}
use Rattle.indexmap.specs.IndexSet.{insert_key}
use Rattle.history_text.proofs.Lists.{get_last, map_get}
use Rattle.history_text.specs.declared.known_names.KnownNames.{KnownNames}
use Rattle.history_text.specs.declared.owners.Exit.{Exit}
use Rattle.history_text.specs.declared.owners.Life.{Life}
use Rattle.history_text.specs.code.Readings.{Extends, Grows, IsExit, IsLife, Learns}

-- numbers with equal quotients and remainders are equal
one_by_parts : (n i j : ℕ) → i / n ≡ j / n → i % n ≡ j % n → i ≡ j
one_by_parts n i j q r = sym (div-add-mod i n) ∙ ap (λ (x : ℕ). n * x + i % n) q ∙ ap (λ (x : ℕ). n * (j / n) + x) r ∙ div-add-mod j n

one_less : (a b : ℕ) → a + 1 ≡ b + 1 → a ≡ b
one_less a b same = omega arith

-- different numbers stand for different owners
pub one_number : (i j : ℕ) → owner_numbered i ≡ owner_numbered j → i ≡ j
one_number i j same =
    let node = one_less (i / 256 / 65535) (j / 256 / 65535) (ap (λ (o : OwnerFields). o.node) same) in
    let incarnation = one_less (i / 256 % 65535) (j / 256 % 65535) (ap (λ (o : OwnerFields). o.incarnation) same) in
    let number = one_less (i % 256) (j % 256) (ap (λ (o : OwnerFields). o.number) same) in
    one_by_parts 256 i j (one_by_parts 65535 (i / 256) (j / 256) node incarnation) number

-- owners and distinct names go one by one
pub one_to_one : (names : List (List ℕ)) → AreDistinct names → AreOneToOne names
one_to_one names distinct = record {
  one_name = λ owner a b p q.
      let same = one_number p.0 q.0 (sym p.2 ∙ q.2) in
      same_Some a b (sym p.1 ∙ ap (slice_get names) same ∙ q.1);
  one_owner = λ a b name p q. p.2 ∙ ap owner_numbered (distinct p.0 q.0 name p.1 q.1) ∙ sym q.2;
}

module _ {Z : Type 0} (ks : List (String Z)) where
  apart : IsDistinct string_eq ks → (i j : ℕ) (a b : String Z) → i < j → slice_get ks i ≡ Some a → slice_get ks j ≡ Some b → string_bytes a ≡ string_bytes b → ⊥
  apart d i j a b lt p q same =
      let differ = apart_from_distinct string_eq ks i j a d lt (slice_get_within ks j b q) in
      let first = get_or_from_slice_get ks i a a p in
      let second = get_or_from_slice_get ks j b a q in
      let no : bytes_eq (string_bytes a) (string_bytes b) ≡ false = subst (λ (x : String Z). string_eq a x ≡ false) second (subst (λ (x : String Z). string_eq x (get_or ks j a) ≡ false) first differ) in
      true≢false (sym ((bytes_eq-Decides (string_bytes a) (string_bytes b)).1 same) ∙ no)

  -- keys that differ are distinct names
  pub distinct_names : IsDistinct string_eq ks → AreDistinct (map string_bytes ks)
  distinct_names d i j name p q =
      let a = map_get string_bytes ks i name p in
      let b = map_get string_bytes ks j name q in
      ⊎_elim (λ same. same)
      (⊎_elim (λ below. absurd (apart d i j a.0 b.0 below a.1 b.1 (a.2 ∙ sym b.2)))
      (λ above. absurd (apart d j i b.0 a.0 above b.1 a.1 (b.2 ∙ sym a.2)))) (cases_order i j)

  module _ (name : List ℕ) where
    -- the key that a name finds has that name
    pub found_name : (i : ℕ) → i < length ks → position (λ (k : String Z). bytes_eq name (string_bytes k)) ks ≡ Some i → slice_get (map string_bytes ks) i ≡ Some name
    found_name i lt at =
        ⊎_elim (λ there.
        let k = there.0 in
        let found = position-Some (λ (x : String Z). bytes_eq name (string_bytes x)) ks i k at in
        let same : bytes_eq name (string_bytes k) ≡ true = subst (λ (x : String Z). bytes_eq name (string_bytes x) ≡ true) there.3 found.1 in
        slice_get-map string_bytes ks i ∙ ap (option_map string_bytes) there.2 ∙ ap Some (sym ((bytes_eq-Decides name (string_bytes k)).0 same)))
        (λ past. absurd (omega arith)) (slice_get_cases ks i).1

    -- a name that no key has comes last
    pub added_name : (k : String Z) → string_bytes k ≡ name → list_any (λ (x : String Z). bytes_eq name (string_bytes x)) ks ≡ false → insert_key string_eq ks k ≡ ks ++ k ∷ []
    added_name k is none =
        let test : list_any (string_eq k) ks ≡ false = subst (λ (n : List ℕ). list_any (λ (x : String Z). bytes_eq n (string_bytes x)) ks ≡ false) (sym is) none in
        ap (λ (b : Bool). if b then ks else ks ++ k ∷ []) test

    module _ (k : String Z) (is : string_bytes k ≡ name) where
      -- after a new name there is one more
      pub added_count : length (map string_bytes (ks ++ k ∷ [])) ≡ length ks + 1
      added_count = length-map (ks ++ k ∷ []) string_bytes ∙ length-append ks (k ∷ [])

      -- the last name is the new one
      pub added_last : slice_get (map string_bytes (ks ++ k ∷ [])) (length ks) ≡ Some name
      added_last = slice_get-map string_bytes (ks ++ k ∷ []) (length ks) ∙ ap (option_map string_bytes) (get_last ks k) ∙ ap Some is

grows_both : (a b c : Life) → Grows a b → Grows b c → Grows a c
grows_both a b c p q =
    let first : a.latest ≤ b.latest = p.latest in
    let second : b.latest ≤ c.latest = q.latest in
    record { latest = omega arith; exit = λ exit e. q.exit exit (p.exit exit e) }

pub extends_none : (lives : List Life) → Extends lives lives
extends_none lives k life at = (life, at, record { latest = omega arith; exit = λ exit e. e })

pub extends_both : (first last end : List Life) → Extends first last → Extends last end → Extends first end
extends_both first last end p q k life at =
    let b = p k life at in
    let c = q k b.0 b.1 in
    (c.0, c.1, grows_both life b.0 c.0 b.2 c.2)

-- words were read, and then more words of the same line
pub learns_both : (line : ℕ) (a b c : KnownNames) → Learns line a b → Learns line b c → Learns line a c
learns_both line a b c p q = record {
  sound = q.sound;
  extends = extends_both a.owners.lives.items b.owners.lives.items c.owners.lives.items p.extends q.extends;
  lives = λ lines within all. q.lives lines within (p.lives lines within all);
}

-- the exit in an owner's life is one of its lines
pub exit_is : (lines : ℕ) (life : Life) (exit : Exit) → IsLife lines life → life.exit ≡ Some exit → IsExit lines life.latest exit
exit_is lines life exit is e = subst (λ (o : Option Exit). IfSome o (IsExit lines life.latest)) e is

-- what begins earlier may have the same ends
pub timed_earlier : (a b : ℕ) (end : Option ℕ) → a ≤ b → IsTimed b end → IsTimed a end
timed_earlier a b None le timed = tt
timed_earlier a b (Some time) le timed = omega arith
