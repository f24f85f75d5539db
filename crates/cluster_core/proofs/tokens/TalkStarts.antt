-- A token server that is rebuilt, and the facts that it and a node share.
use Rattle.std.specs.Prelude.{max, ◌-◌}
use Rattle.std.proofs.Common.{◌≡◌, ℕ, ◌+◌, ◌<◌, ◌≤◌, Bool, true, false, if◌then◌else◌, ◌⊎◌, inl, inr, refl, sym, ◌∙◌, ap, subst, arith, Option, Some, None}
use Rattle.std.proofs.lemmas.Bool.{cases_eq, cases_lt, both_ways}
use Rattle.std.proofs.lemmas.Option.{same_Some, none-some}
use Rattle.token_set.specs.rule.Tokens.{Token, no_token}
use Rattle.messages.specs.declared.message.Message.{Message}
use Rattle.messages.specs.declared.message.Message.TheVariants.{Hello}
use Rattle.messages.specs.rule.Messages.{host_of}
use Rattle.node_core.specs.rule.State.{FileState}
use Rattle.token_server.specs.rule.Rows.{Row, awaited_row}
use Rattle.cluster_core.specs.rule.Numbers.{is_command}
use Rattle.cluster_core.proofs.tokens.Talks.{Sent, IsHostOf, IsCommandTo, IsAnswerOf, same_command, command_host, promised, in_epoch, IsCountedIn, InStep, Talk, MayHold, on_the_way}

-- the server is rebuilt in the next epoch: it sent the live incarnation a Hello, or knows it to be dead
pub record IsStarting (was now : Sent) (file n incarnation begin : ℕ) (asks : Bool) : Type 0 where
  pub kept : (m : Message) → was m → now m
  pub commands : (i k : ℕ) (m : Message) → now m → IsCommandTo file n i k m → was m ⊎ ((asks ≡ true) × (m ≡ Hello file begin (record { node = n; incarnation = incarnation })))
  pub answers : (k : ℕ) (m : Message) → now m → IsAnswerOf file n incarnation k m → was m
  pub asked : asks ≡ true → now (Hello file begin (record { node = n; incarnation = incarnation }))
  -- no incarnation after the live one was named, and that one is live if it was
  pub begun : (m : Message) → was m → (host_of m).node ≡ n → (host_of m).incarnation ≤ incarnation
  pub alive : (m : Message) → was m → IsHostOf n incarnation (host_of m) → asks ≡ true

module _ (was now : Sent) (file n incarnation : ℕ) (f : FileState) (row : Option Row) (dead old begin : ℕ) (after : begin ≡ old + in_epoch) (asks : Bool) (s : IsStarting was now file n incarnation begin asks) (t : Talk was file n incarnation f row dead old) where
  abbrev hello : Message
  hello = Hello file begin (record { node = n; incarnation = incarnation })

  abbrev asked_row : Row
  asked_row = awaited_row file begin n incarnation

  abbrev next_row : Bool → Option Row
  next_row b = if b then Some asked_row else None

  lives_still : incarnation - 1 < incarnation
  lives_still = let lives = t.lives in omega arith

  -- older commands have older numbers
  older : (k : ℕ) (m : Message) → was m → IsCommandTo file n incarnation k m → k < begin
  older k m sent to = elim (t.counted incarnation k m sent to).1 [
    | inl known ↦ let lives = t.lives in absurd (omega arith)
    | inr c ↦
        let few = (t.numbered c.counting c.there).1 in
        let up = c.up_to in
        omega arith
  ]

  of_old : (i k : ℕ) (m : Message) → was m → IsCommandTo file n i k m → i ≤ incarnation
  of_old i k m sent to =
      let host = command_host file n i k m to in
      let is = host.1 in
      let up = s.begun m sent host.0 in
      omega arith

  -- a new Hello is to the live incarnation, with the epoch's base as its number
  question_is : (i k : ℕ) (m : Message) → IsCommandTo file n i k m → m ≡ hello → (i ≡ incarnation) × (k ≡ begin)
  question_is i k m to is =
      let mine : IsCommandTo file n i k hello = subst (IsCommandTo file n i k) is to in
      (sym mine.3, sym mine.1)

  one_started : (i k : ℕ) (m x : Message) → now m → now x → IsCommandTo file n i k m → IsCommandTo file n i k x → m ≡ x
  one_started i k m x a b m_to x_to = elim (s.commands i k m a m_to) [
    | inl old_m ↦ elim (s.commands i k x b x_to) [
      | inl old_x ↦ t.one_number i k m x old_m old_x m_to x_to
      | inr new_x ↦ let both = question_is i k x x_to new_x.1 in absurd (clash i k m old_m m_to both.0 both.1)
    ]
    | inr new_m ↦ elim (s.commands i k x b x_to) [
      | inl old_x ↦ let both = question_is i k m m_to new_m.1 in absurd (clash i k x old_x x_to both.0 both.1)
      | inr new_x ↦ new_m.1 ∙ sym new_x.1
    ]
  ]
    where
      clash : (i k : ℕ) (m : Message) → was m → IsCommandTo file n i k m → i ≡ incarnation → k ≡ begin → ⊥
      clash i k m sent to i_is k_is =
          let below = older k m sent (subst (λ (j : ℕ). IsCommandTo file n j k m) i_is to) in
          omega arith

  counted_started : (b : Bool) → asks ≡ b → (i k : ℕ) (m : Message) → now m → IsCommandTo file n i k m → (1 ≤ k) × ((i ≤ incarnation - 1) ⊎ IsCountedIn (next_row b) i k)
  counted_started b is i k m sent to = elim (s.commands i k m sent to) [
    | inl before ↦
        let least = (t.counted i k m before to).0 in
        let up = of_old i k m before to in
        elim (cases_eq i incarnation) [
          | inl same ↦
              let mine = subst (λ (j : ℕ). IsCommandTo file n j k m) same to in
              let below = older k m before mine in
              let live : b ≡ true = sym is ∙ s.alive m before (command_host file n incarnation k m mine) in
              (least, inr (record { counting = asked_row; there = ap next_row live; of = sym same; up_to = omega arith }))
          | inr other ↦ (least, inl (below_it i up other))
        ]
    | inr new ↦
        let both = question_is i k m to new.1 in
        let number = both.1 in
        (omega arith, inr (record { counting = asked_row; there = ap next_row (sym is ∙ new.0); of = sym both.0; up_to = omega arith }))
  ]
    where
      below_it : (i : ℕ) → i ≤ incarnation → (i ≡ incarnation → ⊥) → i ≤ incarnation - 1
      below_it i up other = elim (cases_lt i incarnation) [ inl lt ↦ omega arith | inr ge ↦ absurd (other (omega arith)) ]

  -- at most one command of older epochs is ahead
  one_ahead : InStep was file n incarnation f row old → (k l : ℕ) (m x : Message) → was m → was x → is_command m ≡ true → is_command x ≡ true → IsCommandTo file n incarnation k m → IsCommandTo file n incarnation l x → f.last < k → f.last < l → k ≡ l
  one_ahead (inl u) k l m x m_sent x_sent m_is x_is m_to x_to m_above x_above = elim (t.counted incarnation k m m_sent m_to).1 [
    | inl known ↦ let lives = t.lives in absurd (omega arith)
    | inr c ↦ absurd (u.none c.counting c.there c.of)
  ]
  one_ahead (inr (inl known)) k l m x m_sent x_sent m_is x_is m_to x_to m_above x_above =
      let first = number_of k m m_sent m_to m_above in
      let second = number_of l x x_sent x_to x_above in
      omega arith
    where
      number_of : (k : ℕ) (m : Message) → was m → IsCommandTo file n incarnation k m → f.last < k → k ≡ max f.last old + 1
      number_of k m sent to above =
          let w = on_the_way was file n incarnation f row dead old t known m (record { number = k; is = to; sent = sent; above = above }) in
          let number = w.number in
          let named = (t.waits w.known m w.there w.outstanding).1 in
          let mine : IsCommandTo file n incarnation w.known.number m = subst (λ (i : ℕ). IsCommandTo file n i w.known.number m) w.of named in
          let same = (same_command file n incarnation k file n incarnation w.known.number m to mine).number_is in
          omega arith
  one_ahead (inr (inr a)) k l m x m_sent x_sent m_is x_is m_to x_to m_above x_above = a.one k l m x m_sent x_sent m_is x_is m_to x_to m_above x_above

  -- the last command done was of an older epoch
  last_old : InStep was file n incarnation f row old → f.last ≤ begin
  last_old (inl u) = let last = u.last in omega arith
  last_old (inr (inl known)) =
      let few = (t.numbered known.known known.there).1 in
      elim known.states [
        | inl i ↦ let number = i.number in omega arith
        | inr other ↦ elim other [
          | inl w ↦ let number = w.number in omega arith
          | inr d ↦ let number = d.number in omega arith
        ]
      ]
  last_old (inr (inr a)) = let last = a.last in omega arith

  -- a command that is none of the new questions was sent before
  was_sent : (k : ℕ) (m : Message) → now m → is_command m ≡ true → IsCommandTo file n incarnation k m → was m
  was_sent k m sent is to = elim (s.commands incarnation k m sent to) [
    | inl before ↦ before
    | inr new ↦ let no : true ≡ false = sym is ∙ ap is_command new.1 in absurd (cc)
  ]

  in_step_started : (b : Bool) → asks ≡ b → InStep now file n incarnation f (next_row b) begin
  in_step_started true is = inr (inr (record {
    known = asked_row;
    there = refl;
    of = refl;
    hello = refl;
    number = refl;
    last = last_old t.in_step;
    one = λ k l m x m_sent x_sent m_is x_is m_to x_to m_above x_above.
        one_ahead t.in_step k l m x (was_sent k m m_sent m_is m_to) (was_sent l x x_sent x_is x_to) m_is x_is m_to x_to m_above x_above;
  }))
  in_step_started false is = inl (record { last = last_old t.in_step; token = nothing_held t.in_step; none = λ r h. absurd (none-some r h) })
    where
      no_row : (r : Row) → row ≡ Some r → r.incarnation ≡ incarnation → ⊥
      no_row r there of =
          let a = t.named r there in
          let live = s.alive a.0 a.1 (a.2.0, a.2.1 ∙ of) in
          both_ways asks is live

      nothing_held : InStep was file n incarnation f row old → f.token ≡ no_token
      nothing_held (inl u) = u.token
      nothing_held (inr (inl k)) = absurd (no_row k.known k.there k.of)
      nothing_held (inr (inr a)) = absurd (no_row a.known a.there a.of)

  talk-starts_as : (b : Bool) → asks ≡ b → Talk now file n incarnation f (next_row b) (incarnation - 1) begin
  talk-starts_as true is = record {
    lives = lives_still;
    aged = λ r h. let of : incarnation ≡ r.incarnation = ap (λ (x : Row). x.incarnation) (same_Some asked_row r h) in let lives = t.lives in omega arith;
    named = λ r h. let of : incarnation ≡ r.incarnation = ap (λ (x : Row). x.incarnation) (same_Some asked_row r h) in (hello, s.asked is, (refl, of));
    numbered = λ r h. let number : begin ≡ r.number = ap (λ (x : Row). x.number) (same_Some asked_row r h) in (omega arith, omega arith);
    waits = λ r m h o.
        let same = same_Some asked_row r h in
        let is_m : hello ≡ m = same_Some hello m (ap (λ (y : Row). y.outstanding) same ∙ o) in
        let P : Row → Message → Type 0 = λ y c. now c × IsCommandTo file n y.incarnation y.number c in
        subst (λ (y : Row). P y m) same (subst (P asked_row) is_m (s.asked is, (refl, refl, refl, refl)));
    counted = counted_started true is;
    one_number = one_started;
    in_step = in_step_started true is;
    answers = λ k m sent of. t.answers k m (s.answers k m sent of) of;
    remembered = λ m h. let r = t.remembered m h in (s.kept m r.0, r.1, r.2);
  }
  talk-starts_as false is = record {
    lives = lives_still;
    aged = λ r h. absurd (none-some r h);
    named = λ r h. absurd (none-some r h);
    numbered = λ r h. absurd (none-some r h);
    waits = λ r m h. absurd (none-some r h);
    counted = counted_started false is;
    one_number = one_started;
    in_step = in_step_started false is;
    answers = λ k m sent of. t.answers k m (s.answers k m sent of) of;
    remembered = λ m h. let r = t.remembered m h in (s.kept m r.0, r.1, r.2);
  }

  pub talk-starts : Talk now file n incarnation f (next_row asks) (incarnation - 1) begin
  talk-starts = talk-starts_as asks refl

  -- a question promises nothing
  pub may_hold-starts : (u : Token) → MayHold now file n incarnation f u → MayHold was file n incarnation f u
  may_hold-starts u (inl same) = inl same
  may_hold-starts u (inr p) =
      let a = p.ahead in
      elim (s.commands incarnation a.number p.command a.sent a.is) [
        | inl before ↦ inr (record { command = p.command; ahead = record { number = a.number; is = a.is; sent = before; above = a.above }; value = p.value })
        | inr new ↦ inl (p.value ∙ ap (promised f.token) new.1)
      ]
