-- The moves of a token server keep the facts that it and a node share.
use Rattle.std.specs.Prelude.{max, nat_le}
use Rattle.std.proofs.Common.{◌≡◌, ℕ, ◌+◌, ◌<◌, ◌≤◌, true, false, if◌then◌else◌, ◌⊎◌, inl, inr, refl, sym, ◌∙◌, ap, subst, arith, List, Option, Some, None}
use Rattle.std.proofs.lemmas.Bool.{cases_eq, both_ways, leb-true, leb-false}
use Rattle.std.proofs.lemmas.Option.{same_Some, none-some}
use Rattle.model.specs.declared.host.Host.{Host}
use Rattle.token_set.specs.rule.Tokens.{Token}
use Rattle.messages.specs.declared.token_run.TokenRun.{TokenRun}
use Rattle.messages.specs.declared.message.Message.{Message}
use Rattle.messages.specs.declared.message.Message.TheVariants.{Report}
use Rattle.messages.specs.rule.Messages.{host_of, reported}
use Rattle.node_core.specs.rule.State.{FileState}
use Rattle.token_server.specs.rule.Rows.{Row, empty_row, row_above, is_hello}
use Rattle.cluster_core.proofs.tokens.Talks.{Sent, IsHostOf, IsCommandTo, IsAnswerOf, same_command, promised, settled, in_epoch, IsCountedIn, IsIdle, States, IsKnown, InStep, IsLast, Talk, MayHold}
use Rattle.cluster_core.proofs.tokens.TalkMoves.{named_kept, is_answer}

-- the server forgets an incarnation that is not the live one
module _ (was : Sent) (file n incarnation : ℕ) (f : FileState) (dead begin j : ℕ) (older : j < incarnation) where
  unknown_dropped : (r : Row) → r.incarnation ≤ j → InStep was file n incarnation f (Some r) begin → InStep was file n incarnation f None begin
  unknown_dropped r dropped (inl u) = inl (record { last = u.last; token = u.token; none = λ x h. absurd (none-some x h) })
  unknown_dropped r dropped (inr (inl k)) =
      let of : r.incarnation ≡ incarnation = ap (λ (x : Row). x.incarnation) (same_Some r k.known k.there) ∙ k.of in
      absurd (omega arith)
  unknown_dropped r dropped (inr (inr a)) =
      let of : r.incarnation ≡ incarnation = ap (λ (x : Row). x.incarnation) (same_Some r a.known a.there) ∙ a.of in
      absurd (omega arith)

  dropped : (r : Row) → Talk was file n incarnation f (Some r) dead begin → r.incarnation ≤ j → Talk was file n incarnation f None (max dead j) begin
  dropped r t old = record {
    lives = let lives = t.lives in omega arith;
    aged = λ x h. absurd (none-some x h);
    named = λ x h. absurd (none-some x h);
    numbered = λ x h. absurd (none-some x h);
    waits = λ x m h. absurd (none-some x h);
    counted = λ i k m sent to.
        let c = t.counted i k m sent to in (
          c.0,
          inl (elim c.1 [
            | inl known ↦ omega arith
            | inr counts ↦
                let of : r.incarnation ≡ i = ap (λ (x : Row). x.incarnation) (same_Some r counts.counting counts.there) ∙ counts.of in
                omega arith
          ]),
        );
    one_number = t.one_number;
    in_step = unknown_dropped r old t.in_step;
    answers = t.answers;
    remembered = t.remembered;
  }

  stayed : (r : Row) → Talk was file n incarnation f (Some r) dead begin → j < r.incarnation → Talk was file n incarnation f (Some r) (max dead j) begin
  stayed r t young =
      let aged = t.aged r refl in
      let same : dead ≡ max dead j = omega arith in
      subst (λ (d : ℕ). Talk was file n incarnation f (Some r) d begin) same t

  pub talk-forgets : (row : Option Row) → Talk was file n incarnation f row dead begin → Talk was file n incarnation f (row_above j row) (max dead j) begin
  talk-forgets None t = record {
    lives = let lives = t.lives in omega arith;
    aged = λ r h. absurd (none-some r h);
    named = λ r h. absurd (none-some r h);
    numbered = λ r h. absurd (none-some r h);
    waits = t.waits;
    counted = λ i k m sent to.
        let c = t.counted i k m sent to in
        (c.0, elim c.1 [ inl known ↦ inl (omega arith) | inr counts ↦ inr counts ]);
    one_number = t.one_number;
    in_step = t.in_step;
    answers = t.answers;
    remembered = t.remembered;
  }
  talk-forgets (Some r) t =
      elim (nat_le r.incarnation j) as (λ b. nat_le r.incarnation j ≡ b → Talk was file n incarnation f (if b then None else Some r) (max dead j) begin) [
        | true ↦ λ h. dropped r t (leb-true r.incarnation j h)
        | false ↦ λ h. stayed r t (leb-false r.incarnation j h)
      ] refl

-- the server makes a row where there is none
module _ (was : Sent) (file n incarnation : ℕ) (f : FileState) (dead begin i : ℕ) (is : i ≡ dead + 1) (t : Talk was file n incarnation f None dead begin) where
  in_step_row : InStep was file n incarnation f None begin → InStep was file n incarnation f (Some (empty_row begin i)) begin
  in_step_row (inl u) = elim (cases_eq i incarnation) [
    | inl same ↦
        let last = u.last in
        inr (inl (record {
          known = empty_row begin i;
          there = refl;
          of = same;
          told = refl;
          states = inl (record { outstanding = refl; number = omega arith; token = sym u.token });
          fresh = λ k m sent to above. elim (t.counted incarnation k m sent to).1 [
            | inl old ↦ let lives = t.lives in absurd (omega arith)
            | inr counts ↦ absurd (none-some counts.counting counts.there)
          ];
        }))
    | inr other ↦ inl (record { last = u.last; token = u.token; none = λ r h of. other (ap (λ (x : Row). x.incarnation) (same_Some (empty_row begin i) r h) ∙ of) })
  ]
  in_step_row (inr (inl k)) = absurd (none-some k.known k.there)
  in_step_row (inr (inr a)) = absurd (none-some a.known a.there)

  pub talk-row : (m : Message) × was m × IsHostOf n i (host_of m) → Talk was file n incarnation f (Some (empty_row begin i)) dead begin
  talk-row name = record {
    lives = t.lives;
    aged = λ r h. ap (λ (x : Row). x.incarnation) (sym (same_Some (empty_row begin i) r h)) ∙ is;
    named = λ r h. subst (λ (k : ℕ). (m : Message) × was m × IsHostOf n k (host_of m)) (ap (λ (x : Row). x.incarnation) (same_Some (empty_row begin i) r h)) name;
    numbered = λ r h. let number : begin ≡ r.number = ap (λ (x : Row). x.number) (same_Some (empty_row begin i) r h) in (omega arith, omega arith);
    waits = λ r m h o.
        let none : None ≡ r.outstanding = ap (λ (x : Row). x.outstanding) (same_Some (empty_row begin i) r h) in
        absurd (none-some m (none ∙ o));
    counted = λ j k m sent to.
        let c = t.counted j k m sent to in
        (c.0, elim c.1 [ inl known ↦ inl known | inr counts ↦ absurd (none-some counts.counting counts.there) ]);
    one_number = t.one_number;
    in_step = in_step_row t.in_step;
    answers = t.answers;
    remembered = t.remembered;
  }

-- the row after an answer: this token, and no outstanding command
abbrev pub cleared_row : Row → Token → Row
cleared_row r token = record r { token = token; outstanding = None }

-- the answer to the command of a row
abbrev pub answered_row : Row → Message → Message → Row
answered_row r command answer = cleared_row r (settled r.token command answer)

module _ (was : Sent) (file n incarnation : ℕ) (f : FileState) (r : Row) (dead begin : ℕ) (token : Token) (t : Talk was file n incarnation f (Some r) dead begin) where
  abbrev after : Row
  after = cleared_row r token

  talk-cleared : (r.incarnation ≡ incarnation → InStep was file n incarnation f (Some after) begin) → Talk was file n incarnation f (Some after) dead begin
  talk-cleared in_step = record {
    lives = t.lives;
    aged = λ x h. ap (λ (y : Row). y.incarnation) (sym (same_Some after x h)) ∙ t.aged r refl;
    named = λ x h. subst (λ (k : ℕ). (m : Message) × was m × IsHostOf n k (host_of m)) (ap (λ (y : Row). y.incarnation) (same_Some after x h)) (t.named r refl);
    numbered = λ x h. subst (λ (k : ℕ). (begin ≤ k) × (k < begin + in_epoch)) (ap (λ (y : Row). y.number) (same_Some after x h)) (t.numbered r refl);
    waits = λ x m h o.
        let none : None ≡ x.outstanding = ap (λ (y : Row). y.outstanding) (same_Some after x h) in
        absurd (none-some m (none ∙ o));
    counted = λ i l m sent to.
        let counts = t.counted i l m sent to in (
          counts.0,
          elim counts.1 [
            | inl known ↦ inl known
            | inr row ↦
                let same = same_Some r row.counting row.there in
                inr (record { counting = after; there = refl; of = ap (λ (y : Row). y.incarnation) same ∙ row.of; up_to = subst (λ (y : Row). l ≤ y.number) (sym same) row.up_to })
          ],
        );
    one_number = t.one_number;
    in_step = elim t.in_step [
      | inl u ↦ inl (record { last = u.last; token = u.token; none = λ x h of. u.none r refl (ap (λ (y : Row). y.incarnation) (same_Some after x h) ∙ of) })
      | inr other ↦ elim other [
        | inl k ↦ in_step (ap (λ (y : Row). y.incarnation) (same_Some r k.known k.there) ∙ k.of)
        | inr a ↦ in_step (ap (λ (y : Row). y.incarnation) (same_Some r a.known a.there) ∙ a.of)
      ]
    ];
    answers = t.answers;
    remembered = t.remembered;
  }

module _ (was : Sent) (file n incarnation : ℕ) (f : FileState) (r : Row) (dead begin k : ℕ) (command answer : Message) (told : was answer) (answers_it : is_answer answer ≡ true) (of_node : IsAnswerOf file n r.incarnation k answer) (waiting : r.outstanding ≡ Some command) (plain : is_hello (Some command) ≡ false) (number_is : k ≡ r.number) (t : Talk was file n incarnation f (Some r) dead begin) where
  abbrev now_row : Row
  now_row = answered_row r command answer

  own_answer : r.incarnation ≡ incarnation → (k ≤ f.last) × (k ≡ f.last → IsLast f answer)
  own_answer of = t.answers k answer told (subst (λ (i : ℕ). IsAnswerOf file n i k answer) of of_node)

  is_last : (m : Message) → is_answer m ≡ true → IsLast f m → f.answer ≡ Some m
  is_last (Report g l holder runs) is h = absurd (cc)
  is_last m is h = h

  idle : r.incarnation ≡ incarnation → States begin f r → IsIdle begin f now_row
  idle of (inl i) = absurd (none-some command (sym i.outstanding ∙ waiting))
  idle of (inr (inl w)) =
      let up = (own_answer of).0 in
      let number = w.number in
      absurd (omega arith)
  idle of (inr (inr d)) =
      let number = d.number in
      let from = (t.numbered r refl).0 in
      let is = is_last answer answers_it ((own_answer of).1 (omega arith)) in
      let one : d.answer ≡ answer = same_Some d.answer answer (sym d.remembers ∙ is) in
      let same : d.command ≡ command = same_Some d.command command (sym d.outstanding ∙ waiting) in
      record {
        outstanding = refl;
        number = omega arith;
        token = sym (d.token ∙ ap (λ (m : Message). settled r.token m d.answer) same ∙ ap (settled r.token command) one);
      }

  not_asked : is_hello r.outstanding ≡ true → ⊥
  not_asked h = both_ways (is_hello (Some command)) plain (ap is_hello (sym waiting) ∙ h)

  in_step_answered : r.incarnation ≡ incarnation → InStep was file n incarnation f (Some r) begin → InStep was file n incarnation f (Some now_row) begin
  in_step_answered of (inl u) = absurd (u.none r refl of)
  in_step_answered of (inr (inl known)) =
      let same = same_Some r known.known known.there in
      inr (inl (record { known = now_row; there = refl; of = of; told = refl; states = inl (idle of (subst (States begin f) (sym same) known.states)); fresh = known.fresh }))
  in_step_answered of (inr (inr a)) =
      absurd (not_asked (ap (λ (x : Row). is_hello x.outstanding) (same_Some r a.known a.there) ∙ a.hello))

  pub talk-answered : Talk was file n incarnation f (Some (answered_row r command answer)) dead begin
  talk-answered = talk-cleared was file n incarnation f r dead begin (settled r.token command answer) t (λ of. in_step_answered of t.in_step)

-- the node of a row tells its token
module _ (was : Sent) (file n incarnation : ℕ) (f : FileState) (r : Row) (dead begin k : ℕ) (h : Host) (runs : List TokenRun) (told : was (Report file k h runs)) (of_node : IsHostOf n r.incarnation h) (waiting : is_hello r.outstanding ≡ true) (number_is : k ≡ r.number) (t : Talk was file n incarnation f (Some r) dead begin) where
  abbrev heard_row : Row
  heard_row = cleared_row r (reported runs)

  in_step_heard : r.incarnation ≡ incarnation → InStep was file n incarnation f (Some r) begin → InStep was file n incarnation f (Some heard_row) begin
  in_step_heard of (inl u) = absurd (u.none r refl of)
  in_step_heard of (inr (inl known)) =
      absurd (both_ways (is_hello r.outstanding) (ap (λ (x : Row). is_hello x.outstanding) (same_Some r known.known known.there) ∙ known.told) waiting)
  in_step_heard of (inr (inr a)) =
      let same = same_Some r a.known a.there in
      let number : r.number ≡ begin = ap (λ (x : Row). x.number) same ∙ a.number in
      let last = a.last in
      let own = t.answers k (Report file k h runs) told (refl, refl, of_node.0, of_node.1 ∙ of) in
      let up = own.0 in
      inr (inl (record {
        known = heard_row;
        there = refl;
        of = of;
        told = refl;
        states = inl (record { outstanding = refl; number = omega arith; token = own.1 (omega arith) });
        fresh = λ l m sent to above. omega arith;
      }))

  pub talk-heard : Talk was file n incarnation f (Some (cleared_row r (reported runs))) dead begin
  talk-heard = talk-cleared was file n incarnation f r dead begin (reported runs) t (λ of. in_step_heard of t.in_step)

-- the server sends a command to the node of a row that waits for no answer
abbrev pub commanded_row : Row → Message → Row
commanded_row r command = record r { token = promised r.token command; number = r.number + 1; outstanding = Some command }

-- one command was sent, and no other command or answer
pub record IsCommanding (was now : Sent) (command : Message) : Type 0 where
  pub kept : (m : Message) → was m → now m
  pub commands : (f n i k : ℕ) (m : Message) → now m → IsCommandTo f n i k m → was m ⊎ (m ≡ command)
  pub answers : (f n i k : ℕ) (m : Message) → now m → IsAnswerOf f n i k m → was m
  pub sent : now command

module _ (was now : Sent) (file n incarnation : ℕ) (f : FileState) (r : Row) (dead begin : ℕ) (command : Message) (free : r.outstanding ≡ None) (plain : is_hello (Some command) ≡ false) (few : r.number + 1 < begin + in_epoch) (to : IsCommandTo file n r.incarnation (r.number + 1) command) (news : IsCommanding was now command) (t : Talk was file n incarnation f (Some r) dead begin) where
  abbrev later : Row
  later = commanded_row r command

  -- a new command is this one
  new_is : (i k : ℕ) (m : Message) → IsCommandTo file n i k m → m ≡ command → (i ≡ r.incarnation) × (k ≡ r.number + 1)
  new_is i k m m_to is =
      let both = same_command file n i k file n r.incarnation (r.number + 1) command (subst (IsCommandTo file n i k) is m_to) to in
      (both.incarnation_is, both.number_is)

  -- the number of the command is above those that were sent
  above : (i k : ℕ) (m : Message) → was m → IsCommandTo file n i k m → i ≡ r.incarnation → k ≡ r.number + 1 → ⊥
  above i k m sent m_to same is = elim (t.counted i k m sent m_to).1 [
    | inl known ↦ let aged = t.aged r refl in omega arith
    | inr counts ↦ let up : k ≤ r.number = subst (λ (x : Row). k ≤ x.number) (sym (same_Some r counts.counting counts.there)) counts.up_to in omega arith
  ]

  now_idle : States begin f r → IsIdle begin f r
  now_idle (inl i) = i
  now_idle (inr (inl w)) = absurd (none-some w.command (sym free ∙ w.outstanding))
  now_idle (inr (inr d)) = absurd (none-some d.command (sym free ∙ d.outstanding))

  counts_later : (k : ℕ) (i : ℕ) → IsCountedIn (Some r) i k → IsCountedIn (Some later) i k
  counts_later k i counts =
      let same = same_Some r counts.counting counts.there in
      let up : k ≤ r.number = subst (λ (y : Row). k ≤ y.number) (sym same) counts.up_to in
      record { counting = later; there = refl; of = ap (λ (y : Row). y.incarnation) same ∙ counts.of; up_to = omega arith }

  counted_now : (i k : ℕ) (m : Message) → now m → IsCommandTo file n i k m → (1 ≤ k) × ((i ≤ dead) ⊎ IsCountedIn (Some later) i k)
  counted_now i k m sent m_to = elim (news.commands file n i k m sent m_to) [
    | inl old ↦
        let counts = t.counted i k m old m_to in
        (counts.0, elim counts.1 [ inl known ↦ inl known | inr row ↦ inr (counts_later k i row) ])
    | inr is ↦
        let both = new_is i k m m_to is in
        let number = both.1 in
        (omega arith, inr (record { counting = later; there = refl; of = sym both.0; up_to = omega arith }))
  ]

  one_now : (i k : ℕ) (m x : Message) → now m → now x → IsCommandTo file n i k m → IsCommandTo file n i k x → m ≡ x
  one_now i k m x a b m_to x_to = elim (news.commands file n i k m a m_to) [
    | inl old_m ↦ elim (news.commands file n i k x b x_to) [
      | inl old_x ↦ t.one_number i k m x old_m old_x m_to x_to
      | inr new_x ↦ let both = new_is i k x x_to new_x in absurd (above i k m old_m m_to both.0 both.1)
    ]
    | inr new_m ↦ elim (news.commands file n i k x b x_to) [
      | inl old_x ↦ let both = new_is i k m m_to new_m in absurd (above i k x old_x x_to both.0 both.1)
      | inr new_x ↦ new_m ∙ sym new_x
    ]
  ]

  fresh_now : IsKnown was file n incarnation f (Some r) begin → (k : ℕ) (m : Message) → now m → IsCommandTo file n incarnation k m → f.last < k → begin < k
  fresh_now known k m sent m_to above = elim (news.commands file n incarnation k m sent m_to) [
    | inl old ↦ known.fresh k m old m_to above
    | inr is ↦
        let number = (new_is incarnation k m m_to is).1 in
        let from = (t.numbered r refl).0 in
        omega arith
  ]

  in_step_later : InStep was file n incarnation f (Some r) begin → InStep now file n incarnation f (Some later) begin
  in_step_later (inl u) = inl (record { last = u.last; token = u.token; none = λ x h of. u.none r refl (ap (λ (y : Row). y.incarnation) (same_Some later x h) ∙ of) })
  in_step_later (inr (inl known)) =
      let same = same_Some r known.known known.there in
      let i = now_idle (subst (States begin f) (sym same) known.states) in
      inr (inl (record {
        known = later;
        there = refl;
        of = ap (λ (y : Row). y.incarnation) same ∙ known.of;
        told = plain;
        states = inr (inl (record { command = command; outstanding = refl; number = ap (λ (k : ℕ). k + 1) i.number; token = ap (λ (u : Token). promised u command) i.token }));
        fresh = fresh_now known;
      }))
  in_step_later (inr (inr a)) =
      let h : is_hello r.outstanding ≡ true = ap (λ (x : Row). is_hello x.outstanding) (same_Some r a.known a.there) ∙ a.hello in
      absurd (both_ways (is_hello r.outstanding) (ap is_hello free) h)

  pub talk-commanded : Talk now file n incarnation f (Some later) dead begin
  talk-commanded = record {
    lives = t.lives;
    aged = λ x h. ap (λ (y : Row). y.incarnation) (sym (same_Some later x h)) ∙ t.aged r refl;
    named = λ x h. subst (λ (k : ℕ). (m : Message) × now m × IsHostOf n k (host_of m)) (ap (λ (y : Row). y.incarnation) (same_Some later x h)) (named_kept was now n r.incarnation news.kept (t.named r refl));
    numbered = λ x h. let from = (t.numbered r refl).0 in subst (λ (k : ℕ). (begin ≤ k) × (k < begin + in_epoch)) (ap (λ (y : Row). y.number) (same_Some later x h)) (omega arith, few);
    waits = λ x m h o.
        let same = same_Some later x h in
        let is : command ≡ m = same_Some command m (ap (λ (y : Row). y.outstanding) same ∙ o) in
        let P : Row → Message → Type 0 = λ y c. now c × IsCommandTo file n y.incarnation y.number c in
        subst (λ (y : Row). P y m) same (subst (P later) is (news.sent, to));
    counted = counted_now;
    one_number = one_now;
    in_step = in_step_later t.in_step;
    answers = λ k m sent of. t.answers k m (news.answers file n incarnation k m sent of) of;
    remembered = λ m is. let r = t.remembered m is in (news.kept m r.0, r.1, r.2);
  }

  -- the token that the node may hold then: one that it may have held, or its own with what the command promises
  pub may_hold-commanded : (u : Token) → MayHold now file n incarnation f u → MayHold was file n incarnation f u ⊎ (u ≡ promised f.token command)
  may_hold-commanded u (inl same) = inl (inl same)
  may_hold-commanded u (inr p) =
      let a = p.ahead in
      elim (news.commands file n incarnation a.number p.command a.sent a.is) [
        | inl old ↦ inl (inr (record { command = p.command; ahead = record { number = a.number; is = a.is; sent = old; above = a.above }; value = p.value }))
        | inr is ↦ inr (p.value ∙ ap (promised f.token) is)
      ]
