-- The moves of a node keep the facts that it and a token server share.
use Rattle.std.specs.Prelude.{nat_lt}
use Rattle.std.proofs.Common.{◌≡◌, ℕ, ◌+◌, ◌<◌, ◌≤◌, Bool, true, false, if◌then◌else◌, ◌⊎◌, inl, inr, refl, sym, ◌∙◌, ap, subst, arith, List, Option, Some, None}
use Rattle.std.proofs.lemmas.Bool.{ltb-true}
use Rattle.std.proofs.lemmas.Option.{same_Some, none-some}
use Rattle.model.specs.declared.host.Host.{Host}
use Rattle.token_set.specs.rule.Tokens.{Token}
use Rattle.messages.specs.declared.token_run.TokenRun.{TokenRun}
use Rattle.messages.specs.declared.message.Message.{Message}
use Rattle.messages.specs.declared.message.Message.TheVariants.{Grant, Revoke, Taken, Released, Conflict, Report}
use Rattle.messages.specs.rule.Shapes.{begin_of}
use Rattle.messages.specs.rule.Messages.{host_of, reported}
use Rattle.node_core.specs.rule.State.{FileState}
use Rattle.node_core.specs.rule.Commands.{renewed}
use Rattle.token_server.specs.rule.Rows.{Row, is_hello}
use Rattle.cluster_core.specs.rule.Numbers.{is_command}
use Rattle.cluster_core.proofs.tokens.Lowering.{IsWithin}
use Rattle.cluster_core.proofs.tokens.Talks.{Sent, IsHostOf, IsCommandTo, IsAnswerOf, same_answer_of, promised, settled, settled_within, in_epoch, States, IsKnown, InStep, IsLast, Talk, IsAhead, MayHold, on_the_way}

-- more messages were sent, but no command to the node and no answer of its incarnation
pub record NoNews (was now : Sent) (file n incarnation : ℕ) : Type 0 where
  pub kept : (m : Message) → was m → now m
  pub commands : (i k : ℕ) (m : Message) → now m → IsCommandTo file n i k m → was m
  pub answers : (k : ℕ) (m : Message) → now m → IsAnswerOf file n incarnation k m → was m

-- a row is named by what was sent
pub named_kept : (was now : Sent) (n i : ℕ) → ((m : Message) → was m → now m) → (m : Message) × was m × IsHostOf n i (host_of m) → (m : Message) × now m × IsHostOf n i (host_of m)
named_kept was now n i kept a = (a.0, kept a.0 a.1, a.2)

-- no command is new: a node and a server that were in step are in step
in_step_kept : (was now : Sent) (file n incarnation : ℕ) (f : FileState) (row : Option Row) (begin : ℕ) → ((i k : ℕ) (m : Message) → now m → IsCommandTo file n i k m → was m) → InStep was file n incarnation f row begin → InStep now file n incarnation f row begin
in_step_kept was now file n incarnation f row begin old (inl u) = inl u
in_step_kept was now file n incarnation f row begin old (inr (inl k)) = inr (inl (record {
  known = k.known;
  there = k.there;
  of = k.of;
  told = k.told;
  states = k.states;
  fresh = λ l m sent to above. k.fresh l m (old incarnation l m sent to) to above;
}))
in_step_kept was now file n incarnation f row begin old (inr (inr a)) = inr (inr (record {
  known = a.known;
  there = a.there;
  of = a.of;
  hello = a.hello;
  number = a.number;
  last = a.last;
  one = λ k l m x m_sent x_sent m_is x_is m_to x_to m_above x_above. a.one k l m x (old incarnation k m m_sent m_to) (old incarnation l x x_sent x_to) m_is x_is m_to x_to m_above x_above;
}))

pub talk-no_news : (was now : Sent) (file n incarnation : ℕ) (f : FileState) (row : Option Row) (dead begin : ℕ) → NoNews was now file n incarnation → Talk was file n incarnation f row dead begin → Talk now file n incarnation f row dead begin
talk-no_news was now file n incarnation f row dead begin news t = record {
  lives = t.lives;
  aged = t.aged;
  named = λ r there. named_kept was now n r.incarnation news.kept (t.named r there);
  numbered = t.numbered;
  waits = λ r m there is. (news.kept m (t.waits r m there is).0, (t.waits r m there is).1);
  counted = λ i k m sent to. t.counted i k m (news.commands i k m sent to) to;
  one_number = λ i k m x a b m_to x_to. t.one_number i k m x (news.commands i k m a m_to) (news.commands i k x b x_to) m_to x_to;
  in_step = in_step_kept was now file n incarnation f row begin news.commands t.in_step;
  answers = λ k m sent of. t.answers k m (news.answers k m sent of) of;
  remembered = λ m is. let r = t.remembered m is in (news.kept m r.0, r.1, r.2);
}

pub may_hold-no_news : (was now : Sent) (file n incarnation : ℕ) (f : FileState) (t : Token) → NoNews was now file n incarnation → MayHold now file n incarnation f t → MayHold was file n incarnation f t
may_hold-no_news was now file n incarnation f t news (inl same) = inl same
may_hold-no_news was now file n incarnation f t news (inr p) = inr (record {
  command = p.command;
  ahead = let a = p.ahead in record { number = a.number; is = a.is; sent = news.commands incarnation a.number p.command a.sent a.is; above = a.above };
  value = p.value;
})

-- the node hears of an epoch that is not later than the server's: it has done no command of it yet, and remembers no answer
module _ (was : Sent) (file n incarnation : ℕ) (f : FileState) (row : Option Row) (dead begin number : ℕ) (upto : begin_of number ≤ begin) (t : Talk was file n incarnation f row dead begin) where
  abbrev first : ℕ
  first = begin_of number

  abbrev anew : FileState
  anew = record f { last = first; answer = None }

  row_known : (k : IsKnown was file n incarnation f row begin) → (begin ≤ k.known.number) × (k.known.number < begin + in_epoch)
  row_known k = t.numbered k.known k.there

  states_anew : (r : Row) → begin ≤ r.number → f.last < first → States begin f r → States begin anew r
  states_anew r from older (inl i) = let number = i.number in inl (record { outstanding = i.outstanding; number = omega arith; token = i.token })
  states_anew r from older (inr (inl w)) = let number = w.number in inr (inl (record { command = w.command; outstanding = w.outstanding; number = omega arith; token = w.token }))
  states_anew r from older (inr (inr d)) = let number = d.number in absurd (omega arith)

  in_step_anew : f.last < first → InStep was file n incarnation f row begin → InStep was file n incarnation anew row begin
  in_step_anew older (inl u) = inl (record { last = upto; token = u.token; none = u.none })
  in_step_anew older (inr (inl k)) = inr (inl (record {
    known = k.known;
    there = k.there;
    of = k.of;
    told = k.told;
    states = states_anew k.known (row_known k).0 older k.states;
    fresh = λ l m sent to above. k.fresh l m sent to (omega arith);
  }))
  in_step_anew older (inr (inr a)) = inr (inr (record {
    known = a.known;
    there = a.there;
    of = a.of;
    hello = a.hello;
    number = a.number;
    last = upto;
    one = λ k l m x m_sent x_sent m_is x_is m_to x_to m_above x_above. a.one k l m x m_sent x_sent m_is x_is m_to x_to (omega arith) (omega arith);
  }))

  talk-anew : f.last < first → Talk was file n incarnation anew row dead begin
  talk-anew older = record {
    lives = t.lives;
    aged = t.aged;
    named = t.named;
    numbered = t.numbered;
    waits = t.waits;
    counted = t.counted;
    one_number = t.one_number;
    in_step = in_step_anew older t.in_step;
    answers = λ k m sent of. let up = (t.answers k m sent of).0 in (omega arith, λ same. absurd (omega arith));
    remembered = λ m h. absurd (none-some m h);
  }

  pub talk-renewed : Talk was file n incarnation (renewed f number) row dead begin
  talk-renewed =
      elim (nat_lt f.last first) as (λ b. nat_lt f.last first ≡ b → Talk was file n incarnation (if b then anew else f) row dead begin) [
        | true ↦ λ h. talk-anew (ltb-true f.last first h)
        | false ↦ λ h. t
      ] refl

  -- the token that the node may hold after hearing of the epoch is one that it might have held before
  pub may_hold-renewed : (u : Token) → MayHold was file n incarnation (renewed f number) u → MayHold was file n incarnation f u
  may_hold-renewed u =
      elim (nat_lt f.last first) as (λ b. nat_lt f.last first ≡ b → MayHold was file n incarnation (if b then anew else f) u → MayHold was file n incarnation f u) [
        | true ↦ λ h may. fewer (ltb-true f.last first h) may
        | false ↦ λ h may. may
      ] refl
    where
      fewer : f.last < first → MayHold was file n incarnation anew u → MayHold was file n incarnation f u
      fewer older (inl same) = inl same
      fewer older (inr p) = inr (record {
        command = p.command;
        ahead = let a = p.ahead in let above = a.above in record { number = a.number; is = a.is; sent = a.sent; above = omega arith };
        value = p.value;
      })

-- the node reports its token, and has done no later command
pub record IsTelling (was now : Sent) (file n incarnation number : ℕ) (token : Token) : Type 0 where
  pub kept : (m : Message) → was m → now m
  pub commands : (i k : ℕ) (m : Message) → now m → IsCommandTo file n i k m → was m
  pub answers : (k : ℕ) (m : Message) → now m → IsAnswerOf file n incarnation k m → was m ⊎ ((h : Host) × (runs : List TokenRun) × (m ≡ Report file number h runs) × (reported runs ≡ token))

pub talk-tells : (was now : Sent) (file n incarnation : ℕ) (f : FileState) (row : Option Row) (dead begin : ℕ) → IsTelling was now file n incarnation f.last f.token → Talk was file n incarnation f row dead begin → Talk now file n incarnation f row dead begin
talk-tells was now file n incarnation f row dead begin news t = record {
  lives = t.lives;
  aged = t.aged;
  named = λ r there. named_kept was now n r.incarnation news.kept (t.named r there);
  numbered = t.numbered;
  waits = λ r m there is. (news.kept m (t.waits r m there is).0, (t.waits r m there is).1);
  counted = λ i k m sent to. t.counted i k m (news.commands i k m sent to) to;
  one_number = λ i k m x a b m_to x_to. t.one_number i k m x (news.commands i k m a m_to) (news.commands i k x b x_to) m_to x_to;
  in_step = in_step_kept was now file n incarnation f row begin news.commands t.in_step;
  answers = λ k m sent of. elim (news.answers k m sent of) [
    | inl old ↦ t.answers k m old of
    | inr told ↦
        let report = Report file f.last told.0 told.1 in
        let mine : IsAnswerOf file n incarnation k report = subst (IsAnswerOf file n incarnation k) told.2 of in
        let number_is : f.last ≡ k = mine.1 in
        (omega arith, λ same. subst (IsLast f) (sym told.2) told.3)
  ];
  remembered = λ m is. let r = t.remembered m is in (news.kept m r.0, r.1, r.2);
}

pub may_hold-tells : (was now : Sent) (file n incarnation : ℕ) (f : FileState) (t : Token) → ((i k : ℕ) (m : Message) → now m → IsCommandTo file n i k m → was m) → MayHold now file n incarnation f t → MayHold was file n incarnation f t
may_hold-tells was now file n incarnation f t old (inl same) = inl same
may_hold-tells was now file n incarnation f t old (inr p) = inr (record {
  command = p.command;
  ahead = let a = p.ahead in record { number = a.number; is = a.is; sent = old incarnation a.number p.command a.sent a.is; above = a.above };
  value = p.value;
})

-- the node does the next command, and its answer is sent
pub record IsDoing (was now : Sent) (file n incarnation : ℕ) (answer : Message) : Type 0 where
  pub kept : (m : Message) → was m → now m
  pub commands : (i k : ℕ) (m : Message) → now m → IsCommandTo file n i k m → was m
  pub answers : (k : ℕ) (m : Message) → now m → IsAnswerOf file n incarnation k m → was m ⊎ (m ≡ answer)
  pub told : now answer

-- the node's state of the file after the command is done
abbrev pub done_file : FileState → ℕ → Message → Message → FileState
done_file f number command answer = record { token = settled (promised f.token command) command answer; last = number; answer = Some answer; owes_freed = false }

-- an answer to a command, and no report
abbrev pub is_answer : Message → Bool
is_answer (Report g k holder runs) = false
is_answer m = true

-- the answer is of the kind of the command, and names its call: a Taken answers a Grant, a Released or a Conflict a Revoke
abbrev pub IsOfKind : Message → Message → Type 0
IsOfKind (Grant f k call mode span) (Taken g l c) = c ≡ call
IsOfKind (Revoke f k holder call mode wanted) (Released g l h c span) = c ≡ call
IsOfKind (Revoke f k holder call mode wanted) (Conflict g l h c lock) = c ≡ call
IsOfKind _ _ = ⊥

-- the answer that is remembered is the last
last_is : (f : FileState) (m : Message) → is_answer m ≡ true → f.answer ≡ Some m → IsLast f m
last_is f (Report g k holder runs) is h = absurd (cc)
last_is f m is h = h

module _ (was now : Sent) (file n incarnation : ℕ) (f : FileState) (row : Option Row) (dead begin : ℕ) (t : Talk was file n incarnation f row dead begin) (number : ℕ) (command answer : Message) (sent : was command) (plain : is_command command ≡ true) (to : IsCommandTo file n incarnation number command) (of : IsAnswerOf file n incarnation number answer) (answers_it : is_answer answer ≡ true) (is_next : number ≡ f.last + 1) (news : IsDoing was now file n incarnation answer) where
  ahead : IsAhead was file n incarnation f.last command
  ahead = record { number = number; is = to; sent = sent; above = omega arith }

  abbrev done : FileState
  done = done_file f number command answer

  counts : (r : Row) → row ≡ Some r → number ≤ r.number
  counts r there = elim (t.counted incarnation number command sent to).1 [
    | inl old ↦ let lives = t.lives in absurd (omega arith)
    | inr c ↦ subst (λ (x : Row). number ≤ x.number) (same_Some c.counting r (sym c.there ∙ there)) c.up_to
  ]

  in_step_done : InStep was file n incarnation f row begin → InStep now file n incarnation done row begin
  in_step_done (inl u) = elim (t.counted incarnation number command sent to).1 [
    | inl old ↦ let lives = t.lives in absurd (omega arith)
    | inr c ↦ absurd (u.none c.counting c.there c.of)
  ]
  in_step_done (inr (inl k)) =
      let w = on_the_way was file n incarnation f row dead begin t k command ahead in
      let later = k.fresh number command sent to (omega arith) in
      let number_is = w.number in
      inr (inl (record {
        known = w.known;
        there = w.there;
        of = w.of;
        told = subst (λ (x : Row). is_hello x.outstanding ≡ false) (same_Some k.known w.known (sym k.there ∙ w.there)) k.told;
        states = inr (inr (record {
          command = command;
          outstanding = w.outstanding;
          number = omega arith;
          answer = answer;
          remembers = refl;
          token = ap (λ (u : Token). settled u command answer) (sym w.token);
        }));
        fresh = λ l m is m_to above. k.fresh l m (news.commands incarnation l m is m_to) m_to (omega arith);
      }))
  in_step_done (inr (inr a)) =
      let up = counts a.known a.there in
      let number_is = a.number in
      inr (inr (record {
        known = a.known;
        there = a.there;
        of = a.of;
        hello = a.hello;
        number = a.number;
        last = omega arith;
        one = λ k l m x m_sent x_sent m_is x_is m_to x_to m_above x_above. a.one k l m x (news.commands incarnation k m m_sent m_to) (news.commands incarnation l x x_sent x_to) m_is x_is m_to x_to (omega arith) (omega arith);
      }))

  pub talk-does : Talk now file n incarnation (done_file f number command answer) row dead begin
  talk-does = record {
    lives = t.lives;
    aged = t.aged;
    named = λ r there. named_kept was now n r.incarnation news.kept (t.named r there);
    numbered = t.numbered;
    waits = λ r m there is. (news.kept m (t.waits r m there is).0, (t.waits r m there is).1);
    counted = λ i k m is m_to. t.counted i k m (news.commands i k m is m_to) m_to;
    one_number = λ i k m x a b m_to x_to. t.one_number i k m x (news.commands i k m a m_to) (news.commands i k x b x_to) m_to x_to;
    in_step = in_step_done t.in_step;
    answers = λ k m is m_of. elim (news.answers k m is m_of) [
      | inl old ↦ let up = (t.answers k m old m_of).0 in (omega arith, λ same. absurd (omega arith))
      | inr same ↦
          let mine : IsAnswerOf file n incarnation k answer = subst (IsAnswerOf file n incarnation k) same m_of in
          let number_is = (same_answer_of file n incarnation k file n incarnation number answer mine of).number_is in
          (omega arith, λ h. subst (IsLast done) (sym same) (last_is done answer answers_it refl))
    ];
    remembered = λ m is.
        let P : Message → Type 0 = λ x. now x × (1 ≤ number) × IsAnswerOf file n incarnation number x in
        subst P (same_Some answer m is) (news.told, omega arith, of);
  }

  -- no other command is ahead after this one is done
  none_ahead : (k : ℕ) (m : Message) → was m → is_command m ≡ true → IsCommandTo file n incarnation k m → number < k → InStep was file n incarnation f row begin → ⊥
  none_ahead k m m_sent m_is m_to above (inl u) = elim (t.counted incarnation number command sent to).1 [
    | inl old ↦ let lives = t.lives in absurd (omega arith)
    | inr c ↦ absurd (u.none c.counting c.there c.of)
  ]
  none_ahead k m m_sent m_is m_to above (inr (inl known)) =
      let first = on_the_way was file n incarnation f row dead begin t known command ahead in
      let number_is = first.number in
      let later = known.fresh number command sent to (omega arith) in
      elim (t.counted incarnation k m m_sent m_to).1 [
        | inl old ↦ let lives = t.lives in absurd (omega arith)
        | inr c ↦
            let up : k ≤ first.known.number = subst (λ (x : Row). k ≤ x.number) (same_Some c.counting first.known (sym c.there ∙ first.there)) c.up_to in
            absurd (omega arith)
      ]
  none_ahead k m m_sent m_is m_to above (inr (inr a)) =
      let same = a.one number k command m sent m_sent plain m_is to m_to (omega arith) (omega arith) in
      absurd (omega arith)

  -- a message that is no command promises nothing
  promises_none : (u : Token) (m : Message) → is_command m ≡ false → promised u m ≡ u
  promises_none u (Grant g k call mode span) h = absurd (cc)
  promises_none u m h = refl

  -- the token that the node may hold is within one that it might have held before
  pub may_hold-does : (u : Token) → MayHold now file n incarnation (done_file f number command answer) u → (v : Token) × MayHold was file n incarnation f v × IsWithin u v
  may_hold-does u may =
      let before = promised f.token command in
      let own : (x : Token) → x ≡ done.token → (v : Token) × MayHold was file n incarnation f v × IsWithin x v = λ x same.
      (before, inr (record { command = command; ahead = ahead; value = refl }), subst (λ (y : Token). IsWithin y before) (sym same) (settled_within before command answer)) in
      elim may [
        | inl same ↦ own u same
        | inr p ↦
            let a = p.ahead in
            elim (is_command p.command) as (λ b. is_command p.command ≡ b → (v : Token) × MayHold was file n incarnation f v × IsWithin u v) [
              | true ↦ λ is. absurd (none_ahead a.number p.command (news.commands incarnation a.number p.command a.sent a.is) is a.is a.above t.in_step)
              | false ↦ λ is. own u (p.value ∙ promises_none done.token p.command is)
            ] refl
      ]
