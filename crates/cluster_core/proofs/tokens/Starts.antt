-- The failure and the rebuild of a token server keep the facts of tokens, rows and messages.
use Rattle.std.proofs.Common.{◌≡◌, ℕ, zero, suc, ◌+◌, ◌-◌, ◌<◌, ◌≤◌, Bool, true, false, ◌&&◌, if◌then◌else◌, ◌⊎◌, inl, inr, refl, sym, ◌∙◌, ap, subst, arith, List, [], ◌∷◌, length, get_or, Option, Some, None}
use Rattle.std.specs.Prelude.{nat_le}
use Rattle.std.specs.List.{range_with_len, filter_map, cons_option}
use Rattle.std.proofs.lemmas.List.FromFn.{length-range_with_len, get_or-range_with_len}
use Rattle.std.proofs.lemmas.Bool.{and_parts, or_right, leb-true}
use Rattle.std.proofs.lemmas.Option.{none-some, same_Some}
use Rattle.std.proofs.lemmas.List.Elements.{All-nil}
use Rattle.token_set.specs.rule.Tokens.{Token}
use Rattle.messages.specs.rule.Messages.{host_of, same_message, is_among, is_within, sending}
use Rattle.messages.specs.declared.message.Message.{Message}
use Rattle.messages.specs.declared.message.Message.TheVariants.{Hello}
use Rattle.messages.specs.declared.event.Event.{Event}
use Rattle.token_server.specs.rule.Rows.{awaited_row, outstanding_of}
use Rattle.token_server.specs.rule.State.{ServerState, begin}
use Rattle.token_server.specs.rule.Resends.{outstanding}
use Rattle.cluster_core.specs.rule.World.{WorldState, has_node, is_alive}
use Rattle.cluster_core.specs.rule.Next.{recorded, failed, started, next_server}
use Rattle.cluster_core.proofs.common.Choices.{at_number}
use Rattle.cluster_core.proofs.steps.KnownMessages.{sent_before, sent_now, sent_either}
use Rattle.cluster_core.proofs.steps.NodeTokens.{Only, only_mapped, first_among}
use Rattle.cluster_core.proofs.steps.ServerRows.{IsCurrent, Serves}
use Rattle.cluster_core.proofs.tokens.Epochs.{next_epoch}
use Rattle.cluster_core.proofs.tokens.Talks.{IsHostOf, IsCommandTo, IsAnswerOf, in_epoch, owing_nothing}
use Rattle.cluster_core.proofs.tokens.TalkMoves.{NoNews, may_hold-no_news}
use Rattle.cluster_core.proofs.tokens.TalkStarts.{IsStarting, talk-starts, may_hold-starts}
use Rattle.cluster_core.proofs.tokens.Present.{Was, Holding, IsBegun, Present, serves-no_news}

-- the invariant says nothing of which servers work
pub failed_present : (w : WorldState) → Present w → (file : ℕ) → Present (failed w file)
failed_present w p file = record { named = p.named; no_future = p.no_future; serves = p.serves; apart = p.apart }

pred_next : (n : ℕ) → 1 ≤ n → 1 + (n - 1) ≡ n
pred_next n least = omega arith

-- the message for one number of a list is among those for all
mapped_among : (f : ℕ → Option Message) (ns : List ℕ) (n : ℕ) (m : Message) → (k : ℕ) × (k < length ns) × (get_or ns k 0 ≡ n) → f n ≡ Some m → is_among (filter_map f ns) m ≡ true
mapped_among f [] n m place is = absurd (let lt = place.1 in omega arith)
mapped_among f (x ∷ xs) n m place is = by (λ k lt same. mapped_among f xs n m (k, lt, same) is) place.0 place.1 place.2
  where
    here : f x ≡ Some m → is_among (cons_option (f x) (filter_map f xs)) m ≡ true
    here same = ap (λ (o : Option Message). is_among (cons_option o (filter_map f xs)) m) same ∙ first_among m (filter_map f xs)

    later : (o : Option Message) → is_among (filter_map f xs) m ≡ true → is_among (cons_option o (filter_map f xs)) m ≡ true
    later None h = h
    later (Some y) h = or_right (same_message m y) (is_among (filter_map f xs) m) h

    by : ((k : ℕ) → k < length xs → get_or xs k 0 ≡ n → is_among (filter_map f xs) m ≡ true) → (k : ℕ) → k < length (x ∷ xs) → get_or (x ∷ xs) k 0 ≡ n → is_among (cons_option (f x) (filter_map f xs)) m ≡ true
    by rest zero lt same = here (ap f same ∙ is)
    by rest (suc k) lt same = later (f x) (rest k (omega arith) same)

-- the message for one number from 1 is among those for all
pub numbered_among : (f : ℕ → Option Message) (nodes n : ℕ) (m : Message) → 1 ≤ n → n ≤ nodes → f n ≡ Some m → is_among (filter_map f (range_with_len 1 nodes)) m ≡ true
numbered_among f nodes n m least most is =
    let read = get_or-range_with_len 1 nodes (n - 1) 0 (omega arith) in
    let place : n - 1 < length (range_with_len 1 nodes) = rw (length-range_with_len 1 nodes) (omega arith) in
    mapped_among f (range_with_len 1 nodes) n m (n - 1, place, read ∙ pred_next n least) is

module _ (w : WorldState) (p : Present w) (file : ℕ) where
  abbrev t : ServerState
  t = w.servers file

  abbrev made : ServerState
  made = next_server w file

  abbrev hello_to : ℕ → Message
  hello_to n = Hello file (begin made) (record { node = n; incarnation = (w.nodes n).incarnation })

  -- the message is a Hello to a live node
  abbrev IsQuestion : Message → Type 0
  IsQuestion m = (n : ℕ) × (is_alive w n ≡ true) × (m ≡ hello_to n)

  asked_of : (n : ℕ) (b : Bool) (m : Message) → (has_node w n && w.alive n) ≡ b → outstanding_of (if b then Some (awaited_row file (begin made) n (w.nodes n).incarnation) else None) ≡ Some m → IsQuestion m
  asked_of n true m is h = (n, is, sym (same_Some (hello_to n) m h))
  asked_of n false m is h = absurd (none-some m h)

  questions : Only IsQuestion (outstanding made)
  questions = only_mapped IsQuestion (λ n. outstanding_of (made.rows n)) (range_with_len 1 w.shape.nodes) (λ n m h. asked_of n (has_node w n && w.alive n) m refl h)

  -- each live node was sent a Hello
  all_asked : (n : ℕ) → is_alive w n ≡ true → is_among (outstanding made) (hello_to n) ≡ true
  all_asked n alive =
      let within : is_within w.shape.nodes n ≡ true = (and_parts (has_node w n) (w.alive n) alive).0 in
      let bounds = and_parts (nat_le 1 n) (nat_le n w.shape.nodes) within in
      numbered_among (λ k. outstanding_of (made.rows k)) w.shape.nodes n (hello_to n) (leb-true 1 n bounds.0) (leb-true n w.shape.nodes bounds.1) (ap (λ (b : Bool). outstanding_of (if b then Some (awaited_row file (begin made) n (w.nodes n).incarnation) else None)) alive)

  module _ (event : Event) (incarnation : ℕ) where
    abbrev later : WorldState
    later = (recorded (started w file) event incarnation (sending (outstanding made))).0

    kept : (m : Message) → Was w m → Was later m
    kept = sent_before w.sent (outstanding made)

    either : (m : Message) → Was later m → Was w m ⊎ IsQuestion m
    either m h = elim (sent_either w.sent (outstanding made) m h) [ inl before ↦ inl before | inr new ↦ inr (questions m new) ]

    question_to : (f n i k : ℕ) (m : Message) → IsQuestion m → IsCommandTo f n i k m → (f ≡ file) × (is_alive w n ≡ true) × (m ≡ hello_to n)
    question_to f n i k m q to =
        let mine : IsCommandTo f n i k (hello_to q.0) = subst (IsCommandTo f n i k) q.2 to in
        let node : q.0 ≡ n = mine.2 in
        (sym mine.0, subst (λ (l : ℕ). is_alive w l ≡ true) node q.1, subst (λ (l : ℕ). m ≡ hello_to l) node q.2)

    no_answers : (f n i k : ℕ) (m : Message) → Was later m → IsAnswerOf f n i k m → Was w m
    no_answers f n i k m h of = elim (either m h) [
      | inl before ↦ before
      | inr q ↦ let none : IsAnswerOf f n i k (hello_to q.0) = subst (IsAnswerOf f n i k) q.2 of in absurd none
    ]

    begun_then : (m : Message) → Was w m → (n : ℕ) → (host_of m).node ≡ n → (host_of m).incarnation ≤ (w.nodes n).incarnation
    begun_then m sent n is = subst (λ (k : ℕ). (host_of m).incarnation ≤ (w.nodes k).incarnation) is (p.no_future m sent).0

    alive_then : (m : Message) → Was w m → (n : ℕ) → IsHostOf n (w.nodes n).incarnation (host_of m) → is_alive w n ≡ true
    alive_then m sent n is = subst (λ (k : ℕ). is_alive w k ≡ true) is.0 ((p.no_future m sent).1 (is.1 ∙ ap (λ (k : ℕ). (w.nodes k).incarnation) (sym is.0)))

    starting : (n : ℕ) → IsStarting (Was w) (Was later) file n (w.nodes n).incarnation (begin made) (is_alive w n)
    starting n = record {
      kept = kept;
      commands = λ i k m h to. elim (either m h) [
        | inl before ↦ inl before
        | inr q ↦ let is = question_to file n i k m q to in inr (is.1, is.2)
      ];
      answers = λ k m h of. no_answers file n (w.nodes n).incarnation k m h of;
      asked = λ alive. sent_now w.sent (outstanding made) (hello_to n) (all_asked n alive);
      begun = λ m sent is. begun_then m sent n is;
      alive = λ m sent is. alive_then m sent n is;
    }

    -- of other files nothing new is said
    elsewhere : (f n : ℕ) → (f ≡ file → ⊥) → NoNews (Was w) (Was later) f n (w.nodes n).incarnation
    elsewhere f n other = record {
      kept = kept;
      commands = λ i k m h to. elim (either m h) [ inl before ↦ before | inr q ↦ absurd (other (question_to f n i k m q to).0) ];
      answers = λ k m h of. no_answers f n (w.nodes n).incarnation k m h of;
    }

    after : begin made ≡ begin t + in_epoch
    after = next_epoch t.epoch (p.serves file).from

    starts_serves : Serves (Was later) w.nodes w.shape file made
    starts_serves = record {
      file_is = refl;
      shape_is = refl;
      from = omega arith;
      talks = λ n. talk-starts (Was w) (Was later) file n (w.nodes n).incarnation (owing_nothing ((w.nodes n).files file)) (t.rows n) (t.dead n) (begin t) (begin made) after (is_alive w n) (starting n) ((p.serves file).talks n);
      held = All-nil (IsCurrent made);
    }

    holds_no_more : (f n : ℕ) (u : Token) → Holding (Was later) w.nodes f n u → Holding (Was w) w.nodes f n u
    holds_no_more f n u = at_number f file (λ b. Holding (Was later) w.nodes f n u → Holding (Was w) w.nodes f n u)
        (λ same. subst (λ (k : ℕ). Holding (Was later) w.nodes k n u → Holding (Was w) w.nodes k n u) (sym same)
        (may_hold-starts (Was w) (Was later) file n (w.nodes n).incarnation (owing_nothing ((w.nodes n).files file)) (t.rows n) (t.dead n) (begin t) (begin made) after (is_alive w n) (starting n) ((p.serves file).talks n) u))
        (λ other h. may_hold-no_news (Was w) (Was later) f n (w.nodes n).incarnation (owing_nothing ((w.nodes n).files f)) u (elsewhere f n other) h)

    pub started_present : Present later
    started_present = record {
      named = p.named;
      no_future = λ m h. elim (either m h) [
        | inl before ↦ p.no_future m before
        | inr q ↦ subst (λ (x : Message). IsBegun w (host_of x)) (sym q.2) (omega arith, λ same. q.1)
      ];
      serves = λ f. at_number f file (λ b. Serves (Was later) w.nodes w.shape f (if b then made else w.servers f))
          (λ same. subst (λ (k : ℕ). Serves (Was later) w.nodes w.shape k made) (sym same) starts_serves)
          (λ other. serves-no_news (Was w) (Was later) w.nodes w.shape f (w.servers f) (λ n. elsewhere f n other) (p.serves f));
      apart = λ f m n x u m_in n_in other a b. p.apart f m n x u m_in n_in other (holds_no_more f m x a) (holds_no_more f n u b);
    }
