-- A node that is declared failed, and one that restarts, keep what holds of tokens, rows and messages.
use Rattle.std.proofs.Common.{◌≡◌, ℕ, ◌+◌, ◌≤◌, true, false, ◌&&◌, if◌then◌else◌, ◌==◌, ◌⊎◌, inl, inr, refl, sym, ◌∙◌, ap, subst, arith, List, append-nil, Option}
use Rattle.std.proofs.lemmas.Bool.{and_parts, and_from}
use Rattle.std.proofs.lemmas.Option.{none-some}
use Rattle.model.specs.declared.level.Level.TheVariants.{Exclusive}
use Rattle.token_set.specs.rule.Tokens.{Token, no_token}
use Rattle.messages.specs.rule.Messages.{host_of}
use Rattle.messages.specs.declared.message.Message.{Message}
use Rattle.messages.specs.declared.event.Event.{Event}
use Rattle.node_core.specs.rule.State.{FileState, NodeState, first_file, first_node}
use Rattle.token_server.specs.rule.Rows.{Row}
use Rattle.token_server.specs.rule.State.{begin}
use Rattle.cluster_core.specs.rule.World.{WorldState, has_node}
use Rattle.cluster_core.specs.rule.Next.{declared, restarted, silent}
use Rattle.cluster_core.proofs.common.Choices.{at_number}
use Rattle.cluster_core.proofs.tokens.Talks.{Sent, command_host, answer_host, owing_nothing, Talk, MayHold}
use Rattle.cluster_core.proofs.steps.ServerRows.{Serves}
use Rattle.cluster_core.proofs.tokens.Present.{Was, Holding, StayApart, Present}

-- no message names a later incarnation of the node
abbrev pub NoneLater : Sent → ℕ → ℕ → Type 0
NoneLater was n incarnation = (m : Message) → was m → (host_of m).node ≡ n → (host_of m).incarnation ≤ incarnation

-- of a node's next incarnation nothing was sent: no row is of it, no command went to it, and it answered none
pub talk-begins : (was : Sent) (file n incarnation : ℕ) (f : FileState) (row : Option Row) (dead begin : ℕ) → NoneLater was n incarnation → Talk was file n incarnation f row dead begin → Talk was file n (incarnation + 1) (owing_nothing first_file) row dead begin
talk-begins was file n incarnation f row dead begin later t = record {
  lives = let lives = t.lives in omega arith;
  aged = t.aged;
  named = t.named;
  numbered = t.numbered;
  waits = t.waits;
  counted = t.counted;
  one_number = t.one_number;
  in_step = inl (record {
    last = omega arith;
    token = refl;
    none = λ r there of. let aged = t.aged r there in let lives = t.lives in absurd (omega arith);
  });
  answers = λ k m sent of.
      let host = answer_host file n (incarnation + 1) k m of in
      let is = host.1 in
      let old = later m sent host.0 in
      absurd (omega arith);
  remembered = λ m h. absurd (none-some m h);
}

-- a node in its next incarnation can hold nothing
pub may_hold-begins : (was : Sent) (file n incarnation : ℕ) (t : Token) → NoneLater was n incarnation → MayHold was file n (incarnation + 1) (owing_nothing first_file) t → t ≡ no_token
may_hold-begins was file n incarnation t later (inl same) = same
may_hold-begins was file n incarnation t later (inr p) =
    let a = p.ahead in
    let host = command_host file n (incarnation + 1) a.number p.command a.is in
    let is = host.1 in
    let old = later p.command a.sent host.0 in
    absurd (omega arith)

module _ (w : WorldState) (p : Present w) (n : ℕ) where
  abbrev i : ℕ
  i = (w.nodes n).incarnation

  abbrev fresh : NodeState
  fresh = first_node w.shape n (i + 1)

  abbrev next_nodes : ℕ → NodeState
  next_nodes m = if m == n then fresh else w.nodes m

  none_later : NoneLater (Was w) n i
  none_later m sent is = subst (λ (k : ℕ). (host_of m).incarnation ≤ (w.nodes k).incarnation) is (p.no_future m sent).0

  begins_serves : (file : ℕ) → Serves (Was w) next_nodes w.shape file (w.servers file)
  begins_serves file =
      let s = p.serves file in
      let t = w.servers file in
      record {
        file_is = s.file_is;
        shape_is = s.shape_is;
        from = s.from;
        talks = λ m. at_number m n (λ b. Talk (Was w) file m (if b then fresh else w.nodes m).incarnation (owing_nothing ((if b then fresh else w.nodes m).files file)) (t.rows m) (t.dead m) (begin t))
            (λ same. subst (λ (k : ℕ). Talk (Was w) file k (i + 1) (owing_nothing first_file) (t.rows k) (t.dead k) (begin t)) (sym same)
            (talk-begins (Was w) file n i (owing_nothing ((w.nodes n).files file)) (t.rows n) (t.dead n) (begin t) none_later (s.talks n)))
            (λ other. s.talks m);
        held = s.held;
      }

  -- a node in the new world may hold nothing, or what it may have held
  holding_either : (file m : ℕ) (t : Token) → Holding (Was w) next_nodes file m t → (t ≡ no_token) ⊎ Holding (Was w) w.nodes file m t
  holding_either file m t = at_number m n (λ b. MayHold (Was w) file m (if b then fresh else w.nodes m).incarnation (owing_nothing ((if b then fresh else w.nodes m).files file)) t → (t ≡ no_token) ⊎ Holding (Was w) w.nodes file m t)
      (λ same. subst (λ (k : ℕ). MayHold (Was w) file k (i + 1) (owing_nothing first_file) t → (t ≡ no_token) ⊎ Holding (Was w) w.nodes file k t) (sym same)
      (λ h. inl (may_hold-begins (Was w) file n i t none_later h)))
      (λ other h. inr h)

  begins_apart : (file : ℕ) → StayApart (Was w) next_nodes w.shape file
  begins_apart file l m t u l_in m_in other a b = elim (holding_either file l t a) [
    | inl none ↦ λ byte exclusive. absurd (none-some Exclusive (ap (λ (x : Token). x byte) (sym none) ∙ exclusive))
    | inr old ↦ elim (holding_either file m u b) [
      | inl none ↦ λ byte exclusive. ap (λ (x : Token). x byte) none
      | inr also ↦ p.apart file l m t u l_in m_in other old also
    ]
  ]

  pub declared_present : Present (declared w n)
  declared_present = record {
    named = λ m. at_number m n (λ b. (if b then fresh else w.nodes m).node ≡ m) (λ same. sym same) (λ other. p.named m);
    no_future = λ m sent.
        let k = (host_of m).node in
        let known = p.no_future m sent in (
          at_number k n (λ b. (host_of m).incarnation ≤ (if b then fresh else w.nodes k).incarnation)
              (λ same. let old = none_later m sent same in omega arith)
              (λ other. known.0),
          at_number k n (λ b. (host_of m).incarnation ≡ (if b then fresh else w.nodes k).incarnation → (has_node w k && (if b then false else w.alive k)) ≡ true)
              (λ same is. let old = none_later m sent same in absurd (omega arith))
              (λ other. known.1),
        );
    serves = begins_serves;
    apart = begins_apart;
  }

  -- the invariant says nothing of which nodes are alive
  pub restarted_present : Present (restarted w n)
  restarted_present = record {
    named = p.named;
    no_future = λ m sent.
        let k = (host_of m).node in
        let known = p.no_future m sent in (
          known.0,
          λ is. at_number k n (λ b. (has_node w k && (if b then true else w.alive k)) ≡ true)
              (λ same. let parts = and_parts (has_node w k) (w.alive k) (known.1 is) in and_from (has_node w k) true parts.0 refl)
              (λ other. known.1 is),
        );
    serves = p.serves;
    apart = p.apart;
  }

-- an entry that sends nothing
pub silent_present : (w : WorldState) → Present w → (event : Event) (incarnation : ℕ) → Present (silent w event incarnation).0
silent_present w p event incarnation =
    let P : List Message → Type 0 = λ ms. Present (record w { sent = ms; length = w.length + 1 }) in
    subst P (sym (append-nil w.sent)) (record { named = p.named; no_future = p.no_future; serves = p.serves; apart = p.apart })
