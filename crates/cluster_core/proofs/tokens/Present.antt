-- What holds of the tokens of the cluster, of its servers' rows and of the messages that were sent, after each step.
use Rattle.std.proofs.Common.{◌≡◌, ℕ, ◌+◌, ◌≤◌, true, false, if◌then◌else◌, ◌⊎◌, inl, inr, refl, sym, ◌∙◌, ap, subst, List, Option, Some, None}
use Rattle.std.proofs.lemmas.Bool.{both_ways, cases_eq, false_from_ne_true}
use Rattle.std.proofs.lemmas.List.Elements.{All-weaker}
use Rattle.intervals.specs.rule.Bytes.{Range, is_in}
use Rattle.model.specs.declared.level.Level.TheVariants.{Exclusive}
use Rattle.model.specs.declared.mode.Mode.{Mode}
use Rattle.token_set.specs.rule.Tokens.{Token, raised, level_conflicts}
use Rattle.token_set.proofs.TokenLaws.{raised-at, raised_level-excludes, exclusive-conflicts}
use Rattle.messages.specs.rule.Shapes.{ShapeFields}
use Rattle.model.specs.declared.host.Host.{Host}
use Rattle.messages.specs.rule.Messages.{host_of, is_among, is_within}
use Rattle.messages.specs.declared.message.Message.{Message}
use Rattle.messages.specs.declared.message.Message.TheVariants.{Grant}
use Rattle.node_core.specs.rule.State.{FileState, NodeState}
use Rattle.token_server.specs.rule.Rows.{Row, row_conflicts_at}
use Rattle.token_server.specs.rule.State.{ServerState, begin, with_row, requests}
use Rattle.cluster_core.specs.rule.World.{WorldState, is_alive}
use Rattle.cluster_core.specs.rule.Safe.{Excludes}
use Rattle.cluster_core.proofs.common.Choices.{at_number}
use Rattle.cluster_core.proofs.tokens.Talks.{Sent, IsCommandTo, same_command, promised, owing_nothing, Talk, MayHold, held}
use Rattle.cluster_core.proofs.tokens.TalkMoves.{NoNews, talk-no_news, may_hold-no_news}
use Rattle.cluster_core.proofs.tokens.RowMoves.{commanded_row, IsCommanding, talk-commanded, may_hold-commanded}
use Rattle.cluster_core.proofs.steps.ServerRows.{IsCurrent, Serves, IsFreeFor, Commands, current_row}

-- the message was sent
abbrev pub Was : WorldState → Message → Type 0
Was w m = is_among w.sent m ≡ true

-- the token is the node's, or one that it may become
abbrev pub Holding : Sent → (ℕ → NodeState) → ℕ → ℕ → Token → Type 0
Holding was nodes file n t = MayHold was file n (nodes n).incarnation (owing_nothing ((nodes n).files file)) t

-- tokens that two nodes have or may get never conflict
abbrev pub StayApart : Sent → (ℕ → NodeState) → ShapeFields → ℕ → Type 0
StayApart was nodes shape file = (m n : ℕ) (t u : Token) → is_within shape.nodes m ≡ true → is_within shape.nodes n ≡ true → (m ≡ n → ⊥) → Holding was nodes file m t → Holding was nodes file n u → Excludes t u

-- the node has been in that incarnation, and is alive if it is in it
abbrev pub IsBegun : WorldState → Host → Type 0
IsBegun w h = (h.incarnation ≤ (w.nodes h.node).incarnation) × (h.incarnation ≡ (w.nodes h.node).incarnation → is_alive w h.node ≡ true)

pub begun_as : (w : WorldState) (h k : Host) → h.node ≡ k.node → h.incarnation ≡ k.incarnation → IsBegun w h → IsBegun w k
begun_as w h k nodes incarnations is =
    let same : h ≡ k = λ i. record { node = nodes i; incarnation = incarnations i } in
    subst (IsBegun w) same is

pub record Present (w : WorldState) : Type 0 where
  pub named : (n : ℕ) → (w.nodes n).node ≡ n
  pub no_future : (m : Message) → Was w m → IsBegun w (host_of m)
  pub serves : (file : ℕ) → Serves (Was w) w.nodes w.shape file (w.servers file)
  pub apart : (file : ℕ) → StayApart (Was w) w.nodes w.shape file

-- bytes that are granted without a conflict exclude the other token
granted_excludes : (t u : Token) (span : Range) (mode : Mode) → Excludes t u → ((b : ℕ) → is_in span b ≡ true → level_conflicts (u b) mode ≡ false) → Excludes (raised t span mode) u
granted_excludes t u span mode apart free b =
    raised-at (λ x. x ≡ Some Exclusive → u b ≡ None) t span mode b (λ here. raised_level-excludes (t b) (u b) mode (apart b) (free b here)) (apart b)

excludes_granted : (t u : Token) (span : Range) (mode : Mode) → Excludes u t → ((b : ℕ) → is_in span b ≡ true → level_conflicts (u b) mode ≡ false) → Excludes u (raised t span mode)
excludes_granted t u span mode apart free b exclusive =
    raised-at (λ x. x ≡ None) t span mode b (λ here. absurd (both_ways (level_conflicts (u b) mode) (free b here) (exclusive-conflicts (u b) mode exclusive))) (apart b exclusive)

-- more messages that say nothing new to a server
pub serves-no_news : (was now : Sent) (nodes : ℕ → NodeState) (shape : ShapeFields) (file : ℕ) (t : ServerState) → ((n : ℕ) → NoNews was now file n (nodes n).incarnation) → Serves was nodes shape file t → Serves now nodes shape file t
serves-no_news was now nodes shape file t news s = record {
  file_is = s.file_is;
  shape_is = s.shape_is;
  from = s.from;
  talks = λ n. talk-no_news was now file n (nodes n).incarnation (owing_nothing ((nodes n).files file)) (t.rows n) (t.dead n) (begin t) (news n) (s.talks n);
  held = s.held;
}

pub apart-no_news : (was now : Sent) (nodes : ℕ → NodeState) (shape : ShapeFields) (file : ℕ) → ((n : ℕ) → NoNews was now file n (nodes n).incarnation) → StayApart was nodes shape file → StayApart now nodes shape file
apart-no_news was now nodes shape file news apart m n t u m_in n_in other a b =
    apart m n t u m_in n_in other
    (may_hold-no_news was now file m (nodes m).incarnation (owing_nothing ((nodes m).files file)) t (news m) a)
    (may_hold-no_news was now file n (nodes n).incarnation (owing_nothing ((nodes n).files file)) u (news n) b)

-- nothing new was sent
pub nothing_new : (was now : Sent) (file n incarnation : ℕ) → ((m : Message) → was m → now m) → ((m : Message) → now m → was m) → NoNews was now file n incarnation
nothing_new was now file n incarnation kept new = record { kept = kept; commands = λ i k m sent to. new m sent; answers = λ k m sent of. new m sent }

-- the token does not conflict with what the command grants
abbrev IsClearOf : Message → Token → Type 0
IsClearOf (Grant f k call mode span) u = (b : ℕ) → is_in span b ≡ true → level_conflicts (u b) mode ≡ false
IsClearOf _ u = Unit {0}

-- a token with what the command promises excludes the other token still
promised_excludes : (t u : Token) (command : Message) → Excludes t u → IsClearOf command u → Excludes (promised t command) u
promised_excludes t u (Grant f k call mode span) apart free = granted_excludes t u span mode apart free
promised_excludes t u command apart free = apart

excludes_promised : (t u : Token) (command : Message) → Excludes u t → IsClearOf command u → Excludes u (promised t command)
excludes_promised t u (Grant f k call mode span) apart free = excludes_granted t u span mode apart free
excludes_promised t u command apart free = apart

-- a server's command about a file
module _ (was now : Sent) (nodes : ℕ → NodeState) (shape : ShapeFields) (file : ℕ) (v : ServerState) (sends : List Message) (g : Commands was nodes shape file v sends) (news : IsCommanding was now g.command) where
  abbrev heard : ℕ → FileState
  heard n = owing_nothing ((nodes n).files file)

  -- a command says nothing new of another file, or to another node
  tells_no_other : (f n : ℕ) → (f ≡ file → n ≡ g.node → ⊥) → NoNews was now f n (nodes n).incarnation
  tells_no_other f n other = record {
    kept = news.kept;
    commands = λ i k m sent to. elim (news.commands f n i k m sent to) [
      | inl old ↦ old
      | inr is ↦
          let same = same_command f n i k file g.node g.row.incarnation (g.row.number + 1) g.command (subst (IsCommandTo f n i k) is to) g.to in
          absurd (other same.file_is same.node_is)
    ];
    answers = λ k m sent of. news.answers f n (nodes n).incarnation k m sent of;
  }

  others_no_news : (n : ℕ) → (n ≡ g.node → ⊥) → NoNews was now file n (nodes n).incarnation
  others_no_news n other = tells_no_other file n (λ same is. other is)

  pub files_no_news : (f n : ℕ) → (f ≡ file → ⊥) → NoNews was now f n (nodes n).incarnation
  files_no_news f n other = tells_no_other f n (λ same is. other same)

  its_talk : Talk was file g.node (nodes g.node).incarnation (heard g.node) (Some g.row) (g.state.dead g.node) (begin g.state)
  its_talk = subst (λ (o : Option Row). Talk was file g.node (nodes g.node).incarnation (heard g.node) o (g.state.dead g.node) (begin g.state)) g.there (g.serves.talks g.node)

  abbrev later : ServerState
  later = with_row g.state g.node (Some (commanded_row g.row g.command))

  later_serves : Serves now nodes shape file later
  later_serves =
      let row = commanded_row g.row g.command in
      let current = current_row was nodes shape file g.state g.serves g.node row in
      record {
        file_is = g.serves.file_is;
        shape_is = g.serves.shape_is;
        from = g.serves.from;
        talks = λ n. at_number n g.node (λ b. Talk now file n (nodes n).incarnation (heard n) (if b then Some row else g.state.rows n) (g.state.dead n) (begin g.state))
            (λ same. subst (λ (k : ℕ). Talk now file k (nodes k).incarnation (heard k) (Some row) (g.state.dead k) (begin g.state)) (sym same)
            (talk-commanded was now file g.node (nodes g.node).incarnation (heard g.node) g.row (g.state.dead g.node) (begin g.state) g.command g.idle g.plain g.few g.to news its_talk))
            (λ other. talk-no_news was now file n (nodes n).incarnation (heard n) (g.state.rows n) (g.state.dead n) (begin g.state) (others_no_news n other) (g.serves.talks n));
        held = All-weaker (IsCurrent g.state) (IsCurrent later) current (requests g.state) g.serves.held;
      }

  pub commanded_serves : Serves now nodes shape file v
  commanded_serves = subst (Serves now nodes shape file) (sym g.next) later_serves

  -- a token that another node may hold does not conflict with the granted bytes
  clear_of : (n : ℕ) (u : Token) → is_within shape.nodes n ≡ true → (n ≡ g.node → ⊥) → Holding was nodes file n u → (command : Message) → IsFreeFor g.state g.node command → IsClearOf command u
  clear_of n u n_in other may (Grant f k call mode span) free = λ b here. false_from_ne_true (level_conflicts (u b) mode) (λ conflicts.
      let within : is_within g.state.shape.nodes n ≡ true = ap (λ (x : ShapeFields). is_within x.nodes n) g.serves.shape_is ∙ n_in in
      both_ways (row_conflicts_at (g.state.rows n) b mode) (free n b within other here)
      (held was file n (nodes n).incarnation (heard n) (g.state.rows n) (g.state.dead n) (begin g.state) (g.serves.talks n) (g.heard n within) u b mode may conflicts))
  clear_of n u n_in other may command free = tt

  unblocked : (n : ℕ) (u : Token) → is_within shape.nodes n ≡ true → (n ≡ g.node → ⊥) → Holding was nodes file n u → IsClearOf g.command u
  unblocked n u n_in other may = clear_of n u n_in other may g.command g.free

  -- the token that the command's node may hold
  its_token : (n : ℕ) (t : Token) → n ≡ g.node → Holding now nodes file n t → Holding was nodes file n t ⊎ (t ≡ promised ((nodes n).files file).token g.command)
  its_token n t same = subst (λ (k : ℕ). Holding now nodes file k t → Holding was nodes file k t ⊎ (t ≡ promised ((nodes k).files file).token g.command)) (sym same)
      (may_hold-commanded was now file g.node (nodes g.node).incarnation (heard g.node) g.row (g.state.dead g.node) (begin g.state) g.command g.idle g.plain g.few g.to news its_talk t)

  other_token : (n : ℕ) (t : Token) → (n ≡ g.node → ⊥) → Holding now nodes file n t → Holding was nodes file n t
  other_token n t other may = may_hold-no_news was now file n (nodes n).incarnation (heard n) t (others_no_news n other) may

  -- the tokens stay apart: here the server's rule counts
  pub commanded_apart : StayApart was nodes shape file → StayApart now nodes shape file
  commanded_apart apart m n t u m_in n_in other a b = elim (cases_eq m g.node) [
    | inl m_to ↦
        let n_other : n ≡ g.node → ⊥ = λ n_to. other (m_to ∙ sym n_to) in
        let old = other_token n u n_other b in
        elim (its_token m t m_to a) [
          | inl before ↦ apart m n t u m_in n_in other before old
          | inr new ↦
              let mine = ((nodes m).files file).token in
              let P : Token → Type 0 = λ x. Excludes x u in
              subst P (sym new) (promised_excludes mine u g.command (apart m n mine u m_in n_in other (inl refl) old) (unblocked n u n_in n_other old))
        ]
    | inr m_other ↦
        let old = other_token m t m_other a in
        elim (cases_eq n g.node) [
          | inl n_to ↦ elim (its_token n u n_to b) [
            | inl before ↦ apart m n t u m_in n_in other old before
            | inr new ↦
                let mine = ((nodes n).files file).token in
                let P : Token → Type 0 = λ x. Excludes t x in
                subst P (sym new) (excludes_promised mine t g.command (apart m n t mine m_in n_in other old (inl refl)) (unblocked m t m_in m_other old))
          ]
          | inr n_other ↦ apart m n t u m_in n_in other old (other_token n u n_other b)
        ]
  ]
