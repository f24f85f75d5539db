-- The commands that a server sends as it serves, and the state with them.
use Rattle.std.specs.Prelude.{◌≡◌, ℕ, ◌+◌, ◌≤◌, Bool, true, false, cond, ◌==◌, nat_lt, List, [], ◌∷◌, ◌++◌, is_some, All, IfSome, Option, Some, None, Result, Ok, Err}
use Rattle.std.specs.Option.{option_map, option_to_list}
use Rattle.std.proofs.lemmas.List.Elements.{All-push}
use Rattle.std.proofs.Common.{refl, sym, ap, ◌∙◌, inl, inr, subst, append-nil, append_assoc, take, drop}
use Rattle.std.proofs.lemmas.List.{take-append-drop}
use Rattle.std.proofs.lemmas.Bool.Decides.{eqb_tells}
use Rattle.std.proofs.lemmas.Option.{none-some, same_Some}
use Rattle.messages.specs.rule.TokenRuns.{Wants}
use Rattle.messages.specs.declared.refusal.StepError.{StepError}
use Rattle.messages.specs.declared.refusal.StepError.TheVariants.{Spent}
use Rattle.messages.specs.declared.message.Message.{Message}
use Rattle.messages.specs.declared.message.Message.TheVariants.{Grant, Revoke}
use Rattle.messages.specs.rule.Messages.{greatest_number}
use Rattle.model.specs.declared.host.Host.{Host}
use Rattle.token_set.specs.rule.Tokens.{Token}
use Rattle.token_server.specs.declared.token_queue.token_request.TokenRequest.{TokenRequest}
use Rattle.token_server.specs.declared.sent_command.SentCommand.{SentCommand}
use Rattle.token_server.specs.rule.Rows.{Commands, Row}
use Rattle.token_server.specs.rule.State.{ServerState, with_row, begin}
use Rattle.token_server.specs.declared.known_nodes.known_node.KnownNode.{KnownNode}
use Rattle.token_server.specs.declared.known_nodes.new_row.NewRow.{NewRow}
use Rattle.token_server.specs.code.Rows.{next_number, told_commands, promised, given_to_known_node, given_rows, given_of, rows_overlaid}
use Rattle.token_server.specs.rule.RowParts.{known_node_at}
use Rattle.token_server.specs.declared.known_nodes.row_edit.RowEdit.{RowEdit}
use Rattle.token_server.specs.code.Edits.{with_given, commands_of, told_to, row_told, with_told, commands_told}
use Rattle.token_server.proofs.GrantLaws.{each_served-append}
use Rattle.token_server.specs.rule.Serve.{narrowed, granted_span, commanded, granted_to, revoked_from, served, with_more, and_then, each_served}

abbrev pub Answer : Type 0
Answer = Result (ServerState × List Message) StepError

-- one command more leaves the command to a node that had one
told_to-more : (ts : List SentCommand) (t : SentCommand) (n : ℕ) (o : Option SentCommand) → told_to ts n ≡ o → told_to (ts ++ t ∷ []) n ≡ (elim o [ None ↦ cond (t.node == n) (Some t) None | Some x ↦ Some x ])
told_to-more [] t n o is = sym (ap (λ (p : Option SentCommand). elim p as (λ q. Option SentCommand) [ None ↦ cond (t.node == n) (Some t) None | Some x ↦ Some x ]) (sym is))
told_to-more (x ∷ ts) t n o is = by (x.node == n) is (told_to-more ts t n)
  where
    last : Option SentCommand → Option SentCommand
    last p = elim p [ None ↦ cond (t.node == n) (Some t) None | Some y ↦ Some y ]

    by : (b : Bool) → cond b (Some x) (told_to ts n) ≡ o → ((p : Option SentCommand) → told_to ts n ≡ p → told_to (ts ++ t ∷ []) n ≡ last p) → cond b (Some x) (told_to (ts ++ t ∷ []) n) ≡ last o
    by true found rest = ap last found
    by false found rest = rest o found

-- the commands to a node are those of its row
row_of_commands : (o : Option Row) (c : Commands) → Some c ≡ option_map commands_of o → (row : Row) × (o ≡ Some row) × (c ≡ commands_of row)
row_of_commands None c is = absurd (none-some c (sym is))
row_of_commands (Some row) c is = (row, refl, same_Some c (commands_of row) is)

none_of_commands : (o : Option Row) → None ≡ option_map commands_of o → o ≡ None
none_of_commands None is = refl
none_of_commands (Some row) is = absurd (none-some (commands_of row) is)

-- the facts that a number that is left gives
pub record HasNumber (begin : ℕ) (c : Commands) (k : ℕ) : Type 0 where
  pub idle : c.outstanding ≡ None
  pub room : nat_lt c.number (begin + greatest_number) ≡ true
  pub number : k ≡ c.number + 1

pub has_number : (begin : ℕ) (c : Commands) (k : ℕ) → next_number begin c ≡ Ok (Some k) → HasNumber begin c k
has_number begin c k h = by c.outstanding (nat_lt c.number (begin + greatest_number)) refl refl h
  where
    by : (o : Option Message) (few : Bool) → c.outstanding ≡ o → nat_lt c.number (begin + greatest_number) ≡ few → cond (is_some o) (Ok None) (cond few (Ok (Some (c.number + 1))) (Err Spent)) ≡ Ok (Some k) → HasNumber begin c k
    by (Some m) few waits is h = absurd (cc)
    by None true waits is h = let same : c.number + 1 ≡ k = cc in record { idle = waits; room = is; number = sym same }
    by None false waits is h = absurd (cc)

module _ (ts : List SentCommand) (s : ServerState) where
  abbrev now : ServerState
  now = with_told ts s

  -- no command is added
  pub silent : ◌≡◌ {A = Answer} (Ok (now, [])) (Ok (with_told (ts ++ []) s, []))
  silent = ap (λ (xs : List SentCommand). let a : Answer = Ok (with_told xs s, []) in a) (sym (append-nil ts))

  -- a node whose row has no outstanding command was sent none
  untold : (n : ℕ) (row : Row) (o : Option SentCommand) → told_to ts n ≡ o → row_told o (s.rows n) ≡ Some row → row.outstanding ≡ None → (o ≡ None) × (s.rows n ≡ Some row)
  untold n row None is there idle = (refl, there)
  untold n row (Some t) is there idle = by (s.rows n) there
    where
      by : (r : Option Row) → row_told (Some t) r ≡ Some row → ((◌≡◌ {A = Option SentCommand} (Some t) None) × (s.rows n ≡ Some row))
      by None there = absurd (none-some row there)
      by (Some old) there =
          let waits : Some t.command ≡ row.outstanding = ap (λ (x : Row). x.outstanding) (same_Some _ row there) in
          absurd (none-some t.command (sym idle ∙ sym waits))

  -- one command more
  with_more_told : (n : ℕ) (row : Row) (t : SentCommand) → t.node ≡ n → told_to ts n ≡ None → s.rows n ≡ Some row → with_told (ts ++ t ∷ []) s ≡ with_row now n (row_told (Some t) (Some row))
  with_more_told n row t to none there = λ i. record s { rows = λ m. at m i }
    where
      at : (m : ℕ) → row_told (told_to (ts ++ t ∷ []) m) (s.rows m) ≡ cond (m == n) (row_told (Some t) (Some row)) (row_told (told_to ts m) (s.rows m))
      at m = elim (eqb_tells m n) [
        | inl same ↦
            let old : told_to ts m ≡ None = ap (told_to ts) same.1 ∙ none in
            let own : t.node == m ≡ true = (λ i. (to ∙ sym same.1) i == m) ∙ here m in
            let new : told_to (ts ++ t ∷ []) m ≡ Some t = told_to-more ts t m None old ∙ ap (λ (b : Bool). let o : Option SentCommand = cond b (Some t) None in o) own in
            (λ i. row_told (new i) ((ap s.rows same.1 ∙ there) i))
            ∙ sym (ap (λ (b : Bool). cond b (row_told (Some t) (Some row)) (row_told (told_to ts m) (s.rows m))) same.0)
        | inr other ↦
            ap (λ (o : Option SentCommand). row_told o (s.rows m)) (elsewhere m (told_to ts m) refl other.1)
            ∙ sym (ap (λ (b : Bool). cond b (row_told (Some t) (Some row)) (row_told (told_to ts m) (s.rows m))) other.0)
      ]
        where
          here : (k : ℕ) → k == k ≡ true
          here k = elim (eqb_tells k k) [ inl same ↦ same.0 | inr other ↦ absurd (other.1 refl) ]

          elsewhere : (k : ℕ) (o : Option SentCommand) → told_to ts k ≡ o → (k ≡ n → ⊥) → told_to (ts ++ t ∷ []) k ≡ o
          elsewhere k None is other = told_to-more ts t k None is ∙ elim (eqb_tells t.node k) [
            | inl same ↦ absurd (other (sym same.1 ∙ to))
            | inr apart ↦ ap (λ (b : Bool). let o : Option SentCommand = cond b (Some t) None in o) apart.0
          ]
          elsewhere k (Some x) is other = told_to-more ts t k (Some x) is

  -- the node has no row: no command is sent
  gone : (n : ℕ) (f : Option Row → Answer) → f None ≡ Ok (now, []) → None ≡ option_map commands_of (now.rows n) → f (now.rows n) ≡ Ok (with_told (ts ++ []) s, [])
  gone n f none is = ap f (none_of_commands (now.rows n) is) ∙ none ∙ silent

  commanded-busy : (n : ℕ) (row : Row) (token : Token) (command : Message) → next_number (begin s) (commands_of row) ≡ Ok None → commanded now n row token command ≡ Ok (with_told (ts ++ []) s, [])
  commanded-busy n row token command h = by (is_some row.outstanding) (nat_lt row.number (begin s + greatest_number)) h
    where
      by : (b few : Bool) → cond b (Ok None) (cond few (Ok (Some (row.number + 1))) (Err Spent)) ≡ Ok None → cond {A = Answer} b (Ok (now, [])) (cond {A = Answer} few (Ok (with_row now n (Some (record row { token = token; number = row.number + 1; outstanding = Some command })), command ∷ [])) (Err Spent)) ≡ Ok (with_told (ts ++ []) s, [])
      by true few h = silent
      by false true h = absurd (cc)
      by false false h = absurd (cc)

  commanded-spent : (n : ℕ) (row : Row) (token : Token) (command : Message) (e : StepError) → next_number (begin s) (commands_of row) ≡ Err e → commanded now n row token command ≡ Err e
  commanded-spent n row token command e h = by (is_some row.outstanding) (nat_lt row.number (begin s + greatest_number)) h
    where
      by : (b few : Bool) → cond b (Ok None) (cond few (Ok (Some (row.number + 1))) (Err Spent)) ≡ Err e → cond {A = Answer} b (Ok (now, [])) (cond {A = Answer} few (Ok (with_row now n (Some (record row { token = token; number = row.number + 1; outstanding = Some command })), command ∷ [])) (Err Spent)) ≡ Err e
      by true few h = absurd (cc)
      by false true h = absurd (cc)
      by false false h = let same : Spent ≡ e = cc in ap (λ (x : StepError). let a : Answer = Err x in a) same

  commanded-sent : (n k : ℕ) (row : Row) (command : Message) (t : SentCommand) → now.rows n ≡ Some row → next_number (begin s) (commands_of row) ≡ Ok (Some k) → t.node ≡ n → t.command ≡ command → t.commands ≡ told_commands command (commands_of row) → commanded now n row (promised command row.token) command ≡ Ok (with_told (ts ++ t ∷ []) s, command ∷ [])
  commanded-sent n k row command t there next to is commands =
      let has = has_number (begin s) (commands_of row) k next in
      let old = untold n row (told_to ts n) refl there has.idle in
      let told : row_told (Some t) (Some row) ≡ Some (record row { token = promised command row.token; number = row.number + 1; outstanding = Some command }) =
      λ i. Some (record { incarnation = (commands i).incarnation; token = promised (is i) row.token; number = (commands i).number; outstanding = Some (is i) }) in
      let sent : Answer = Ok (with_row now n (Some (record row { token = promised command row.token; number = row.number + 1; outstanding = Some command })), command ∷ []) in
      let busy : Answer = Ok (now, []) in
      let spent : Answer = Err Spent in
      ap (λ (o : Option Message). cond (is_some o) busy (cond (nat_lt row.number (begin s + greatest_number)) sent spent)) has.idle
      ∙ ap (λ (b : Bool). cond b sent spent) has.room
      ∙ sym (ap (λ (x : ServerState). let a : Answer = Ok (x, command ∷ []) in a) (with_more_told n row t to old.0 old.1 ∙ ap (λ (o : Option Row). with_row now n o) told))

  module _ (r : TokenRequest) (n : ℕ) where
    abbrev holder : Commands → Host
    holder c = record { node = n; incarnation = c.incarnation }

    abbrev wanted : Wants
    wanted = record { required = r.wanted.required; desired = narrowed s.active r }

    pub revoke-gone : None ≡ option_map commands_of (now.rows n) → revoked_from now r n (now.rows n) ≡ Ok (with_told (ts ++ []) s, [])
    revoke-gone is = gone n (revoked_from now r n) refl is

    pub revoke-busy : (c : Commands) → Some c ≡ option_map commands_of (now.rows n) → next_number (begin s) c ≡ Ok None → revoked_from now r n (now.rows n) ≡ Ok (with_told (ts ++ []) s, [])
    revoke-busy c is next =
        let x = row_of_commands (now.rows n) c is in
        ap (revoked_from now r n) x.1 ∙ commanded-busy n x.0 x.0.token _ (ap (next_number (begin s)) (sym x.2) ∙ next)

    pub revoke-spent : (c : Commands) (e : StepError) → Some c ≡ option_map commands_of (now.rows n) → next_number (begin s) c ≡ Err e → revoked_from now r n (now.rows n) ≡ Err e
    revoke-spent c e is next =
        let x = row_of_commands (now.rows n) c is in
        ap (revoked_from now r n) x.1 ∙ commanded-spent n x.0 x.0.token _ e (ap (next_number (begin s)) (sym x.2) ∙ next)

    pub revoke-sent : (c : Commands) (k : ℕ) (t : SentCommand) → Some c ≡ option_map commands_of (now.rows n) → next_number (begin s) c ≡ Ok (Some k) → t.node ≡ n → t.command ≡ Revoke s.file k (holder c) r.call r.mode wanted → t.commands ≡ told_commands t.command c → revoked_from now r n (now.rows n) ≡ Ok (with_told (ts ++ t ∷ []) s, t.command ∷ [])
    revoke-sent c k t is next to command_is commands =
        let x = row_of_commands (now.rows n) c is in
        let has = has_number (begin s) c k next in
        let command = Revoke s.file (x.0.number + 1) (record { node = n; incarnation = x.0.incarnation }) r.call r.mode wanted in
        let same : t.command ≡ command = command_is ∙ (λ i. Revoke s.file ((has.number ∙ ap (λ (y : Commands). y.number + 1) x.2) i) (record { node = n; incarnation = (x.2 i).incarnation }) r.call r.mode wanted) in
        ap (revoked_from now r n) x.1
        ∙ commanded-sent n k x.0 command t x.1 (ap (next_number (begin s)) (sym x.2) ∙ next) to same (commands ∙ (λ i. told_commands (same i) (x.2 i)))
        ∙ ap (λ (m : Message). let a : Answer = Ok (with_told (ts ++ t ∷ []) s, m ∷ []) in a) (sym same)

  module _ (r : TokenRequest) where
    pub grant-gone : None ≡ option_map commands_of (now.rows r.call.node) → granted_to now r (now.rows r.call.node) ≡ Ok (with_told (ts ++ []) s, [])
    grant-gone is = gone r.call.node (granted_to now r) refl is

    pub grant-busy : (c : Commands) → Some c ≡ option_map commands_of (now.rows r.call.node) → next_number (begin s) c ≡ Ok None → granted_to now r (now.rows r.call.node) ≡ Ok (with_told (ts ++ []) s, [])
    grant-busy c is next =
        let x = row_of_commands (now.rows r.call.node) c is in
        ap (granted_to now r) x.1 ∙ commanded-busy r.call.node x.0 _ _ (ap (next_number (begin s)) (sym x.2) ∙ next)

    pub grant-spent : (c : Commands) (e : StepError) → Some c ≡ option_map commands_of (now.rows r.call.node) → next_number (begin s) c ≡ Err e → granted_to now r (now.rows r.call.node) ≡ Err e
    grant-spent c e is next =
        let x = row_of_commands (now.rows r.call.node) c is in
        ap (granted_to now r) x.1 ∙ commanded-spent r.call.node x.0 _ _ e (ap (next_number (begin s)) (sym x.2) ∙ next)

    pub grant-sent : (c : Commands) (k : ℕ) (t : SentCommand) → Some c ≡ option_map commands_of (now.rows r.call.node) → next_number (begin s) c ≡ Ok (Some k) → t.node ≡ r.call.node → t.command ≡ Grant s.file k r.call r.mode (granted_span now r) → t.commands ≡ told_commands t.command c → granted_to now r (now.rows r.call.node) ≡ Ok (with_told (ts ++ t ∷ []) s, t.command ∷ [])
    grant-sent c k t is next to command_is commands =
        let x = row_of_commands (now.rows r.call.node) c is in
        let has = has_number (begin s) c k next in
        let command = Grant s.file (x.0.number + 1) r.call r.mode (granted_span now r) in
        let same : t.command ≡ command = command_is ∙ (λ i. Grant s.file ((has.number ∙ ap (λ (y : Commands). y.number + 1) x.2) i) r.call r.mode (granted_span now r)) in
        ap (granted_to now r) x.1
        ∙ commanded-sent r.call.node k x.0 command t x.1 (ap (next_number (begin s)) (sym x.2) ∙ next) to same (commands ∙ (λ i. told_commands (same i) (x.2 i)))
        ∙ ap (λ (m : Message). let a : Answer = Ok (with_told (ts ++ t ∷ []) s, m ∷ []) in a) (sym same)

-- the commands as messages, with one more
pub commands_told-more : (ts more : List SentCommand) → commands_told (ts ++ more) ≡ commands_told ts ++ commands_told more
commands_told-more [] more = refl
commands_told-more (t ∷ ts) more = ap (λ (ms : List Message). t.command ∷ ms) (commands_told-more ts more)

-- one active request more is served
module _ (s : ServerState) (xs : List TokenRequest) (ts : List SentCommand) (r : TokenRequest) (so_far : each_served xs s ≡ Ok (with_told ts s, commands_told ts)) where
  pub served-more : (more : List SentCommand) → served (with_told ts s) r ≡ Ok (with_told (ts ++ more) s, commands_told more) → each_served (xs ++ r ∷ []) s ≡ Ok (with_told (ts ++ more) s, commands_told (ts ++ more))
  served-more more is =
      each_served-append xs (r ∷ []) s
      ∙ ap (λ (x : Answer). and_then x (each_served (r ∷ []))) so_far
      ∙ ap (λ (x : Answer). with_more (commands_told ts) (and_then x (each_served []))) is
      ∙ ap (λ (ms : List Message). let a : Answer = Ok (with_told (ts ++ more) s, commands_told ts ++ ms) in a) (append-nil (commands_told more))
      ∙ ap (λ (ms : List Message). let a : Answer = Ok (with_told (ts ++ more) s, ms) in a) (sym (commands_told-more ts more))

  pub served-spent : (rest : List TokenRequest) (e : StepError) → served (with_told ts s) r ≡ Err e → each_served (xs ++ r ∷ rest) s ≡ Err e
  served-spent rest e is =
      each_served-append xs (r ∷ rest) s
      ∙ ap (λ (x : Answer). and_then x (each_served (r ∷ rest))) so_far
      ∙ ap (λ (x : Answer). with_more (commands_told ts) (and_then x (each_served rest))) is

-- the new row that a node gets is the one with its command
pub record GivesTold (known_nodes : List KnownNode) (edit : Option RowEdit) (t : SentCommand) (g : NewRow) : Type 0 where
  pub place : g.place + 1 ≡ t.node
  pub row : given_to_known_node g (known_node_at known_nodes t.node) ≡ row_told (Some t) (rows_overlaid known_nodes edit t.node)

abbrev pub GiveTold : List KnownNode → Option RowEdit → List SentCommand → List NewRow → Type 0
GiveTold known_nodes edit [] [] = Unit {0}
GiveTold known_nodes edit (t ∷ ts) (g ∷ gs) = GivesTold known_nodes edit t g × GiveTold known_nodes edit ts gs
GiveTold known_nodes edit _ _ = ⊥

pub give_told-more : (known_nodes : List KnownNode) (edit : Option RowEdit) (ts : List SentCommand) (gs : List NewRow) (t : SentCommand) (g : NewRow) → GiveTold known_nodes edit ts gs → GivesTold known_nodes edit t g → GiveTold known_nodes edit (ts ++ t ∷ []) (gs ++ g ∷ [])
give_told-more known_nodes edit [] [] t g all one = (one, tt)
give_told-more known_nodes edit (x ∷ ts) (y ∷ gs) t g all one = (all.0, give_told-more known_nodes edit ts gs t g all.1 one)
give_told-more known_nodes edit [] (y ∷ gs) t g all one = absurd all
give_told-more known_nodes edit (x ∷ ts) [] t g all one = absurd all

given_rows-told : (known_nodes : List KnownNode) (edit : Option RowEdit) (ts : List SentCommand) (gs : List NewRow) (n : ℕ) → GiveTold known_nodes edit ts gs → given_rows (gs ++ given_of edit) known_nodes n ≡ row_told (told_to ts n) (rows_overlaid known_nodes edit n)
given_rows-told known_nodes edit [] [] n all = refl
given_rows-told known_nodes edit (t ∷ ts) (g ∷ gs) n all = elim (eqb_tells n (g.place + 1)) [
  | inl same ↦
      let at : n ≡ t.node = same.1 ∙ all.0.place in
      let own : t.node == n ≡ true = ap (λ (k : ℕ). t.node == k) at ∙ here t.node in
      ap (λ (b : Bool). cond b (given_to_known_node g (known_node_at known_nodes n)) (given_rows (gs ++ given_of edit) known_nodes n)) same.0
      ∙ ap (λ (k : ℕ). given_to_known_node g (known_node_at known_nodes k)) at
      ∙ all.0.row
      ∙ ap (λ (k : ℕ). row_told (Some t) (rows_overlaid known_nodes edit k)) (sym at)
      ∙ sym (ap (λ (b : Bool). let o : Option SentCommand = cond b (Some t) (told_to ts n) in row_told o (rows_overlaid known_nodes edit n)) own)
  | inr other ↦
      let apart : t.node == n ≡ false = elsewhere other.1 in
      ap (λ (b : Bool). cond b (given_to_known_node g (known_node_at known_nodes n)) (given_rows (gs ++ given_of edit) known_nodes n)) other.0
      ∙ given_rows-told known_nodes edit ts gs n all.1
      ∙ sym (ap (λ (b : Bool). let o : Option SentCommand = cond b (Some t) (told_to ts n) in row_told o (rows_overlaid known_nodes edit n)) apart)
]
  where
    here : (k : ℕ) → k == k ≡ true
    here k = elim (eqb_tells k k) [ inl same ↦ same.0 | inr other ↦ absurd (other.1 refl) ]

    elsewhere : (n ≡ g.place + 1 → ⊥) → t.node == n ≡ false
    elsewhere other = elim (eqb_tells t.node n) [ inl same ↦ absurd (other (sym same.1 ∙ sym all.0.place)) | inr apart ↦ apart.0 ]
given_rows-told known_nodes edit [] (g ∷ gs) n all = absurd all
given_rows-told known_nodes edit (t ∷ ts) [] n all = absurd all

pub with_given-told : (s : ServerState) (known_nodes : List KnownNode) (edit : Option RowEdit) (ts : List SentCommand) (gs : List NewRow) → rows_overlaid known_nodes edit ≡ s.rows → GiveTold known_nodes edit ts gs → with_given (gs ++ given_of edit) known_nodes s ≡ with_told ts s
with_given-told s known_nodes edit ts gs same all = λ i. record s { rows = λ n. (given_rows-told known_nodes edit ts gs n all ∙ ap (λ (f : ℕ → Option Row). row_told (told_to ts n) (f n)) same) i }

-- the element at a place ends the first ones
pub list-at : {X : Type 0} (xs : List X) (i : ℕ) (x : X) → take (i + 1) xs ≡ take i xs ++ x ∷ [] → xs ≡ take i xs ++ x ∷ drop (i + 1) xs
list-at xs i x next = sym (take-append-drop (i + 1) xs) ∙ ap (λ ys. ys ++ drop (i + 1) xs) next ∙ append_assoc (take i xs) (x ∷ []) (drop (i + 1) xs)

-- one active request more is served, and leads to this command or none
pub told-next : (s : ServerState) (xs next : List TokenRequest) (ts ms : List SentCommand) (r : TokenRequest) (o : Option SentCommand) → each_served xs s ≡ Ok (with_told ts s, commands_told ts) → next ≡ xs ++ r ∷ [] → served (with_told ts s) r ≡ Ok (with_told (ts ++ option_to_list o) s, commands_told (option_to_list o)) → ms ≡ ts ++ option_to_list o → each_served next s ≡ Ok (with_told ms s, commands_told ms)
told-next s xs next ts ms r o so_far is one made =
    ap (λ (ys : List TokenRequest). each_served ys s) is
    ∙ served-more s xs ts r so_far (option_to_list o) one
    ∙ sym (ap (λ (all : List SentCommand). let a : Answer = Ok (with_told all s, commands_told all) in a) made)

pub nodes-next : (ts ms : List SentCommand) (o : Option SentCommand) → All (λ t. 1 ≤ t.node) ts → IfSome o (λ t. 1 ≤ t.node) → ms ≡ ts ++ option_to_list o → All (λ t. 1 ≤ t.node) ms
nodes-next ts ms None all one made = subst (All (λ (t : SentCommand). 1 ≤ t.node)) (sym (made ∙ append-nil ts)) all
nodes-next ts ms (Some t) all one made = subst (All (λ (x : SentCommand). 1 ≤ x.node)) (sym made) (All-push (λ (x : SentCommand). 1 ≤ x.node) ts t all one)
