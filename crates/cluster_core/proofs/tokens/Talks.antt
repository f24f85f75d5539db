-- The facts that a token server and a node share, for one file: the invariant of their conversation.
use Rattle.std.specs.Prelude.{max}
use Rattle.std.proofs.Common.{◌≡◌, ℕ, ◌+◌, ◌<◌, ◌≤◌, true, false, ◌⊎◌, inl, inr, sym, ◌∙◌, ap, subst, arith, Option, Some, None}
use Rattle.std.proofs.lemmas.Bool.{both_ways}
use Rattle.std.proofs.lemmas.Option.{same_Some}
use Rattle.model.specs.declared.mode.Mode.{Mode}
use Rattle.model.specs.declared.host.Host.{Host}
use Rattle.token_set.specs.rule.Tokens.{Token, no_token, raised, level_conflicts, lowered}
use Rattle.token_set.proofs.ReleaseLaws.{lowering_lowers}
use Rattle.messages.specs.rule.Messages.{host_of, reported}
use Rattle.messages.specs.declared.message.Message.{Message}
use Rattle.messages.specs.declared.message.Message.TheVariants.{Grant, Revoke, Taken, Released, Conflict, Hello, Report}
use Rattle.node_core.specs.rule.State.{FileState}
use Rattle.token_server.specs.rule.Rows.{Row, is_hello, is_awaited, row_conflicts_at}
use Rattle.cluster_core.specs.rule.Numbers.{is_command}
use Rattle.cluster_core.proofs.tokens.Lowering.{IsWithin, within_itself, within_same, within_raised, within_conflicts}

-- the set of messages that were sent
abbrev pub Sent : Type 1
Sent = Message → Type 0

-- the host is the node in that incarnation
abbrev pub IsHostOf : ℕ → ℕ → Host → Type 0
IsHostOf n incarnation h = (h.node ≡ n) × (h.incarnation ≡ incarnation)

-- the message is a command about the file, of that number, to that incarnation of the node; a rebuilt server's question for the token is the first of its epoch
abbrev pub IsCommandTo : ℕ → ℕ → ℕ → ℕ → Message → Type 0
IsCommandTo file n incarnation number (Grant f k call mode span) = (f ≡ file) × (k ≡ number) × (call.node ≡ n) × (call.incarnation ≡ incarnation)
IsCommandTo file n incarnation number (Revoke f k holder call mode wanted) = (f ≡ file) × (k ≡ number) × (holder.node ≡ n) × (holder.incarnation ≡ incarnation)
IsCommandTo file n incarnation number (Hello f k holder) = (f ≡ file) × (k ≡ number) × (holder.node ≡ n) × (holder.incarnation ≡ incarnation)
IsCommandTo file n incarnation number _ = ⊥

-- the message is the answer of that incarnation of the node to a command about the file, of that number
abbrev pub IsAnswerOf : ℕ → ℕ → ℕ → ℕ → Message → Type 0
IsAnswerOf file n incarnation number (Taken f k call) = (f ≡ file) × (k ≡ number) × (call.node ≡ n) × (call.incarnation ≡ incarnation)
IsAnswerOf file n incarnation number (Released f k holder call span) = (f ≡ file) × (k ≡ number) × (holder.node ≡ n) × (holder.incarnation ≡ incarnation)
IsAnswerOf file n incarnation number (Conflict f k holder call lock) = (f ≡ file) × (k ≡ number) × (holder.node ≡ n) × (holder.incarnation ≡ incarnation)
IsAnswerOf file n incarnation number (Report f k holder runs) = (f ≡ file) × (k ≡ number) × (holder.node ≡ n) × (holder.incarnation ≡ incarnation)
IsAnswerOf file n incarnation number _ = ⊥

-- a command is of one file, to one incarnation of a node, and of one number
pub record AreSame (file n i k g m j l : ℕ) : Type 0 where
  pub file_is : file ≡ g
  pub node_is : n ≡ m
  pub incarnation_is : i ≡ j
  pub number_is : k ≡ l

pub same_command : (file n i k g m j l : ℕ) (x : Message) → IsCommandTo file n i k x → IsCommandTo g m j l x → AreSame file n i k g m j l
same_command file n i k g m j l (Grant f number call mode span) a b = record { file_is = sym a.0 ∙ b.0; node_is = sym a.2 ∙ b.2; incarnation_is = sym a.3 ∙ b.3; number_is = sym a.1 ∙ b.1 }
same_command file n i k g m j l (Revoke f number holder call mode wanted) a b = record { file_is = sym a.0 ∙ b.0; node_is = sym a.2 ∙ b.2; incarnation_is = sym a.3 ∙ b.3; number_is = sym a.1 ∙ b.1 }
same_command file n i k g m j l (Hello f number holder) a b = record { file_is = sym a.0 ∙ b.0; node_is = sym a.2 ∙ b.2; incarnation_is = sym a.3 ∙ b.3; number_is = sym a.1 ∙ b.1 }
same_command file n i k g m j l x a b = absurd a

pub same_answer_of : (file n i k g m j l : ℕ) (x : Message) → IsAnswerOf file n i k x → IsAnswerOf g m j l x → AreSame file n i k g m j l
same_answer_of file n i k g m j l (Taken f number call) a b = record { file_is = sym a.0 ∙ b.0; node_is = sym a.2 ∙ b.2; incarnation_is = sym a.3 ∙ b.3; number_is = sym a.1 ∙ b.1 }
same_answer_of file n i k g m j l (Released f number holder call span) a b = record { file_is = sym a.0 ∙ b.0; node_is = sym a.2 ∙ b.2; incarnation_is = sym a.3 ∙ b.3; number_is = sym a.1 ∙ b.1 }
same_answer_of file n i k g m j l (Conflict f number holder call lock) a b = record { file_is = sym a.0 ∙ b.0; node_is = sym a.2 ∙ b.2; incarnation_is = sym a.3 ∙ b.3; number_is = sym a.1 ∙ b.1 }
same_answer_of file n i k g m j l (Report f number holder runs) a b = record { file_is = sym a.0 ∙ b.0; node_is = sym a.2 ∙ b.2; incarnation_is = sym a.3 ∙ b.3; number_is = sym a.1 ∙ b.1 }
same_answer_of file n i k g m j l x a b = absurd a

-- no command is an answer
pub no_answer : (file n i k g m j l : ℕ) (x : Message) → IsCommandTo file n i k x → IsAnswerOf g m j l x → ⊥
no_answer file n i k g m j l (Grant f number call mode span) a b = b
no_answer file n i k g m j l (Revoke f number holder call mode wanted) a b = b
no_answer file n i k g m j l (Hello f number holder) a b = b
no_answer file n i k g m j l x a b = a

-- the host of a command, and of an answer
pub command_host : (file n i k : ℕ) (x : Message) → IsCommandTo file n i k x → IsHostOf n i (host_of x)
command_host file n i k (Grant f number call mode span) a = (a.2, a.3)
command_host file n i k (Revoke f number holder call mode wanted) a = (a.2, a.3)
command_host file n i k (Hello f number holder) a = (a.2, a.3)
command_host file n i k x a = absurd a

pub answer_host : (file n i k : ℕ) (x : Message) → IsAnswerOf file n i k x → IsHostOf n i (host_of x)
answer_host file n i k (Taken f number call) a = (a.2, a.3)
answer_host file n i k (Released f number holder call span) a = (a.2, a.3)
answer_host file n i k (Conflict f number holder call lock) a = (a.2, a.3)
answer_host file n i k (Report f number holder runs) a = (a.2, a.3)
answer_host file n i k x a = absurd a

-- the node's token with a command: a Grant raises it
abbrev pub promised : Token → Message → Token
promised t (Grant file number call mode span) = raised t span mode
promised t _ = t

-- the node's token with a command and its answer: a span that is released for a Revoke is lowered
abbrev pub settled : Token → Message → Message → Token
settled t (Revoke file number holder call mode wanted) (Released f k h c span) = lowered t span mode
settled t _ _ = t

-- the node's state of the file as the server may know it: all of it but whether it owes a Freed
abbrev pub owing_nothing : FileState → FileState
owing_nothing f = record f { owes_freed = false }

-- the server has a row of that incarnation, with a number at least as great
pub record IsCountedIn (row : Option Row) (incarnation number : ℕ) : Type 0 where
  pub counting : Row
  pub there : row ≡ Some counting
  pub of : counting.incarnation ≡ incarnation
  pub up_to : number ≤ counting.number

-- no command is outstanding between the row and the node
pub record IsIdle (begin : ℕ) (f : FileState) (r : Row) : Type 0 where
  pub outstanding : r.outstanding ≡ None
  pub number : r.number ≡ max f.last begin
  pub token : r.token ≡ f.token

-- a command is under way: the row has what the command promises
pub record IsOnTheWay (begin : ℕ) (f : FileState) (r : Row) : Type 0 where
  pub command : Message
  pub outstanding : r.outstanding ≡ Some command
  pub number : r.number ≡ max f.last begin + 1
  pub token : r.token ≡ promised f.token command

-- the command is done, and its answer is under way: the node has what the row will have
pub record IsDone (f : FileState) (r : Row) : Type 0 where
  pub command : Message
  pub outstanding : r.outstanding ≡ Some command
  pub number : r.number ≡ f.last
  pub answer : Message
  pub remembers : f.answer ≡ Some answer
  pub token : f.token ≡ settled r.token command answer

abbrev pub States : ℕ → FileState → Row → Type 0
States begin f r = IsIdle begin f r ⊎ (IsOnTheWay begin f r ⊎ IsDone f r)

-- the server has a row of the node's incarnation, and what the node has not done is of the server's epoch
pub record IsKnown (was : Sent) (file n incarnation : ℕ) (f : FileState) (row : Option Row) (begin : ℕ) : Type 0 where
  pub known : Row
  pub there : row ≡ Some known
  pub of : known.incarnation ≡ incarnation
  pub told : is_hello known.outstanding ≡ false
  pub states : States begin f known
  pub fresh : (k : ℕ) (m : Message) → was m → IsCommandTo file n incarnation k m → f.last < k → begin < k

-- the server has no row of the node, and the node has nothing of the file
pub record IsUnknown (incarnation : ℕ) (f : FileState) (row : Option Row) (begin : ℕ) : Type 0 where
  pub last : f.last ≤ begin
  pub token : f.token ≡ no_token
  pub none : (r : Row) → row ≡ Some r → r.incarnation ≡ incarnation → ⊥

-- the server, which was rebuilt, has asked for the node's token and not heard it: of older epochs the node has at most one command to do, and it has heard of none later
pub record IsAsked (was : Sent) (file n incarnation : ℕ) (f : FileState) (row : Option Row) (begin : ℕ) : Type 0 where
  pub known : Row
  pub there : row ≡ Some known
  pub of : known.incarnation ≡ incarnation
  pub hello : is_hello known.outstanding ≡ true
  pub number : known.number ≡ begin
  pub last : f.last ≤ begin
  pub one : (k l : ℕ) (m x : Message) → was m → was x → is_command m ≡ true → is_command x ≡ true → IsCommandTo file n incarnation k m → IsCommandTo file n incarnation l x → f.last < k → f.last < l → k ≡ l

abbrev pub InStep : Sent → ℕ → ℕ → ℕ → FileState → Option Row → ℕ → Type 0
InStep was file n incarnation f row begin = IsUnknown incarnation f row begin ⊎ (IsKnown was file n incarnation f row begin ⊎ IsAsked was file n incarnation f row begin)

-- the number of numbers in an epoch
abbrev pub in_epoch : ℕ
in_epoch = 4294967296

-- the answer with the number of the last command done: the one that is remembered, or a report of the token
abbrev pub IsLast : FileState → Message → Type 0
IsLast f (Report g k holder runs) = reported runs ≡ f.token
IsLast f m = f.answer ≡ Some m

-- what holds of the messages that were sent, of node n in its incarnation and what it knows of the file, and of the server's row of n, the incarnation of n that it knows as dead, and the number after which its epoch begins
pub record Talk (was : Sent) (file n incarnation : ℕ) (f : FileState) (row : Option Row) (dead begin : ℕ) : Type 0 where
  -- the node's incarnation is not known to be dead
  pub lives : dead < incarnation
  -- a row is of the incarnation after the dead ones
  pub aged : (r : Row) → row ≡ Some r → r.incarnation ≡ dead + 1
  -- the row's incarnation sent a message, or was sent one
  pub named : (r : Row) → row ≡ Some r → (m : Message) × was m × IsHostOf n r.incarnation (host_of m)
  -- the row's number is one of the epoch
  pub numbered : (r : Row) → row ≡ Some r → (begin ≤ r.number) × (r.number < begin + in_epoch)
  -- the row's outstanding command was sent, with the row's number
  pub waits : (r : Row) (m : Message) → row ≡ Some r → r.outstanding ≡ Some m → was m × IsCommandTo file n r.incarnation r.number m
  -- no command has a number above the row's, except those to incarnations known to be dead
  pub counted : (i k : ℕ) (m : Message) → was m → IsCommandTo file n i k m → (1 ≤ k) × ((i ≤ dead) ⊎ IsCountedIn row i k)
  -- no two commands to one incarnation have one number
  pub one_number : (i k : ℕ) (m other : Message) → was m → was other → IsCommandTo file n i k m → IsCommandTo file n i k other → m ≡ other
  -- the row has what the node has, will have once it has done the command that is under way, or had before it answered; or the server waits for the node to tell
  pub in_step : InStep was file n incarnation f row begin
  -- no answer has a number above the last command done, and the one with that number is remembered; a report with it tells the token
  pub answers : (k : ℕ) (m : Message) → was m → IsAnswerOf file n incarnation k m → (k ≤ f.last) × (k ≡ f.last → IsLast f m)
  -- the answer that is remembered was sent, and is that to the last command done
  pub remembered : (m : Message) → f.answer ≡ Some m → was m × (1 ≤ f.last) × IsAnswerOf file n incarnation f.last m

-- a command that the node has not done
pub record IsAhead (was : Sent) (file n incarnation last : ℕ) (command : Message) : Type 0 where
  pub number : ℕ
  pub is : IsCommandTo file n incarnation number command
  pub sent : was command
  pub above : last < number

-- the token is what a command that the node has not done promises
pub record IsPromised (was : Sent) (file n incarnation : ℕ) (f : FileState) (t : Token) : Type 0 where
  pub command : Message
  pub ahead : IsAhead was file n incarnation f.last command
  pub value : t ≡ promised f.token command

-- the token is the node's, or one that it may become by messages that were sent
abbrev pub MayHold : Sent → ℕ → ℕ → ℕ → FileState → Token → Type 0
MayHold was file n incarnation f t = (t ≡ f.token) ⊎ IsPromised was file n incarnation f t

within_promised : (t : Token) (command : Message) → IsWithin t (promised t command)
within_promised t (Grant file number call mode span) = within_raised t span mode
within_promised t m = within_itself t

-- an answer only lowers the token
pub settled_within : (t : Token) (command answer : Message) → IsWithin (settled t command answer) t
settled_within t (Revoke file number holder call mode wanted) (Released f k h c span) = lowering_lowers t span mode
settled_within t command answer = within_itself t

-- the row of a node to which the command is under way
pub record IsUnderWay (incarnation : ℕ) (f : FileState) (row : Option Row) (begin : ℕ) (command : Message) : Type 0 where
  pub known : Row
  pub there : row ≡ Some known
  pub of : known.incarnation ≡ incarnation
  pub outstanding : known.outstanding ≡ Some command
  pub number : known.number ≡ max f.last begin + 1
  pub token : known.token ≡ promised f.token command

module _ (was : Sent) (file n incarnation : ℕ) (f : FileState) (row : Option Row) (dead begin : ℕ) (talk : Talk was file n incarnation f row dead begin) where
  -- a command to the live incarnation is counted
  pub counted_live : (k : ℕ) (m : Message) → was m → IsCommandTo file n incarnation k m → IsCountedIn row incarnation k
  counted_live k m sent to = elim (talk.counted incarnation k m sent to).1 [
    | inl old ↦ let lives = talk.lives in absurd (omega arith)
    | inr counted ↦ counted
  ]

  -- a command ahead of the node is under way, if the server does not wait for a report
  pub on_the_way : IsKnown was file n incarnation f row begin → (command : Message) → IsAhead was file n incarnation f.last command → IsUnderWay incarnation f row begin command
  on_the_way k command a =
      let same : c.counting ≡ k.known = same_Some c.counting k.known (sym c.there ∙ k.there) in
      let up : a.number ≤ k.known.number = subst (λ (x : Row). a.number ≤ x.number) same c.up_to in
      let above = a.above in
      let later = k.fresh a.number command a.sent a.is a.above in
      elim k.states [
        | inl i ↦ let number = i.number in absurd (omega arith)
        | inr other ↦ elim other [
          | inl w ↦
              let number = w.number in
              let is : k.known.number ≡ a.number = omega arith in
              let first = talk.waits k.known w.command k.there w.outstanding in
              let to : IsCommandTo file n incarnation a.number w.command = subst (λ (i : ℕ). IsCommandTo file n incarnation i w.command) is (subst (λ (i : ℕ). IsCommandTo file n i k.known.number w.command) k.of first.1) in
              let one = talk.one_number incarnation a.number w.command command first.0 a.sent to a.is in
              record {
                known = k.known;
                there = k.there;
                of = k.of;
                outstanding = w.outstanding ∙ ap (λ (m : Message). Some m) one;
                number = w.number;
                token = w.token ∙ ap (promised f.token) one;
              }
          | inr d ↦ let number = d.number in absurd (omega arith)
        ]
      ]
    where
      c : IsCountedIn row incarnation a.number
      c = counted_live a.number command a.sent a.is

  own_within : (r : Row) → States begin f r → IsWithin f.token r.token
  own_within r states = elim states [
    | inl i ↦ within_same f.token r.token (sym i.token)
    | inr other ↦ elim other [
      | inl w ↦ subst (IsWithin f.token) (sym w.token) (within_promised f.token w.command)
      | inr d ↦ subst (λ (t : Token). IsWithin t r.token) (sym d.token) (settled_within r.token d.command d.answer)
    ]
  ]

  in_row : (r : Row) (t : Token) (b : ℕ) (mode : Mode) → row ≡ Some r → IsWithin t r.token → level_conflicts (t b) mode ≡ true → row_conflicts_at row b mode ≡ true
  in_row r t b mode there low h = ap (λ (x : Option Row). row_conflicts_at x b mode) there ∙ within_conflicts t r.token b mode low h

  known_held : IsKnown was file n incarnation f row begin → (t : Token) (b : ℕ) (mode : Mode) → MayHold was file n incarnation f t → level_conflicts (t b) mode ≡ true → row_conflicts_at row b mode ≡ true
  known_held k t b mode (inl same) h = in_row k.known t b mode k.there (subst (λ (x : Token). IsWithin x k.known.token) (sym same) (own_within k.known k.states)) h
  known_held k t b mode (inr p) h =
      let w = on_the_way k p.command p.ahead in
      in_row w.known t b mode w.there (within_same t w.known.token (p.value ∙ sym w.token)) h

  unknown_held : IsUnknown incarnation f row begin → (t : Token) (b : ℕ) (mode : Mode) → MayHold was file n incarnation f t → level_conflicts (t b) mode ≡ true → row_conflicts_at row b mode ≡ true
  unknown_held u t b mode (inl same) h = let free : false ≡ true = ap (λ (x : Token). level_conflicts (x b) mode) (sym (same ∙ u.token)) ∙ h in absurd (cc)
  unknown_held u t b mode (inr p) h =
      let a = p.ahead in
      let c = counted_live a.number p.command a.sent a.is in
      absurd (u.none c.counting c.there c.of)

  -- a token that the node may hold conflicts with a mode only where its row does, after the node reported its token
  pub held : is_awaited row ≡ false → (t : Token) (b : ℕ) (mode : Mode) → MayHold was file n incarnation f t → level_conflicts (t b) mode ≡ true → row_conflicts_at row b mode ≡ true
  held heard t b mode may h = elim talk.in_step [
    | inl u ↦ unknown_held u t b mode may h
    | inr other ↦ elim other [
      | inl k ↦ known_held k t b mode may h
      | inr a ↦ absurd (both_ways (is_awaited row) heard (ap is_awaited a.there ∙ a.hello))
    ]
  ]
