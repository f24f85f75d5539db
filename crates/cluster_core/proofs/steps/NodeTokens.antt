-- What a node's step does to its tokens, and the messages that it sends.
use Rattle.std.specs.Prelude.{◌==◌}
use Rattle.std.specs.List.{filter_map, cons_option, list_any}
use Rattle.std.proofs.Common.{◌≡◌, ℕ, ◌+◌, Bool, true, false, if◌then◌else◌, ◌||◌, ◌⊎◌, inl, inr, refl, sym, ◌∙◌, ap, subst, List, [], ◌∷◌, ◌++◌, All, Option, Some, None, Result, Ok, Err}
use Rattle.std.proofs.lemmas.Bool.{or_cases, or_left, or_right, false≢true}
use Rattle.std.proofs.lemmas.List.Elements.{All-nil, All-cons, All-head, All-tail}
use Rattle.intervals.specs.rule.Bytes.{Range}
use Rattle.model.specs.declared.call.CallId.{CallId}
use Rattle.model.specs.declared.host.Host.{Host}
use Rattle.model.specs.declared.lock_info.LockInfo.{LockInfo}
use Rattle.model.specs.declared.mode.Mode.{Mode}
use Rattle.model.specs.declared.op.Op.{Op}
use Rattle.model.specs.declared.op.Op.TheVariants as op
use Rattle.model.specs.declared.reply.Reply.{Reply}
use Rattle.model.specs.rule.Locks.{lowest_blocker}
use Rattle.model.specs.rule.Descriptors.{is_of_file, has_open}
use Rattle.model.specs.rule.Table.{Table, LockTarget, around, descriptor, target, call_target, lock_within, after_close, after_exit}
use Rattle.token_set.specs.rule.Tokens.{Token, covers, raised, gave_up, after_giving_up}
use Rattle.token_set.specs.declared.gave_up.GaveUp.{GaveUp}
use Rattle.token_set.specs.declared.gave_up.GaveUp.TheVariants as gives
use Rattle.messages.specs.rule.TokenRuns.{Wants}
use Rattle.messages.specs.declared.message.Message.{Message}
use Rattle.messages.specs.declared.message.Message.TheVariants.{Request, Grant, Revoke, Taken, Freed}
use Rattle.messages.specs.rule.Messages.{same_message, is_among, host_of}
use Rattle.messages.proofs.SameMessages.{same_message-is-equality}
use Rattle.model.specs.declared.op.LockCommand.{LockCommand}
use Rattle.model.specs.declared.op.LockCommand.TheVariants as lock_command
use Rattle.node_core.specs.declared.open_call.OpenCall.{OpenCall}
use Rattle.node_core.specs.rule.State.{FileState, NodeState, Effect, quiet, answered, without_call_of, host, open_call, process, target_of}
use Rattle.node_core.specs.rule.Try.{settled as after_settling, may_free, with_freed, locked_by, answered_here, refusal_of, answered_if, tried, tried_against, tried_if, requested}
use Rattle.node_core.specs.rule.Calls.{lock_call, unlock_call, called, shut_by}
use Rattle.node_core.specs.rule.Commands.{granted, revoked, answer_to, is_conflict, after_command, in_order, denied, remembered}
use Rattle.node_core.specs.rule.Interrupts.{interruption_of, interrupted}
use Rattle.cluster_core.proofs.common.Choices.{if_either, at_number}
use Rattle.cluster_core.proofs.steps.KnownMessages.{sent_either}
use Rattle.cluster_core.proofs.steps.NodeSteps.{in_order_either, shut_keeps}
use Rattle.cluster_core.proofs.tokens.Talks.{settled, IsHostOf, IsCommandTo, IsAnswerOf, owing_nothing}
use Rattle.cluster_core.proofs.tokens.TalkMoves.{done_file, is_answer, IsOfKind}

-- P holds of each of the messages
abbrev pub Only : (Message → Type 0) → List Message → Type 0
Only P messages = (m : Message) → is_among messages m ≡ true → P m

pub only_none : (P : Message → Type 0) → Only P []
only_none P m there = absurd (cc)

pub only_more : (P : Message → Type 0) (x : Message) (xs : List Message) → P x → Only P xs → Only P (x ∷ xs)
only_more P x xs here rest m there = elim (or_cases (same_message m x) (is_among xs m) there) [
  | inl same ↦ subst P (sym ((same_message-is-equality m x).0 same)) here
  | inr later ↦ rest m later
]

pub only_one : (P : Message → Type 0) (x : Message) → P x → Only P (x ∷ [])
only_one P x here = only_more P x [] here (only_none P)

pub only_both : (P : Message → Type 0) (xs ys : List Message) → Only P xs → Only P ys → Only P (xs ++ ys)
only_both P xs ys first rest m there = elim (sent_either xs ys m there) [ inl here ↦ first m here | inr later ↦ rest m later ]

-- P holds of each message that a list of numbers gives
pub only_mapped : (P : Message → Type 0) (f : ℕ → Option Message) (ns : List ℕ) → ((n : ℕ) (m : Message) → f n ≡ Some m → P m) → Only P (filter_map f ns)
only_mapped P f [] each = only_none P
only_mapped P f (n ∷ ns) each = elim (f n) as (λ o. f n ≡ o → Only P (cons_option o (filter_map f ns))) [
  | None ↦ λ none. only_mapped P f ns each
  | Some m ↦ λ is. only_more P m (filter_map f ns) (each n m is) (only_mapped P f ns each)
] refl

-- P holds of all messages exactly if it holds of each that is among them
pub all_among : (P : Message → Type 0) (ms : List Message) (m : Message) → All P ms → is_among ms m ≡ true → P m
all_among P [] m all h = absurd (false≢true h)
all_among P (x ∷ xs) m all h =
    elim (same_message m x) as (λ b. same_message m x ≡ b → (b || list_any (same_message m) xs) ≡ true → P m) [
      | true ↦ λ same here. subst P (sym ((same_message-is-equality m x).0 same)) (All-head P x xs all)
      | false ↦ λ other here. all_among P xs m (All-tail P x xs all) here
    ] refl h

pub first_among : (x : Message) (xs : List Message) → is_among (x ∷ xs) x ≡ true
first_among x xs = or_left (same_message x x) (is_among xs x) ((same_message-is-equality x x).1 refl)

pub only_all : (P : Message → Type 0) (ms : List Message) → Only P ms → All P ms
only_all P [] each = All-nil P
only_all P (x ∷ xs) each = All-cons P x xs (each x (first_among x xs)) (only_all P xs (λ m there. each m (or_right (same_message m x) (is_among xs m) there)))

-- the message is a request or a Freed of the node in that incarnation
abbrev pub IsAsking : ℕ → ℕ → Message → Type 0
IsAsking n incarnation (Request file call blocking mode wanted) = (call.node ≡ n) × (call.incarnation ≡ incarnation)
IsAsking n incarnation (Freed file holder) = (holder.node ≡ n) × (holder.incarnation ≡ incarnation)
IsAsking n incarnation _ = ⊥

-- a request or a Freed is of its node and incarnation, and neither a command nor an answer
pub asking_host : (n incarnation : ℕ) (m : Message) → IsAsking n incarnation m → IsHostOf n incarnation (host_of m)
asking_host n incarnation (Request file call blocking mode wanted) is = is
asking_host n incarnation (Freed file holder) is = is
asking_host n incarnation m is = absurd is

pub asking_command : (n incarnation file to i k : ℕ) (m : Message) → IsAsking n incarnation m → IsCommandTo file to i k m → ⊥
asking_command n incarnation file to i k (Request f call blocking mode wanted) is command = command
asking_command n incarnation file to i k (Freed f holder) is command = command
asking_command n incarnation file to i k m is command = is

pub asking_answer : (n incarnation file of i k : ℕ) (m : Message) → IsAsking n incarnation m → IsAnswerOf file of i k m → ⊥
asking_answer n incarnation file of i k (Request f call blocking mode wanted) is answer = answer
asking_answer n incarnation file of i k (Freed f holder) is answer = answer
asking_answer n incarnation file of i k m is answer = is

-- the node goes on with these tokens, and sends requests and Freed alone
pub record Asks (node incarnation : ℕ) (files : ℕ → FileState) (e : Effect) : Type 0 where
  pub node_is : e.state.node ≡ node
  pub incarnation_is : e.state.incarnation ≡ incarnation
  pub files_are : (file : ℕ) → owing_nothing (e.state.files file) ≡ owing_nothing (files file)
  pub sends : Only (IsAsking node incarnation) e.sends

abbrev pub AsksFrom : NodeState → Effect → Type 0
AsksFrom s e = Asks s.node s.incarnation s.files e

-- a step that sends nothing
says_nothing : (s : NodeState) (e : Effect) → e.state.node ≡ s.node → e.state.incarnation ≡ s.incarnation → ((file : ℕ) → owing_nothing (e.state.files file) ≡ owing_nothing (s.files file)) → e.sends ≡ [] → AsksFrom s e
says_nothing s e node incarnation files none = record {
  node_is = node;
  incarnation_is = incarnation;
  files_are = files;
  sends = subst (Only (IsAsking s.node s.incarnation)) (sym none) (only_none (IsAsking s.node s.incarnation));
}

pub quiet_asks : (s : NodeState) → AsksFrom s (quiet s)
quiet_asks s = says_nothing s (quiet s) refl refl (λ file. refl) refl

answered_asks : (s : NodeState) (number : ℕ) (reply : Reply) → AsksFrom s (answered s number reply)
answered_asks s number reply = says_nothing s (answered s number reply) refl refl (λ file. refl) refl

-- a step with one Freed more
with_freed_asks : (s : NodeState) (file : ℕ) (e : Effect) → AsksFrom s e → AsksFrom s (with_freed file e)
with_freed_asks s file e asks = elim ((e.state.files file).owes_freed) as (λ b. AsksFrom s (told b)) [ true ↦ tells | false ↦ asks ]
  where
    tell : Effect
    tell = record {
      state = record e.state { files = λ f. if f == file then record (e.state.files file) { owes_freed = false } else e.state.files f };
      reply = e.reply;
      sends = e.sends ++ Freed file (host e.state) ∷ [];
    }

    told : Bool → Effect
    told b = if b then tell else e

    tells : AsksFrom s tell
    tells = record {
      node_is = asks.node_is;
      incarnation_is = asks.incarnation_is;
      files_are = λ f. at_number f file (λ b. owing_nothing (if b then record (e.state.files file) { owes_freed = false } else e.state.files f) ≡ owing_nothing (s.files f))
          (λ same. subst (λ (k : ℕ). owing_nothing (e.state.files file) ≡ owing_nothing (s.files k)) (sym same) (asks.files_are file))
          (λ other. asks.files_are f);
      sends = only_both (IsAsking s.node s.incarnation) e.sends (Freed file (host e.state) ∷ []) asks.sends (only_one (IsAsking s.node s.incarnation) (Freed file (host e.state)) (asks.node_is, asks.incarnation_is));
    }

-- bytes are locked or freed
locked_by_asks : (s : NodeState) (number : ℕ) (about : LockTarget) (mode : Option Mode) → AsksFrom s (locked_by s number about mode)
locked_by_asks s number about mode =
    let answer = lock_within s.table about mode in
    let e = after_settling s number answer in
    let plain : AsksFrom s e = says_nothing s e refl refl (λ file. refl) refl in
    if_either (AsksFrom s) (may_free mode answer.1) (with_freed about.file e) e (with_freed_asks s about.file e plain) plain

requested_asks : (s : NodeState) (c : OpenCall) → AsksFrom s (requested s c)
requested_asks s c = record { node_is = refl; incarnation_is = refl; files_are = λ file. refl; sends = only_one (IsAsking s.node s.incarnation) _ (refl, refl) }

answered_here_asks : (s : NodeState) (c : OpenCall) (i : LockCommand) → AsksFrom s (answered_here s c i)
answered_here_asks s c lock_command.Set = locked_by_asks s c.number (target_of c) (Some c.mode)
answered_here_asks s c lock_command.Wait = locked_by_asks s c.number (target_of c) (Some c.mode)
answered_here_asks s c lock_command.Query = says_nothing s _ refl refl (λ file. refl) refl

answered_if_asks : (s : NodeState) (number : ℕ) (o : Option Reply) → AsksFrom s (answered_if s number o)
answered_if_asks s number None = quiet_asks s
answered_if_asks s number (Some reply) = answered_asks s number reply

tried_against_asks : (s : NodeState) (c : OpenCall) (o : Option LockInfo) → AsksFrom s (tried_against s c o)
tried_against_asks s c (Some lock) = answered_if_asks s c.number (refusal_of c.lock_command lock)
tried_against_asks s c None = if_either (AsksFrom s) (covers (s.files c.file).token c.span c.mode) (answered_here s c c.lock_command) (requested s c) (answered_here_asks s c c.lock_command) (requested_asks s c)

-- a try of an open call
pub tried_asks : (s : NodeState) (c : OpenCall) → AsksFrom s (tried s c)
tried_asks s c = tried_against_asks s c (lowest_blocker (s.table.locks c.file) c.owner c.span c.mode)

pub tried_if_asks : (s : NodeState) (o : Option OpenCall) → AsksFrom s (tried_if s o)
tried_if_asks s None = quiet_asks s
tried_if_asks s (Some c) = tried_asks s c

abbrev made : ℕ → ℕ → LockCommand → Mode → LockTarget → OpenCall
made number pid i mode t = record { number = number; pid = pid; lock_command = i; file = t.file; owner = t.owner; mode = mode; span = t.span }

lock_call_asks : (s : NodeState) (number pid : ℕ) (i : LockCommand) (mode : Mode) (r : Result LockTarget Reply) → AsksFrom s (lock_call s number pid i mode r)
lock_call_asks s number pid i mode (Err refusal) = answered_asks s number refusal
lock_call_asks s number pid i mode (Ok t) = tried_asks (record s { pending = s.pending ++ made number pid i mode t ∷ [] }) (made number pid i mode t)

unlock_call_asks : (s : NodeState) (number : ℕ) (r : Result LockTarget Reply) → AsksFrom s (unlock_call s number r)
unlock_call_asks s number (Err refusal) = answered_asks s number refusal
unlock_call_asks s number (Ok t) = locked_by_asks s number t None

-- descriptors are closed
shut_asks : (s : NodeState) (number : ℕ) (passes : ℕ → Bool) (answer : Table × Reply) → AsksFrom s (shut_by s number passes answer)
shut_asks s number passes answer =
    shut_keeps (AsksFrom s) (with_freed_asks s) s number passes answer (says_nothing s (after_settling s number answer) refl refl (λ file. refl) refl)

-- a call
pub called_asks : (s : NodeState) (number pid : ℕ) (op : Op) → AsksFrom s (called s number pid op)
called_asks s number pid (op.Process call) = says_nothing s _ refl refl (λ file. refl) refl
called_asks s number pid (op.Close fd) = shut_asks s number (λ file. is_of_file file (descriptor s.table (process s pid) fd)) (after_close s.table (process s pid) fd)
called_asks s number pid op.Exit =
    let a = shut_asks (without_call_of s pid) number (has_open (around s.table (process s pid)) pid) (after_exit s.table (process s pid)) in
    record { node_is = a.node_is; incarnation_is = a.incarnation_is; files_are = a.files_are; sends = a.sends }
called_asks s number pid (op.Lock call) = lock_call_asks s number pid call.command call.mode (call_target s.table (process s pid) call)
called_asks s number pid (op.Unlock fd kind start len) = unlock_call_asks s number (target s.table (process s pid) None fd kind start len)

-- a call is denied
pub denied_asks : (s : NodeState) (lock : LockInfo) (o : Option OpenCall) → AsksFrom s (denied s lock o)
denied_asks s lock None = quiet_asks s
denied_asks s lock (Some c) = answered_if_asks s c.number (refusal_of c.lock_command lock)

-- a wait is interrupted
pub interrupted_asks : (s : NodeState) (o : Option OpenCall) → AsksFrom s (interrupted s o)
interrupted_asks s None = quiet_asks s
interrupted_asks s (Some c) = answered_if_asks s c.number (interruption_of c.lock_command)

-- the step sends an answer again that the node remembers
pub record Repeats (s : NodeState) (e : Effect) : Type 0 where
  pub file : ℕ
  pub answer : Message
  pub there : (s.files file).answer ≡ Some answer
  pub state : e.state ≡ s
  pub sends : Only (λ m. m ≡ answer) e.sends

-- the node does the next command about a file, and answers it
pub record Does (s : NodeState) (file number : ℕ) (command : Message) (e : Effect) : Type 0 where
  pub answer : Message
  pub answers_it : is_answer answer ≡ true
  pub of : IsAnswerOf file s.node s.incarnation number answer
  pub kind : IsOfKind command answer
  pub is_next : number ≡ (s.files file).last + 1
  pub node_is : e.state.node ≡ s.node
  pub incarnation_is : e.state.incarnation ≡ s.incarnation
  pub files_are : (f : ℕ) → owing_nothing (e.state.files f) ≡ (if f == file then done_file (s.files file) number command answer else owing_nothing (s.files f))
  pub sends : Only (λ m. (m ≡ answer) ⊎ IsAsking s.node s.incarnation m) e.sends
  pub told : is_among e.sends answer ≡ true

-- the step of a command: it is done, its answer is sent again, or nothing happens
abbrev pub Receives : NodeState → ℕ → ℕ → Message → Effect → Type 0
Receives s file number command e = Does s file number command e ⊎ (Repeats s e ⊎ AsksFrom s e)

owing_nothing_if : (b : Bool) (x y : FileState) → owing_nothing (if b then x else y) ≡ (if b then owing_nothing x else owing_nothing y)
owing_nothing_if true x y = refl
owing_nothing_if false x y = refl

granted_does : (s : NodeState) (file number : ℕ) (call : CallId) (mode : Mode) (span : Range) → call.node ≡ s.node → call.incarnation ≡ s.incarnation → number ≡ (s.files file).last + 1 → Does s file number (Grant file number call mode span) (granted s file number call mode span)
granted_does s file number call mode span node incarnation is_next =
    let f = s.files file in
    let answer = Taken file number call in
    let next = after_command s file (raised f.token span mode) number answer f.owes_freed in
    let effect = tried_if next (open_call next call.number) in
    let asks = tried_if_asks next (open_call next call.number) in
    let P : Message → Type 0 = λ m. (m ≡ answer) ⊎ IsAsking s.node s.incarnation m in
    record {
      answer = answer;
      answers_it = refl;
      of = (refl, refl, node, incarnation);
      kind = refl;
      is_next = is_next;
      node_is = asks.node_is;
      incarnation_is = asks.incarnation_is;
      files_are = λ g. asks.files_are g ∙ owing_nothing_if (g == file) (record { token = raised f.token span mode; last = number; answer = Some answer; owes_freed = f.owes_freed }) (s.files g);
      sends = only_more P answer effect.sends (inl refl) (λ m there. inr (asks.sends m there));
      told = first_among answer effect.sends;
    }

-- the answer says what the node gives up
answer_is : (s : NodeState) (file number : ℕ) (call : CallId) (up : GaveUp) → IsAnswerOf file s.node s.incarnation number (answer_to file number (host s) call up)
answer_is s file number call (gives.Released span) = (refl, refl, refl, refl)
answer_is s file number call (gives.Conflict lock) = (refl, refl, refl, refl)

answers_revoke : (file number : ℕ) (h : Host) (call : CallId) (up : GaveUp) → is_answer (answer_to file number h call up) ≡ true
answers_revoke file number h call (gives.Released span) = refl
answers_revoke file number h call (gives.Conflict lock) = refl

kind_is : (file number : ℕ) (holder own : Host) (call : CallId) (mode : Mode) (wanted : Wants) (up : GaveUp) → IsOfKind (Revoke file number holder call mode wanted) (answer_to file number own call up)
kind_is file number holder own call mode wanted (gives.Released span) = refl
kind_is file number holder own call mode wanted (gives.Conflict lock) = refl

given_up : (t : Token) (file number : ℕ) (holder own : Host) (call : CallId) (mode : Mode) (wanted : Wants) (up : GaveUp) → after_giving_up t mode up ≡ settled t (Revoke file number holder call mode wanted) (answer_to file number own call up)
given_up t file number holder own call mode wanted (gives.Released span) = refl
given_up t file number holder own call mode wanted (gives.Conflict lock) = refl

revoked_does : (s : NodeState) (file number : ℕ) (holder : Host) (call : CallId) (mode : Mode) (wanted : Wants) → number ≡ (s.files file).last + 1 → Does s file number (Revoke file number holder call mode wanted) (revoked s file number call mode wanted)
revoked_does s file number holder call mode wanted is_next =
    let up = gave_up (s.table.locks file) s.node s.incarnation mode wanted.required wanted.desired in
    let answer = answer_to file number (host s) call up in
    record {
      answer = answer;
      answers_it = answers_revoke file number (host s) call up;
      of = answer_is s file number call up;
      kind = kind_is file number holder (host s) call mode wanted up;
      is_next = is_next;
      node_is = refl;
      incarnation_is = refl;
      files_are = λ g.
          owing_nothing_if (g == file) (record { token = after_giving_up (s.files file).token mode up; last = number; answer = Some answer; owes_freed = is_conflict up || (s.files file).owes_freed }) (s.files g)
          ∙ ap (λ (t : Token). if g == file then record { token = t; last = number; answer = Some answer; owes_freed = false } else owing_nothing (s.files g)) (given_up (s.files file).token file number holder (host s) call mode wanted up);
      sends = only_one (λ m. (m ≡ answer) ⊎ IsAsking s.node s.incarnation m) answer (inl refl);
      told = first_among answer [];
    }

remembered_repeats : (s : NodeState) (file : ℕ) (answer : Option Message) → (s.files file).answer ≡ answer → Repeats s (remembered s answer) ⊎ AsksFrom s (remembered s answer)
remembered_repeats s file None is = inr (quiet_asks s)
remembered_repeats s file (Some m) is = inl (record { file = file; answer = m; there = is; state = refl; sends = only_one (λ x. x ≡ m) m refl })

-- commands are done in the order of their numbers
in_order_receives : (s : NodeState) (file number : ℕ) (command : Message) (e : Effect) → (number ≡ (s.files file).last + 1 → Does s file number command e) → Receives s file number command (in_order s file number e)
in_order_receives s file number command e does =
    in_order_either (Receives s file number command) s file number e (λ is. inl (does is)) (inr (remembered_repeats s file (s.files file).answer refl)) (inr (inr (quiet_asks s)))

-- a Grant that is delivered to the incarnation that it is for
pub grant_receives : (s : NodeState) (file number : ℕ) (call : CallId) (mode : Mode) (span : Range) → call.node ≡ s.node → call.incarnation ≡ s.incarnation → Receives s file number (Grant file number call mode span) (in_order s file number (granted s file number call mode span))
grant_receives s file number call mode span node incarnation =
    in_order_receives s file number (Grant file number call mode span) (granted s file number call mode span) (granted_does s file number call mode span node incarnation)

-- a Revoke that is delivered to the incarnation that it is for
pub revoke_receives : (s : NodeState) (file number : ℕ) (holder : Host) (call : CallId) (mode : Mode) (wanted : Wants) → Receives s file number (Revoke file number holder call mode wanted) (in_order s file number (revoked s file number call mode wanted))
revoke_receives s file number holder call mode wanted =
    in_order_receives s file number (Revoke file number holder call mode wanted) (revoked s file number call mode wanted) (revoked_does s file number holder call mode wanted)
