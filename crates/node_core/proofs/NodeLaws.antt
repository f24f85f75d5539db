-- The parts of a node and the state that they stand for.
use Rattle.std.specs.Prelude.{◌≡◌, ℕ, Bool, false, not, cond, List, [], ◌∷◌, ◌++◌, Some, None, All, filter, find, slice_get, take, ◌+◌, refl, ◌≤◌, ◌&&◌, ◌==◌, true, nat_lt, if◌then◌else◌, Option, Result, Ok, Err, IfOk, IfSome, MatchOption, length, zero, suc, ◌<◌, map}
use Rattle.std.proofs.Common.{ap, sym, ◌∙◌, arith, subst}
use Rattle.std.proofs.lemmas.List.{take_more}
use Rattle.std.proofs.lemmas.List.Elements.{All-head, All-tail, All-nil}
use Rattle.std.proofs.lemmas.Option.{slice_get_within, get_or_from_slice_get, slice_get_past}
use Rattle.node_core.specs.declared.open_call.OpenCall.{OpenCall}
use Rattle.std.proofs.lemmas.Bool.{and_from, eq-eqb}
use Rattle.std.proofs.lemmas.Bool.Decides.{nat_tests}
use Rattle.intervals.specs.declared.span.SpanError.{SpanError}
use Rattle.intervals.specs.declared.span.SpanError.TheVariants.{Invalid}
use Rattle.intervals.specs.rule.Bytes.{Range, greatest, whole, IsRun}
use Rattle.model.specs.declared.mode.Mode.{Mode}
use Rattle.model.specs.declared.access.Access.{Access}
use Rattle.model.specs.declared.owner.Kind.{Kind}
use Rattle.model.specs.declared.owner.Kind.TheVariants.{OfProcess}
use Rattle.model.specs.declared.opened.Opened.{Opened}
use Rattle.model.specs.declared.reply.Reply.{Reply}
use Rattle.model.specs.declared.reply.Reply.TheVariants.{Done, Fd}
use Rattle.model.specs.declared.reply.Reply.TheVariants as reply
use Rattle.model.specs.rule.Limits.{IsNumber, most_processes, most_descriptors}
use Rattle.model.specs.declared.lock_info.LockInfo.{LockInfo}
use Rattle.model.specs.declared.policy.Policy.{Policy}
use Rattle.model.specs.declared.policy.Policy.TheVariants.{Wide, Exact}
use Rattle.model.specs.rule.Locks.{no_locks, IsFree, IsLowestBlocker, lowest_blocker, IsRegion, IsOfNode}
use Rattle.model.proofs.BlockerLaws.{is_lowest_blocker}
use Rattle.model.specs.rule.Descriptors.{Processes, after, no_processes, with_descriptor, lowest_fd, lowest_description, after_open, after_spawn, with_process, after_fork, after_dup, again_on}
use Rattle.model.specs.rule.Table.{LockTarget, around, beside, with_processes, target_at}
use Rattle.lock_table.specs.code.Rows.{IsSameTable}
use Rattle.lock_table.specs.rule.Tables.{TableParts, held}
use Rattle.messages.specs.rule.Shapes.{most_regions, ShapeFields}
use Rattle.token_set.specs.rule.Tokens.{Token, desired, holds_nothing, no_token, IsRevocable, IsGivenUp, gave_up}
use Rattle.token_set.specs.declared.gave_up.GaveUp.{GaveUp}
use Rattle.token_set.proofs.ReleaseLaws.{gave_up_is_one}
use Rattle.descriptors.specs.declared.process_entry.ProcessEntry.{ProcessEntry}
use Rattle.descriptors.specs.declared.error.FdError.{FdError}
use Rattle.node_core.specs.declared.file_row.FileRow.{FileRow}
use Rattle.node_core.specs.rule.State.{NodeState, first_file, first_node, host, process, FileState}
use Rattle.descriptors.specs.code.Rows.{resolved, fd_reply}
use Rattle.descriptors.specs.rule.Rows.{processes}
use Rattle.fcntl_table.proofs.TableLaws.{target_in, target-err, target-ok, resolved_ok}
use Rattle.node_core.specs.rule.Files.{file_state, state_or}
use Rattle.node_core.specs.rule.Parts.{NodeParts, node_state, IsOwnCall, IsNode}
use Rattle.descriptors.specs.declared.edit.ProcessEdit.{ProcessEdit}
use Rattle.descriptors.specs.code.Edits.{edited, Fits as ProcessFits}
use Rattle.model.specs.declared.op.Op.TheVariants.{Process}
use Rattle.model.specs.declared.op.ProcessCall.{ProcessCall}
use Rattle.model.specs.declared.op.ProcessCall.TheVariants.{Spawn, Fork, Open, Dup}
use Rattle.model.specs.rule.Step.{IsPossible}
use Rattle.messages.specs.rule.Messages.{is_within, runs_of}
use Rattle.node_core.specs.rule.Calls.{is_in_shape}
use Rattle.node_core.specs.code.Plans.{table_after, TableFits}
use Rattle.node_core.specs.declared.node_edit.NodeTableEdit.TheVariants.{OfProcess as OfProcessEdit}
use Rattle.model.specs.declared.level.Level.{Level}
use Rattle.model.specs.rule.Anchors.{IsAnchored}
use Rattle.messages.specs.rule.TokenRuns.{run_of, are_longest}
use Rattle.messages.proofs.Reports.{lists_runs_of, runs_of-longest}
use Rattle.token_set.specs.code.Sets.{ListsRuns}

-- a search of the calls for one that none is finds none
pub find-absent : (P : OpenCall → Type 0) (test : OpenCall → Bool) → ((c : OpenCall) → P c → test c ≡ false) → (cs : List OpenCall) → All P cs → find test cs ≡ None
find-absent P test fails [] all = refl
find-absent P test fails (c ∷ cs) all = (λ i. cond (fails c (All-head P c cs all) i) (Some c) (find test cs)) ∙ find-absent P test fails cs (All-tail P c cs all)

-- a filter that drops a call that none is leaves all calls
pub filter-absent : (P : OpenCall → Type 0) (test : OpenCall → Bool) → ((c : OpenCall) → P c → test c ≡ false) → (cs : List OpenCall) → All P cs → filter (λ c. not (test c)) cs ≡ cs
filter-absent P test fails [] all = refl
filter-absent P test fails (c ∷ cs) all =
    (λ i. cond (not (fails c (All-head P c cs all) i)) (c ∷ filter (λ d. not (test d)) cs) (filter (λ d. not (test d)) cs))
    ∙ ap (λ ds. c ∷ ds) (filter-absent P test fails cs (All-tail P c cs all))

-- two lists that agree up to a place agree up to the next one if they agree there
pub same-next : {X : Type 0} (xs ys : List X) (i : ℕ) (x : X) → slice_get xs i ≡ Some x → slice_get ys i ≡ Some x → take i xs ≡ take i ys → take (i + 1) xs ≡ take (i + 1) ys
same-next xs ys i x here there same =
    take_more xs i x (slice_get_within xs i x here)
    ∙ (λ j. same j ++ (get_or_from_slice_get xs i x x here ∙ sym (get_or_from_slice_get ys i x x there)) j ∷ [])
    ∙ sym (take_more ys i x (slice_get_within ys i x there))

-- a node's own numbers pass the test for them
own_host : (node incarnation : ℕ) → ((node == node) && (incarnation == incarnation)) ≡ true
own_host node incarnation = and_from _ _ (eq-eqb node node refl) (eq-eqb incarnation incarnation refl)

pub if-both : {A : Type 0} (b : Bool) (x y : A) → x ≡ y → (if b then x else y) ≡ y
if-both true x y e = e
if-both false x y e = refl

pub around-own : (p : NodeParts) (pid : ℕ) → around (node_state p).table (process (node_state p) pid) ≡ processes p.processes
unfolding node_state
around-own p pid = ap (λ b. if b then processes p.processes else no_processes) (own_host p.node p.incarnation)

-- a call that concerns only processes and descriptors is planned as the rule says
pub beside-ok : (p : NodeParts) (pid : ℕ) (e : ProcessEdit) (answer : Reply) (f : Processes → Result (Processes × Reply) Reply) → f (processes p.processes) ≡ Ok (edited (processes p.processes) e, answer) → beside (node_state p).table (process (node_state p) pid) (f (around (node_state p).table (process (node_state p) pid))) ≡ (table_after (host (node_state p)) (node_state p).table (OfProcessEdit e), answer)
beside-ok p pid e answer f is =
    ap (λ x. beside (node_state p).table (process (node_state p) pid) (f x)) (around-own p pid)
    ∙ ap (beside (node_state p).table (process (node_state p) pid)) is
    ∙ sym (ap (λ ps. (with_processes (node_state p).table (process (node_state p) 0) (edited ps e), answer)) (around-own p 0))

pub beside-err : (p : NodeParts) (pid : ℕ) (refusal : Reply) (f : Processes → Result (Processes × Reply) Reply) → f (processes p.processes) ≡ Err refusal → beside (node_state p).table (process (node_state p) pid) (f (around (node_state p).table (process (node_state p) pid))) ≡ ((node_state p).table, refusal)
beside-err p pid refusal f e =
    ap (λ x. beside (node_state p).table (process (node_state p) pid) (f x)) (around-own p pid)
    ∙ ap (beside (node_state p).table (process (node_state p) pid)) e

-- the state of a node that begins
pub first-state : (shape : ShapeFields) (node incarnation : ℕ) (rows : List ProcessEntry) (locks : TableParts) (files : List FileRow) → processes rows ≡ no_processes → held locks ≡ no_locks → locks.limit ≡ most_regions shape.version → file_state files ≡ (λ file. first_file) → node_state (record { shape = shape; node = node; incarnation = incarnation; calls = 0; processes = rows; locks = locks; pending = []; files = files }) ≡ first_node shape node incarnation
unfolding node_state
first-state shape node incarnation rows locks files none free limit nothing = λ i. record {
  shape = shape;
  node = node;
  incarnation = incarnation;
  calls = 0;
  table = record { limit = limit i; on = λ n k. if-both ((n == node) && (k == incarnation)) (processes rows) no_processes none i; locks = free i };
  pending = [];
  files = nothing i;
}

-- what holds of all open calls holds of one that is found
pub find-own : (P : OpenCall → Type 0) (test : OpenCall → Bool) (calls : List OpenCall) → All P calls → IfSome (find test calls) P
find-own P test [] all = tt
find-own P test (c ∷ calls) all =
    elim (test c) as (λ b. IfSome (if b then Some c else find test calls) P) [ true ↦ All-head P c calls all | false ↦ find-own P test calls (All-tail P c calls all) ]

-- what a process opens is of the file that it named
opened_if : (b : Bool) (o : Option Opened) (p : Opened) (new : Opened) (P : ℕ → Type 0) → P new.file → (o ≡ Some p → P p.file) → (if b then Some new else o) ≡ Some p → P p.file
opened_if true o p new P here there e = let same : new ≡ p = cc in subst (λ (x : Opened). P x.file) same here
opened_if false o p new P here there e = there e

abbrev lowest_if : Bool → Processes → ℕ → Result (Processes × Reply) Reply
lowest_if free ps fd = if free then Ok (ps, Fd fd) else Err reply.TooManyFiles

first_of : (x y : Processes × Reply) → ◌≡◌ {A = Result (Processes × Reply) Reply} (Ok x) (Ok y) → x.0 ≡ y.0
first_of x y e = let same : x ≡ y = cc in ap (λ (z : Processes × Reply). z.0) same

open_if : (runs free : Bool) (ps new : Processes) (fd : ℕ) (told : Reply) → (if runs then lowest_if free ps fd else Err reply.NoProcess) ≡ Ok (new, told) → new ≡ ps
open_if true true ps new fd told e = sym (first_of (ps, Fd fd) (new, told) e)
open_if true false ps new fd told e = absurd (cc)
open_if false free ps new fd told e = absurd (cc)

opened-within : (ps new : Processes) (pid file : ℕ) (told : Reply) (access : Access) (P : ℕ → Type 0) → after_open ps pid file access ≡ Ok (new, told) → P file → ((q k : ℕ) (o : Opened) → ps.opened q k ≡ Some o → P o.file) → (q k : ℕ) (o : Opened) → new.opened q k ≡ Some o → P o.file
opened-within ps new pid file told access P e here there q k o some =
    let made : Opened = record { file = file; description = lowest_description ps; access = access } in
    let is = open_if (ps.runs pid) (nat_lt (lowest_fd ps pid) most_descriptors) (with_descriptor ps pid (lowest_fd ps pid) (Some made)) new (lowest_fd ps pid) told e in
    opened_if ((q == pid) && (k == lowest_fd ps pid)) (ps.opened q k) o made P here (there q k o) (sym (ap (λ (x : Processes). x.opened q k) is) ∙ some)

-- a process that begins has no open descriptor
abbrev begun : Processes → ℕ → Processes × Reply
begun ps pid = (with_process ps pid true (λ fd. None), Done)

abbrev spawn_if : Bool → Processes → ℕ → Result (Processes × Reply) Reply
spawn_if runs ps pid = if runs then Err reply.Exists else Ok (begun ps pid)

spawned-within : (runs : Bool) (ps new : Processes) (pid : ℕ) (told : Reply) (P : Opened → Type 0) → spawn_if runs ps pid ≡ Ok (new, told) → ((q k : ℕ) (o : Opened) → ps.opened q k ≡ Some o → P o) → (q k : ℕ) (o : Opened) → new.opened q k ≡ Some o → P o
spawned-within true ps new pid told P e there q k o some = absurd (cc)
spawned-within false ps new pid told P e there q k o some =
    by (q == pid) (ap (λ (x : Processes). x.opened q k) (first_of (begun ps pid) (new, told) e) ∙ some)
  where
    by : (b : Bool) → (if b then None else ps.opened q k) ≡ Some o → P o
    by true h = absurd (cc)
    by false h = there q k o h

forked_is : (b c : Bool) (x new : Processes) (told : Reply) → ◌≡◌ {A = Result (Processes × Reply) Reply} (if b then (if c then Err reply.Exists else Ok (x, Done)) else Err reply.NoProcess) (Ok (new, told)) → x ≡ new
forked_is true true x new told h = absurd (cc)
forked_is true false x new told h = first_of (x, Done) (new, told) h
forked_is false c x new told h = absurd (cc)

either_open : (b : Bool) (x y : Option Opened) (o : Opened) (P : ℕ → Type 0) → (x ≡ Some o → P o.file) → (y ≡ Some o → P o.file) → (if b then x else y) ≡ Some o → P o.file
either_open true x y o P h k = h
either_open false x y o P h k = k

fork-within : (p : NodeParts) (e : ProcessEdit) (pid child : ℕ) (told : Reply) → after_fork (processes p.processes) pid child ≡ Ok (edited (processes p.processes) e, told) → ProcessFits p.processes e → IsNode p → TableFits p (OfProcessEdit e)
unfolding node_state
fork-within p e pid child told is fits h =
    let ps = processes p.processes in
    let made = forked_is (ps.runs pid) (ps.runs child) (with_process ps child true (ps.opened pid)) (edited ps e) told is in
    (fits, λ q fd o some. either_open (q == child) (ps.opened pid fd) (ps.opened q fd) o (IsNumber p.shape.files) (h.opened_in pid fd o) (h.opened_in q fd o) (ap (λ (x : Processes). x.opened q fd) made ∙ some))

on_is : (b : Bool) (x new : Processes) (j : ℕ) (told : Reply) → ◌≡◌ {A = Result (Processes × Reply) Reply} (if b then Ok (x, Fd j) else Err reply.TooManyFiles) (Ok (new, told)) → x ≡ new
on_is true x new j told h = first_of (x, Fd j) (new, told) h
on_is false x new j told h = absurd (cc)

dup_is : (ps new : Processes) (pid : ℕ) (told : Reply) (b : Bool) (x : Option Opened) → (if b then again_on ps pid x else Err reply.NoProcess) ≡ Ok (new, told) → (o : Opened) × (x ≡ Some o) × (with_descriptor ps pid (lowest_fd ps pid) (Some o) ≡ new)
dup_is ps new pid told true (Some o) h = (o, refl, on_is (nat_lt (lowest_fd ps pid) most_descriptors) (with_descriptor ps pid (lowest_fd ps pid) (Some o)) new (lowest_fd ps pid) told h)
dup_is ps new pid told true None h = absurd (cc)
dup_is ps new pid told false x h = absurd (cc)

dup-within : (p : NodeParts) (e : ProcessEdit) (pid fd : ℕ) (told : Reply) → after_dup (processes p.processes) pid fd ≡ Ok (edited (processes p.processes) e, told) → ProcessFits p.processes e → IsNode p → TableFits p (OfProcessEdit e)
unfolding node_state
dup-within p e pid fd told is fits h =
    let ps = processes p.processes in
    let d = dup_is ps (edited ps e) pid told (ps.runs pid) (ps.opened pid fd) is in
    (fits, λ q k o some. either_open ((q == pid) && (k == lowest_fd ps pid)) (Some d.0) (ps.opened q k) o (IsNumber p.shape.files) (λ same. h.opened_in pid fd o (d.1 ∙ same)) (h.opened_in q k o) (ap (λ (x : Processes). x.opened q k) d.2 ∙ some))

open-within : (p : NodeParts) (e : ProcessEdit) (pid file : ℕ) (told : Reply) (access : Access) → after_open (processes p.processes) pid file access ≡ Ok (edited (processes p.processes) e, told) → IsNumber (node_state p).shape.files file → ProcessFits p.processes e → IsNode p → TableFits p (OfProcessEdit e)
unfolding node_state
open-within p e pid file told access is within fits h =
    (fits, opened-within (processes p.processes) (edited (processes p.processes) e) pid file told access (IsNumber p.shape.files) is within h.opened_in)

spawn-within : (p : NodeParts) (e : ProcessEdit) (pid : ℕ) (told : Reply) → after_spawn (processes p.processes) pid ≡ Ok (edited (processes p.processes) e, told) → ProcessFits p.processes e → IsNode p → TableFits p (OfProcessEdit e)
unfolding node_state
spawn-within p e pid told is fits h =
    (fits, λ q fd o some. spawned-within ((processes p.processes).runs pid) (processes p.processes) (edited (processes p.processes) e) pid told (λ o. IsNumber p.shape.files o.file) is h.opened_in q fd o some)

pub within : (most n : ℕ) → is_within most n ≡ true → IsNumber most n
within most n h = (grind (arith, nat_tests, h), grind (arith, nat_tests, h))

-- a process that the call names has a number that a process can have
pub possible_call : (shape : ShapeFields) (call : ProcessCall) → is_in_shape shape (Process call) ≡ true → IsPossible (Process call)
possible_call shape (Fork child) known = within most_processes child known
possible_call shape _ known = tt

-- what refers to a file of the shape goes on so after each call
pub call-within : (p : NodeParts) (e : ProcessEdit) (pid : ℕ) (call : ProcessCall) (reply : Reply) → after (processes p.processes) pid call ≡ Ok (edited (processes p.processes) e, reply) → is_in_shape (node_state p).shape (Process call) ≡ true → ProcessFits p.processes e → IsNode p → TableFits p (OfProcessEdit e)
call-within p e pid Spawn reply is known fits h = spawn-within p e pid reply is fits h
call-within p e pid (Fork child) reply is known fits h = fork-within p e pid child reply is fits h
call-within p e pid (Open file access) reply is known fits h = open-within p e pid file reply access is (within (node_state p).shape.files file known) fits h
call-within p e pid (Dup fd) reply is known fits h = dup-within p e pid fd reply is fits h

-- the desired range contains the required one
pub desired-ends : (policy : Policy) (t : Token) (s : Range) → s.hi ≤ greatest → s.hi ≤ (desired policy t s).hi
desired-ends Exact t s h = omega arith
desired-ends Wide t s h = elim (holds_nothing t) as (λ b. s.hi ≤ (if b then whole else record { lo = s.lo; hi = greatest }).hi) [ true ↦ h | false ↦ h ]

-- a file of the shape has a row
pub file-within : (p : NodeParts) (file : ℕ) → IsNumber (node_state p).shape.files file → IsNode p → IsNumber (length p.files) file
unfolding node_state
file-within p file h is = subst (λ n. IsNumber n file) (sym is.files_in) h

pub file-state : (p : NodeParts) (file : ℕ) → file_state p.files file ≡ (node_state p).files file
unfolding node_state
file-state p file = refl

-- the lowest lock that blocks a call of the node
pub node-blocker : (p : NodeParts) (c : OpenCall) (r : Option LockInfo) → IsOwnCall (node_state p).shape.files (node_state p).node (node_state p).incarnation c → IsNode p → MatchOption r (IsFree (held p.locks c.file) c.owner c.span c.mode) (λ lock. IsLowestBlocker (held p.locks c.file) c.owner c.span c.mode lock) → r ≡ lowest_blocker ((node_state p).table.locks c.file) c.owner c.span c.mode
unfolding node_state
node-blocker p c r own is x =
    let of_node : IsOfNode (held p.locks c.file) c.owner.node p.incarnation = subst (λ n. IsOfNode (held p.locks c.file) n p.incarnation) (sym own.own.of_node) (is.anchored.own.locks c.file) in
    let of_host : IsOfNode (held p.locks c.file) c.owner.node c.owner.incarnation = subst (λ n. IsOfNode (held p.locks c.file) c.owner.node n) (sym own.own.of_incarnation) of_node in
    is_lowest_blocker (held p.locks c.file) c.owner c.span c.mode r of_host own.span.ordered own.span.ends x

-- the answer to a revoke, by the regions of the node's locks
pub node-gives : (p : NodeParts) (file : ℕ) (mode : Mode) (required desired : Range) (gives : GaveUp) → IsNode p → IsRevocable required desired → IsGivenUp (IsRegion (held p.locks file)) mode required desired gives → gives ≡ gave_up ((node_state p).table.locks file) (node_state p).node (node_state p).incarnation mode required desired
unfolding node_state
node-gives p file mode required desired gives is revocable given =
    gave_up_is_one (held p.locks file) p.node p.incarnation mode required desired gives (is.anchored.own.locks file) revocable given

-- a lock call that fails a test is refused
pub target-refused : (p : NodeParts) (pid : ℕ) (need : Option Mode) (fd : ℕ) (kind : Kind) (segment : Result Range SpanError) (e : FdError) → resolved (processes p.processes) pid fd ≡ Err e → target_in (around (node_state p).table (process (node_state p) pid)) (process (node_state p) pid) need fd kind segment ≡ Err (fd_reply e)
target-refused p pid need fd kind segment e h =
    ap (λ ps. target_in ps (process (node_state p) pid) need fd kind segment) (around-own p pid) ∙ target-err (processes p.processes) (process (node_state p) pid) need fd kind segment e h

pub target-found : (p : NodeParts) (pid : ℕ) (need : Option Mode) (fd : ℕ) (kind : Kind) (segment x : Result Range SpanError) (opened : Opened) → resolved (processes p.processes) pid fd ≡ Ok opened → segment ≡ x → target_at (process (node_state p) pid) need kind (Some opened) segment ≡ target_in (around (node_state p).table (process (node_state p) pid)) (process (node_state p) pid) need fd kind x
target-found p pid need fd kind segment x opened h e =
    ap (target_at (process (node_state p) pid) need kind (Some opened)) e
    ∙ sym (target-ok (processes p.processes) (process (node_state p) pid) need fd kind x opened h).1
    ∙ ap (λ ps. target_in ps (process (node_state p) pid) need fd kind x) (sym (around-own p pid))

pub target-file : (p : NodeParts) (pid fd : ℕ) (opened : Opened) (r : Result LockTarget Reply) → IsNode p → resolved (processes p.processes) pid fd ≡ Ok opened → IfOk r (λ t. t.file ≡ opened.file) → IfOk r (λ t. IsNumber (node_state p).shape.files t.file)
unfolding node_state
target-file p pid fd opened (Err e) is h same = tt
target-file p pid fd opened (Ok t) is h same =
    let within = is.opened_in pid fd opened (resolved_ok ((processes p.processes).runs pid) ((processes p.processes).opened pid fd) (record { node = 0; incarnation = 0; pid = pid }) None OfProcess (Err Invalid) opened h).0 in
    subst (λ n. IsNumber p.shape.files n) (sym same) within

-- two nodes are in the same state
pub record IsSameState (p q : NodeParts) : Type 0 where
  pub shape : p.shape ≡ q.shape
  pub node : p.node ≡ q.node
  pub incarnation : p.incarnation ≡ q.incarnation
  pub calls : p.calls ≡ q.calls
  pub processes : processes p.processes ≡ processes q.processes
  pub locks : IsSameTable p.locks q.locks
  pub pending : p.pending ≡ q.pending
  pub files : file_state p.files ≡ file_state q.files

pub same-state : (p q : NodeParts) → IsSameState p q → node_state p ≡ node_state q
unfolding node_state
same-state p q s = λ i. record {
  shape = s.shape i;
  node = s.node i;
  incarnation = s.incarnation i;
  calls = s.calls i;
  table = record {
    limit = s.locks.limit i;
    on = λ node incarnation. if (node == s.node i) && (incarnation == s.incarnation i) then s.processes i else no_processes;
    locks = s.locks.locks i;
  };
  pending = s.pending i;
  files = s.files i;
}

-- the processes of the node in a state
own_processes : NodeState → Processes
own_processes s = s.table.on s.node s.incarnation

own_processes-is : (p : NodeParts) → own_processes (node_state p) ≡ processes p.processes
unfolding node_state own_processes
own_processes-is p = ap (λ b. if b then processes p.processes else no_processes) (own_host p.node p.incarnation)

pub state-same : (p q : NodeParts) → node_state p ≡ node_state q → IsSameState p q
unfolding node_state
state-same p q e = record {
  shape = ap (λ (s : NodeState). s.shape) e;
  node = ap (λ (s : NodeState). s.node) e;
  incarnation = ap (λ (s : NodeState). s.incarnation) e;
  calls = ap (λ (s : NodeState). s.calls) e;
  processes = sym (own_processes-is p) ∙ ap own_processes e ∙ own_processes-is q;
  locks = record { locks = ap (λ (s : NodeState). s.table.locks) e; limit = ap (λ (s : NodeState). s.table.limit) e };
  pending = ap (λ (s : NodeState). s.pending) e;
  files = ap (λ (s : NodeState). s.files) e;
}

-- the empty token has no runs
pub no_runs : ListsRuns no_token []
no_runs = record {
  each = All-nil (λ (r : Range × Level). IsRun no_token r.0 r.1);
  complete = λ s level run. let e = run.all s.lo (omega arith) run.ordered in absurd cc;
  rises = λ i j d lt within. absurd (omega arith);
}

-- nothing is known of a file that is not of the shape
pub file_state-past : (files : List FileRow) (file : ℕ) → is_within (length files) file ≡ false → file_state files file ≡ first_file
unfolding file_state
file_state-past files zero outside = refl
file_state-past files (suc file) outside =
    let past : length files ≤ file = grind (arith, nat_tests, outside) in
    ap state_or (slice_get_past files file past)

-- the node's token for a file that is not of the shape has no runs
pub past_runs : (p : NodeParts) (file : ℕ) (runs : List (Range × Level)) → length p.files ≡ p.shape.files → is_within p.shape.files file ≡ false → runs ≡ [] → ListsRuns ((node_state p).files file).token runs
unfolding node_state
past_runs p file runs there outside none =
    let is = file_state-past p.files file (ap (λ (n : ℕ). is_within n file) there ∙ outside) in
    subst (λ (s : FileState). ListsRuns s.token runs) (sym is) (subst (ListsRuns no_token) (sym none) no_runs)

-- a file that passes the test is of the shape
pub file_in_shape : (p : NodeParts) (file : ℕ) → is_within p.shape.files file ≡ true → IsNumber (node_state p).shape.files file
unfolding node_state
file_in_shape p file within = (grind (arith, nat_tests, within), grind (arith, nat_tests, within))

-- the locks of a node are of its own owners
pub node-owners : (p : NodeParts) (file : ℕ) → IsNode p → IsOfNode ((node_state p).table.locks file) (node_state p).node (node_state p).incarnation
unfolding node_state
node-owners p file n = n.anchored.own.locks file

-- no lock of a node outlives its descriptors
pub node-anchored : (p : NodeParts) → IsNode p → IsAnchored (node_state p).table (node_state p).node (node_state p).incarnation
unfolding node_state
node-anchored p n = n.anchored.own.anchored

-- the list of a token's longest runs is the list that a report has
pub reported_runs : (t : Token) (runs listed : List (Range × Level)) → ListsRuns t runs → ((b : ℕ) → greatest < b → t b ≡ None) → listed ≡ runs → map run_of listed ≡ runs_of t
reported_runs t runs listed l ends same = ap (map run_of) same ∙ lists_runs_of t ends runs l.each l.complete l.rises

pub reported_longest : (t : Token) (runs listed : List (Range × Level)) → ListsRuns t runs → ((b : ℕ) → greatest < b → t b ≡ None) → listed ≡ runs → are_longest (map run_of listed) ≡ true
reported_longest t runs listed l ends same = ap are_longest (reported_runs t runs listed l ends same) ∙ runs_of-longest t ends
