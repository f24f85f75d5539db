-- What the code's table replies, by the definitions of the one table.
use Rattle.std.specs.Prelude.{◌≡◌, ℕ, Bool, true, false, if◌then◌else◌, Option, Some, None, Result, Ok, Err, IfOk, IfErr, refl, IsOk, MatchResult}
use Rattle.std.proofs.Common.{ap, sym, ◌∙◌, subst, ℤ}
use Rattle.intervals.specs.declared.span.SpanError.{SpanError}
use Rattle.intervals.specs.rule.Bytes.{Range}
use Rattle.model.specs.declared.mode.Mode.{Mode}
use Rattle.model.specs.declared.owner.Kind.{Kind}
use Rattle.model.specs.declared.opened.Opened.{Opened}
use Rattle.model.specs.declared.process.Process.{Process}
use Rattle.model.specs.declared.reply.Reply.{Reply}
use Rattle.model.specs.declared.reply.Reply.TheVariants as reply
use Rattle.model.specs.rule.Descriptors.{Processes, no_processes, after_spawn}
use Rattle.model.specs.rule.Table.{LockTarget, target_at, Table, empty_table, around, is_running, descriptor, beside, target, closed_at, closed_if, after_close}
use Rattle.descriptors.specs.declared.error.FdError.{FdError}
use Rattle.descriptors.specs.declared.error.FdError.TheVariants.{NoProcess, BadFd}
use Rattle.descriptors.specs.code.Rows.{resolved, opened_or, fd_reply, Refuses}
use Rattle.intervals.specs.rule.Segment.{seg}
use Rattle.model.specs.declared.host.Host.{Host}
use Rattle.model.specs.declared.reply.Reply.TheVariants.{Done, Exists}
use Rattle.model.specs.rule.Locks.{no_locks}
use Rattle.model.specs.rule.Step.{Is}
use Rattle.lock_table.specs.rule.Tables.{held}
use Rattle.descriptors.specs.declared.error.ProcessError.{ProcessError}
use Rattle.descriptors.specs.declared.error.ProcessError.TheVariants as error
use Rattle.model.proofs.Refusals.{ok_is}
use Rattle.fcntl_table.proofs.HostLaws.{runs-kept}
use Rattle.fcntl_table.specs.declared.table.FcntlTable.{FcntlTable}
use Rattle.fcntl_table.specs.rule.Hosts.{processes_of}
use Rattle.fcntl_table.specs.rule.Tables.{table_of, Keeps}
use Rattle.fcntl_table.specs.declared.edit.Planned.{Planned}
use Rattle.fcntl_table.specs.declared.edit.TableEdit.{TableEdit}
use Rattle.fcntl_table.specs.declared.edit.TableEdit.TheVariants.{Nothing, OfProcess, Closes}
use Rattle.fcntl_table.specs.code.Edits.{edited}
use Rattle.descriptors.specs.declared.edit.ProcessEdit.{ProcessEdit}
use Rattle.descriptors.specs.code.Edits.{edited as edited_processes}

-- the target of a lock call, from its tests in their order
abbrev pub target_in : Processes → Process → Option Mode → ℕ → Kind → Result Range SpanError → Result LockTarget Reply
target_in ps p need fd kind segment = if ps.runs p.pid then target_at p need kind (ps.opened p.pid fd) segment else Err reply.NoProcess

resolved_err : (b : Bool) (o : Option Opened) (p : Process) (need : Option Mode) (kind : Kind) (segment : Result Range SpanError) (e : FdError) → (if b then opened_or o else Err NoProcess) ≡ Err e → (if b then target_at p need kind o segment else Err reply.NoProcess) ≡ Err (fd_reply e)
resolved_err false o p need kind segment NoProcess h = refl
resolved_err false o p need kind segment BadFd h = absurd (cc)
resolved_err true None p need kind segment NoProcess h = absurd (cc)
resolved_err true None p need kind segment BadFd h = refl
resolved_err true (Some o) p need kind segment e h = absurd (cc)

pub target-err : (ps : Processes) (p : Process) (need : Option Mode) (fd : ℕ) (kind : Kind) (segment : Result Range SpanError) (e : FdError) → resolved ps p.pid fd ≡ Err e → target_in ps p need fd kind segment ≡ Err (fd_reply e)
target-err ps p need fd kind segment e h = resolved_err (ps.runs p.pid) (ps.opened p.pid fd) p need kind segment e h

pub resolved_ok : (b : Bool) (o : Option Opened) (p : Process) (need : Option Mode) (kind : Kind) (segment : Result Range SpanError) (opened : Opened) → (if b then opened_or o else Err NoProcess) ≡ Ok opened → (o ≡ Some opened) × ((if b then target_at p need kind o segment else Err reply.NoProcess) ≡ target_at p need kind (Some opened) segment)
resolved_ok false o p need kind segment opened h = absurd (cc)
resolved_ok true None p need kind segment opened h = absurd (cc)
resolved_ok true (Some o) p need kind segment opened h = let same : o ≡ opened = cc in (ap Some same, ap (λ x. target_at p need kind (Some x) segment) same)

pub target-ok : (ps : Processes) (p : Process) (need : Option Mode) (fd : ℕ) (kind : Kind) (segment : Result Range SpanError) (opened : Opened) → resolved ps p.pid fd ≡ Ok opened → (ps.opened p.pid fd ≡ Some opened) × (target_in ps p need fd kind segment ≡ target_at p need kind (Some opened) segment)
target-ok ps p need fd kind segment opened h = resolved_ok (ps.runs p.pid) (ps.opened p.pid fd) p need kind segment opened h

pub segment-is : (r x : Result Range SpanError) → IfOk r (λ s. x ≡ Ok s) → IfErr r (λ e. x ≡ Err e) → r ≡ x
segment-is (Ok s) x ok err = sym ok
segment-is (Err e) x ok err = sym err

-- the empty table
pub table-empty : (m : FcntlTable) → ((node incarnation : ℕ) → processes_of m.hosts node incarnation ≡ no_processes) → held m.locks ≡ no_locks → table_of m ≡ empty_table m.locks.limit
unfolding table_of
table-empty m none free i = record { limit = m.locks.limit; on = λ n k. none n k i; locks = free i }

-- the node, in its incarnation, of a process
abbrev pub host_of : Process → Host
host_of p = record { node = p.node; incarnation = p.incarnation }

-- what a descriptor of the process refers to, in its host's processes
found-around : (m : FcntlTable) (p : Process) (host : Host) (pid fd : ℕ) (found : Result Opened FdError) → host ≡ host_of p → pid ≡ p.pid → found ≡ resolved (processes_of m.hosts host.node host.incarnation) pid fd → resolved (around (table_of m) p) p.pid fd ≡ found
unfolding table_of
found-around m p host pid fd found of_p is e =
    ap (λ k. resolved (around (table_of m) p) k fd) (sym is)
    ∙ (ap (λ (h : Host). resolved (processes_of m.hosts h.node h.incarnation) pid fd) (sym of_p) ∙ sym e)

-- what a lock call is about, where its descriptor refers to something
pub target-of : (m : FcntlTable) (p : Process) (need : Option Mode) (host : Host) (pid fd : ℕ) (kind : Kind) (start len : ℤ) (opened : Opened) (segment : Result Range SpanError) (r : Result LockTarget Reply) → host ≡ host_of p → pid ≡ p.pid → Ok opened ≡ resolved (processes_of m.hosts host.node host.incarnation) pid fd → segment ≡ seg start len → r ≡ target_at p need kind (Some opened) segment → r ≡ target (table_of m) p need fd kind start len
target-of m p need host pid fd kind start len opened segment r of_p is found cut e =
    e
    ∙ (ap (target_at p need kind (Some opened)) cut
    ∙ sym (target-ok (around (table_of m) p) p need fd kind (seg start len) opened (found-around m p host pid fd (Ok opened) of_p is found)).1)

-- a lock call whose descriptor refers to nothing is refused by its first failing test
pub target-refused : (m : FcntlTable) (p : Process) (need : Option Mode) (host : Host) (pid fd : ℕ) (kind : Kind) (start len : ℤ) (error : FdError) (refusal : Reply) → host ≡ host_of p → pid ≡ p.pid → Err error ≡ resolved (processes_of m.hosts host.node host.incarnation) pid fd → refusal ≡ fd_reply error → Err refusal ≡ target (table_of m) p need fd kind start len
target-refused m p need host pid fd kind start len error refusal of_p is found told =
    ap Err told ∙ sym (target-err (around (table_of m) p) p need fd kind (seg start len) error (found-around m p host pid fd (Err error) of_p is found))

-- a descriptor that refers to something belongs to a running process
pub found_there : (b : Bool) (x : Option Opened) (opened : Opened) → (if b then opened_or x else Err NoProcess) ≡ Ok opened → (b ≡ true) × (x ≡ Some opened)
found_there true (Some o) opened h = (refl, ap Some (ok_is o opened h))
found_there true None opened h = absurd (cc)
found_there false x opened h = absurd (cc)

pub closes_there : (t : Table) (p : Process) (fd : ℕ) (b : Bool) (x : Option Opened) (opened : Opened) → b ≡ true → x ≡ Some opened → (if b then closed_at t p fd x else (t, reply.NoProcess)) ≡ (closed_if t p fd x, Done)
closes_there t p fd true (Some o) opened runs there = refl
closes_there t p fd true None opened runs there = absurd (cc)
closes_there t p fd false x opened runs there = absurd (cc)

-- a close of an open descriptor is done
pub close-found : (m : FcntlTable) (p : Process) (host : Host) (pid fd : ℕ) (opened : Opened) → host ≡ host_of p → pid ≡ p.pid → Ok opened ≡ resolved (processes_of m.hosts host.node host.incarnation) pid fd → Is (after_close (table_of m) p fd) Done (edited (table_of m) (Closes p fd)) × (is_running (table_of m) p ≡ true)
close-found m p host pid fd opened of_p is found =
    let t = table_of m in
    let there = found_there (is_running t p) (descriptor t p fd) opened (found-around m p host pid fd (Ok opened) of_p is found) in
    let done = closes_there t p fd (is_running t p) (descriptor t p fd) opened there.0 there.1 in
    ((ap (λ (a : Table × Reply). a.1) (sym done), ap (λ (a : Table × Reply). a.0) (sym done)), there.0)

pub refused_there : (t : Table) (p : Process) (fd : ℕ) (b : Bool) (x : Option Opened) (error : FdError) → (if b then opened_or x else Err NoProcess) ≡ Err error → (if b then closed_at t p fd x else (t, reply.NoProcess)) ≡ (t, fd_reply error)
refused_there t p fd true (Some o) error h = absurd (cc)
refused_there t p fd true None NoProcess h = absurd (cc)
refused_there t p fd true None BadFd h = refl
refused_there t p fd false x NoProcess h = refl
refused_there t p fd false x BadFd h = absurd (cc)

-- a close of a descriptor that isn't open is refused
pub close-refused : (m : FcntlTable) (p : Process) (host : Host) (pid fd : ℕ) (error : FdError) (refusal : Reply) → host ≡ host_of p → pid ≡ p.pid → Err error ≡ resolved (processes_of m.hosts host.node host.incarnation) pid fd → refusal ≡ fd_reply error → Is (after_close (table_of m) p fd) refusal (table_of m)
close-refused m p host pid fd error refusal of_p is found told =
    let t = table_of m in
    let done = refused_there t p fd (is_running t p) (descriptor t p fd) error (found-around m p host pid fd (Err error) of_p is found) in
    (told ∙ ap (λ (a : Table × Reply). a.1) (sym done), ap (λ (a : Table × Reply). a.0) (sym done))

-- a planned call on processes and descriptors is done
pub planned-ok : (t : Table) (p : Process) (host : Host) (e : ProcessEdit) (r : Processes → Result (Processes × Reply) Reply) (reply : Reply) → host ≡ host_of p → r (t.on host.node host.incarnation) ≡ Ok (edited_processes (t.on host.node host.incarnation) e, reply) → Is (beside t p (r (around t p))) reply (edited t (OfProcess host e))
planned-ok t p host e r reply of_p is =
    let P : Host → Type 0 = λ h. r (t.on h.node h.incarnation) ≡ Ok (edited_processes (t.on h.node h.incarnation) e, reply) → Is (beside t p (r (around t p))) reply (edited t (OfProcess h e)) in
    subst P (sym of_p) (λ e. (ap (λ x. (beside t p x).1) (sym e), ap (λ x. (beside t p x).0) (sym e))) is

-- a refused call on processes and descriptors changes nothing
pub planned-refused : (t : Table) (p : Process) (host : Host) (edit : TableEdit) (r : Processes → Result (Processes × Reply) Reply) (refusal : Reply) → host ≡ host_of p → edit ≡ Nothing → r (t.on host.node host.incarnation) ≡ Err refusal → Is (beside t p (r (around t p))) refusal (edited t edit)
planned-refused t p host edit r refusal of_p nothing is =
    let here : r (around t p) ≡ Err refusal = ap (λ (h : Host). r (t.on h.node h.incarnation)) (sym of_p) ∙ is in
    (ap (λ x. (beside t p x).1) (sym here), ap (edited t) nothing ∙ ap (λ x. (beside t p x).0) (sym here))

-- a result that is Ok is not a refusal
pub not-refused : (t : Table) (p : Process) (host : Host) (r : Processes → Result (Processes × Reply) Reply) (answer : Processes × Reply) (refusal : Reply) → host ≡ host_of p → r (t.on host.node host.incarnation) ≡ Ok answer → r (around t p) ≡ Err refusal → ⊥
not-refused t p host r answer refusal of_p is refused =
    let never : ◌≡◌ {A = Result (Processes × Reply) Reply} (Ok answer) (Err refusal) = sym is ∙ (ap (λ (h : Host). r (t.on h.node h.incarnation)) of_p ∙ refused) in
    absurd (cc)

-- a call that the rule refuses is planned as refused, whether or not there is memory
pub refused-outright : {B : Type 0} (t : Table) (p : Process) (host : Host) (r : Processes → Result (Processes × Reply) Reply) (e : ProcessError) (refusal : Reply) (result : Result Planned B) → host ≡ host_of p → Refuses e (r (t.on host.node host.incarnation)) → MatchResult result (λ planned. (planned.edit ≡ Nothing) × ((answer : Result (Processes × Reply) Reply) → Refuses e answer → answer ≡ Err planned.reply)) (λ _. e ≡ error.NoMemory) → r (around t p) ≡ Err refusal → result ≡ Ok (record { edit = Nothing; reply = refusal })
refused-outright t p host r e refusal (Ok planned) of_p refuses m refused =
    let told : ◌≡◌ {A = Result (Processes × Reply) Reply} (Err planned.reply) (Err refusal) = sym (m.1 _ refuses) ∙ (ap (λ (h : Host). r (t.on h.node h.incarnation)) of_p ∙ refused) in
    let same : planned.reply ≡ refusal = cc in
    λ i. Ok (record { edit = m.0 i; reply = same i })
refused-outright t p host r e refusal (Err failed) of_p refuses m refused =
    let answered : IsOk (r (t.on host.node host.incarnation)) = subst (λ (x : ProcessError). Refuses x (r (t.on host.node host.incarnation))) m refuses in
    let not : IsOk {T = Processes × Reply} {E = Reply} (Err refusal) = subst (λ (x : Result (Processes × Reply) Reply). IsOk x) (ap (λ (h : Host). r (t.on h.node h.incarnation)) of_p ∙ refused) answered in
    absurd (cc)

-- if a spawn is refused, the process runs already, and its host has an entry
pub refused-kept : (m : FcntlTable) (p : Process) (host : Host) (refusal : Reply) → host ≡ host_of p → after_spawn (around (table_of m) p) p.pid ≡ Err refusal → Keeps m host
unfolding table_of
refused-kept m p host refusal of_p refused =
    subst (Keeps m) (sym of_p) (runs-kept m.hosts (host_of p) p.pid (by ((around (table_of m) p).runs p.pid) _ refused))
  where
    by : (b : Bool) (x : Processes × Reply) → ◌≡◌ {A = Result (Processes × Reply) Reply} (if b then Err Exists else Ok x) (Err refusal) → b ≡ true
    by true x e = refl
    by false x e = absurd (cc)

-- what an Ok result satisfies
pub if_matched : {A B : Type 0} (r : Result A B) (P Q : A → Type 0) (R : B → Type 0) → MatchResult r P R → ((x : A) → P x → Q x) → IfOk r Q
if_matched (Ok x) P Q R m f = f x m
if_matched (Err e) P Q R m f = tt
