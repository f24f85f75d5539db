-- The effects of calls by which a process closes descriptors.
use Rattle.std.specs.Prelude.{◌≡◌, ℕ, zero, suc, ◌+◌, ◌≤◌, ◌<◌, ◌==◌, Bool, true, false, if◌then◌else◌, Option, None, Ok, Err, refl}
use Rattle.std.proofs.Common.{arith, ap, sym, ◌∙◌, inl, inr}
use Rattle.std.proofs.lemmas.Bool.{cases_eq, eq-eqb, ne_eqb}
use Rattle.model.specs.declared.op.Op.TheVariants as op
use Rattle.model.specs.declared.opened.Opened.{Opened}
use Rattle.model.specs.declared.process.Process.{Process}
use Rattle.model.specs.declared.reply.Reply.{Reply}
use Rattle.model.specs.declared.reply.Reply.TheVariants as reply
use Rattle.model.specs.declared.reply.Reply.TheVariants.{Done}
use Rattle.model.specs.rule.Limits.{IsNumber}
use Rattle.model.specs.rule.Descriptors.{Processes, is_of_file, has_open}
use Rattle.model.specs.rule.Table.{Table, around, descriptor, is_running, exited}
use Rattle.descriptors.specs.declared.error.FdError.{FdError}
use Rattle.descriptors.specs.declared.error.FdError.TheVariants.{NoProcess, BadFd}
use Rattle.descriptors.specs.code.Rows.{resolved, fd_reply}
use Rattle.descriptors.specs.rule.Rows.{processes}
use Rattle.fcntl_table.proofs.TableLaws.{found_there, closes_there, refused_there}
use Rattle.node_core.specs.declared.node_edit.NodeTableEdit.TheVariants.{Closes, Exits}
use Rattle.node_core.specs.rule.State.{NodeState, Effect, without_call_of, host, process}
use Rattle.node_core.specs.rule.Try.{may_free, settled, with_freed, with_freed_of}
use Rattle.node_core.specs.rule.Calls.{called, shut_by}
use Rattle.node_core.specs.rule.Parts.{NodeParts, node_state, IsNode}
use Rattle.node_core.specs.code.Plans.{numbered, table_after}
use Rattle.node_core.proofs.NodeLaws.{around-own}

-- if one file passes, a Freed is sent for it if it is among the files up to n
freed-none : (file n : ℕ) (e : Effect) → n < file → with_freed_of (λ f. file == f) n e ≡ e
unfolding with_freed_of
freed-none file zero e past = refl
freed-none file (suc n) e past =
    let before = with_freed_of (λ f. file == f) n e in
    let other : file ≡ suc n → ⊥ = λ same. omega arith in
    ap (λ (b : Bool). if b then with_freed (suc n) before else before) (ne_eqb file (suc n) other) ∙ freed-none file n e (omega arith)

freed-one : (file n : ℕ) (e : Effect) → 1 ≤ file → file ≤ n → with_freed_of (λ f. file == f) n e ≡ with_freed file e
unfolding with_freed_of
freed-one file zero e low high = absurd (omega arith)
freed-one file (suc n) e low high =
    let before = with_freed_of (λ f. file == f) n e in
    let next : Bool → Effect = λ b. if b then with_freed (suc n) before else before in
    elim (cases_eq file (suc n)) [
      | inl same ↦
          ap next (eq-eqb file (suc n) same)
          ∙ ap (with_freed (suc n)) (freed-none file n e (omega arith))
          ∙ ap (λ (k : ℕ). with_freed k e) (sym same)
      | inr other ↦ ap next (ne_eqb file (suc n) other) ∙ freed-one file n e low (omega arith)
    ]

-- a Freed is sent for the files up to one more
pub freed-more : (passes : ℕ → Bool) (n : ℕ) (e before : Effect) → with_freed_of passes n e ≡ before → with_freed_of passes (n + 1) e ≡ (if passes (n + 1) then with_freed (n + 1) before else before)
unfolding with_freed_of
freed-more passes n e before is =
    let at : n + 1 ≡ suc n = omega arith in
    ap (λ (k : ℕ). with_freed_of passes k e) at
    ∙ ap (λ (x : Effect). if passes (suc n) then with_freed (suc n) x else x) is
    ∙ ap (λ (k : ℕ). if passes k then with_freed k before else before) (sym at)

pub freed-zero : (passes : ℕ → Bool) (e : Effect) → with_freed_of passes 0 e ≡ e
unfolding with_freed_of
freed-zero passes e = refl

-- no Freed is sent for a call that is refused
not-freed : (s : NodeState) (number : ℕ) (passes : ℕ → Bool) (t : Table) (r : Reply) → may_free None r ≡ false → shut_by s number passes (t, r) ≡ settled s number (t, r)
not-freed s number passes t r none =
    ap (λ (b : Bool). if b then with_freed_of passes s.shape.files (settled s number (t, r)) else settled s number (t, r)) none

fd-frees : (e : FdError) → may_free None (fd_reply e) ≡ false
fd-frees NoProcess = refl
fd-frees BadFd = refl

-- the effect of a close that is refused
pub close-refused : (p : NodeParts) (pid fd : ℕ) (e : FdError) → resolved (processes p.processes) pid fd ≡ Err e → called (numbered (node_state p)) ((node_state p).calls + 1) pid (op.Close fd) ≡ settled (numbered (node_state p)) ((node_state p).calls + 1) ((node_state p).table, fd_reply e)
close-refused p pid fd e is =
    let s = node_state p in
    let t = s.table in
    let q : Process = process s pid in
    let passes : ℕ → Bool = λ file. is_of_file file (descriptor t q fd) in
    let found : resolved (around t q) pid fd ≡ Err e = ap (λ (ps : Processes). resolved ps pid fd) (around-own p pid) ∙ is in
    ap (shut_by (numbered s) (s.calls + 1) passes) (refused_there t q fd (is_running t q) (descriptor t q fd) e found)
    ∙ not-freed (numbered s) (s.calls + 1) passes t (fd_reply e) (fd-frees e)

-- the effect of a close that is done
pub close-found : (p : NodeParts) (pid fd : ℕ) (o : Opened) → resolved (processes p.processes) pid fd ≡ Ok o → IsNumber (node_state p).shape.files o.file → called (numbered (node_state p)) ((node_state p).calls + 1) pid (op.Close fd) ≡ with_freed o.file (settled (numbered (node_state p)) ((node_state p).calls + 1) (table_after (host (node_state p)) (node_state p).table (Closes pid fd), Done))
close-found p pid fd o is within =
    let s = node_state p in
    let t = s.table in
    let q : Process = process s pid in
    let found : resolved (around t q) pid fd ≡ Ok o = ap (λ (ps : Processes). resolved ps pid fd) (around-own p pid) ∙ is in
    let there = found_there (is_running t q) (descriptor t q fd) o found in
    let e : Effect = settled (numbered s) (s.calls + 1) (table_after (host s) t (Closes pid fd), Done) in
    ap (shut_by (numbered s) (s.calls + 1) (λ file. is_of_file file (descriptor t q fd))) (closes_there t q fd (is_running t q) (descriptor t q fd) o there.0 there.1)
    ∙ ap (λ (x : Option Opened). with_freed_of (λ file. is_of_file file x) s.shape.files e) there.1
    ∙ freed-one o.file s.shape.files e within.0 within.1

runs-own : (p : NodeParts) (pid : ℕ) (b : Bool) → (processes p.processes).runs pid ≡ b → is_running (node_state p).table (process (node_state p) pid) ≡ b
runs-own p pid b is = ap (λ (ps : Processes). ps.runs pid) (around-own p pid) ∙ is

-- the effect of an exit, by whether the process runs
abbrev exit-answered : NodeState → ℕ → Bool → Effect
exit-answered s pid b =
    shut_by (without_call_of (numbered s) pid) (s.calls + 1) (has_open (around s.table (process s pid)) pid) (if b then (exited s.table (process s pid), Done) else (s.table, reply.NoProcess))

-- the effect of an exit that is done, before a Freed is sent
abbrev pub exit-effect : NodeState → ℕ → Effect
exit-effect s pid = settled (without_call_of (numbered s) pid) (s.calls + 1) (table_after (host s) s.table (Exits pid), Done)

-- the effect of an exit that is refused
pub exit-refused : (p : NodeParts) (pid : ℕ) → (processes p.processes).runs pid ≡ false → called (numbered (node_state p)) ((node_state p).calls + 1) pid op.Exit ≡ settled (without_call_of (numbered (node_state p)) pid) ((node_state p).calls + 1) ((node_state p).table, reply.NoProcess)
exit-refused p pid stopped = ap (exit-answered (node_state p) pid) (runs-own p pid false stopped)

-- the effect of an exit that is done
pub exit-done : (p : NodeParts) (pid : ℕ) → (processes p.processes).runs pid ≡ true → called (numbered (node_state p)) ((node_state p).calls + 1) pid op.Exit ≡ with_freed_of (has_open (processes p.processes) pid) (node_state p).shape.files (exit-effect (node_state p) pid)
exit-done p pid runs =
    ap (exit-answered (node_state p) pid) (runs-own p pid true runs)
    ∙ ap (λ (ps : Processes). with_freed_of (has_open ps pid) (node_state p).shape.files (exit-effect (node_state p) pid)) (around-own p pid)

-- an open descriptor is of a file of the shape
pub opened-within-shape : (p : NodeParts) (pid fd : ℕ) (o : Opened) → IsNode p → resolved (processes p.processes) pid fd ≡ Ok o → IsNumber (node_state p).shape.files o.file
unfolding node_state
opened-within-shape p pid fd o node is =
    let there = found_there ((processes p.processes).runs pid) ((processes p.processes).opened pid fd) o is in
    node.opened_in pid fd o there.1

-- each number up to the number of files is of a file of the shape
pub next-file : (p : NodeParts) (n count : ℕ) → count ≡ p.shape.files → n < count → IsNumber (node_state p).shape.files (n + 1)
unfolding node_state
next-file p n count is below = (omega arith, let at = is in omega arith)

pub last-file : (p : NodeParts) (n count : ℕ) → count ≡ p.shape.files → n ≡ count → (node_state p).shape.files ≡ n
unfolding node_state
last-file p n count is end = sym is ∙ sym end
