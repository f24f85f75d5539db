-- The processes of each host: look-ups and changes by the host.
use Rattle.std.proofs.Common.{rules, ◌≡◌, ℕ, Bool, true, false, ◌&&◌, ◌==◌, cond, refl, sym, ◌∙◌, ap, subst, inl, inr, List, [], Option, Some, None, IsSome, is_some, unwrap_or, Err}
use Rattle.std.specs.Cmp.{nat_eq_equiv}
use Rattle.std.specs.declared.hash.FoldHasher.{FoldHasher}
use Rattle.std.specs.declared.hash.BuildHasherDefault.{BuildHasherDefault}
use Rattle.std.specs.HashMap.{HashMap, Updates, UpdatesBy, WritesThrough}
use Rattle.std.specs.Map.{lookup}
use Rattle.std.proofs.lemmas.Bool.{cases_Bool, and_parts, eqb-true, false≢true}
use Rattle.model.specs.declared.host.Host.{Host}
use Rattle.model.specs.contracts.host.HostPartialEq.TheImpl as derived
use Rattle.model.specs.rule.Limits.{IsHost}
use Rattle.model.specs.rule.Descriptors.{Processes, no_processes, after}
use Rattle.model.specs.rule.Table.{Table}
use Rattle.lock_table.specs.rule.Tables.{TableParts, held}
use Rattle.model.specs.rule.Owners.{same_host}
use Rattle.descriptors.specs.declared.process_entry.ProcessEntry.{ProcessEntry}
use Rattle.descriptors.specs.declared.edit.ProcessEdit.{ProcessEdit}
use Rattle.descriptors.specs.rule.Rows.{processes}
use Rattle.descriptors.specs.code.Edits.{edited, Fits}
use Rattle.model.specs.declared.op.ProcessCall.{ProcessCall}
use Rattle.model.specs.declared.op.ProcessCall.TheVariants.{Spawn, Fork, Open, Dup}
use Rattle.model.specs.declared.reply.Reply.TheVariants.{NoProcess}
use Rattle.fcntl_table.specs.rule.Hosts.{HostRows, AreHosts, IsKept, processes_of, shown, table_with, with_host}
use Rattle.fcntl_table.specs.code.Hosts.{FitsOn}

abbrev at : ℕ → ℕ → Host
at node incarnation = record { node = node; incarnation = incarnation }

-- the entry of a host, if there is one
abbrev kept : HostRows → Host → Option (List ProcessEntry)
kept hosts host = lookup (derived.ghosts.eq host) hosts

-- the type of the map from hosts to processes
abbrev Map : Type 0
Map = HashMap Host (List ProcessEntry) (BuildHasherDefault FoldHasher)

-- the derived `==` of nodes is the test of the definitions
host_eq : (a b : Host) → derived.ghosts.eq a b ≡ same_host a b
host_eq a b = search rules

host_symm : (a b : Host) → same_host a b ≡ same_host b a
host_symm a b i = nat_eq_equiv.symm a.node b.node i && nat_eq_equiv.symm a.incarnation b.incarnation i

-- a look-up compares hosts by the test of the definitions
kept-by_test : (hosts : HostRows) (host : Host) → kept hosts host ≡ lookup (same_host host) hosts
kept-by_test hosts host = ap (λ (eq : Host → Host → Bool). lookup (eq host) hosts) (λ i a b. host_eq a b i)

-- the processes that an entry stands for
abbrev by_kept : Option (List ProcessEntry) → Processes
by_kept rows = processes (unwrap_or rows [])

none_run : processes [] ≡ no_processes
unfolding processes
none_run = refl

processes-kept : (hosts : HostRows) (host : Host) → processes_of hosts host.node host.incarnation ≡ by_kept (kept hosts host)
unfolding processes_of
processes-kept hosts host = ap by_kept (sym (kept-by_test hosts host))

pub processes-found : (hosts : HostRows) (host : Host) (rows : List ProcessEntry) → Some rows ≡ kept hosts host → processes_of hosts host.node host.incarnation ≡ processes rows
processes-found hosts host rows is = processes-kept hosts host ∙ ap by_kept (sym is)

pub processes-not_found : (hosts : HostRows) (host : Host) → None ≡ kept hosts host → processes_of hosts host.node host.incarnation ≡ no_processes
processes-not_found hosts host is = processes-kept hosts host ∙ (ap by_kept (sym is) ∙ none_run)

pub processes-empty : (hosts : HostRows) (node incarnation : ℕ) → hosts ≡ [] → processes_of hosts node incarnation ≡ no_processes
unfolding processes_of
processes-empty hosts node incarnation none = ap (λ es. by_kept (lookup (same_host (at node incarnation)) es)) none ∙ none_run

-- the host has these rows in the new map, and each other host has its old entry
abbrev pub Keeps : HostRows → Host → List ProcessEntry → HostRows → Type 0
Keeps old host rows new = (q : Host) → kept new q ≡ cond (derived.ghosts.eq host q) (Some rows) (kept old q)

by_either : (b : Bool) (rows : List ProcessEntry) (before : Option (List ProcessEntry)) → by_kept (cond b (Some rows) before) ≡ cond b (processes rows) (by_kept before)
by_either true rows before = refl
by_either false rows before = refl

processes-put : (old new : HostRows) (host : Host) (rows : List ProcessEntry) → Keeps old host rows new → processes_of new ≡ with_host (processes_of old) host (processes rows)
processes-put old new host rows keeps j n i = put (at n i) j
  where
    put : (q : Host) → processes_of new q.node q.incarnation ≡ with_host (processes_of old) host (processes rows) q.node q.incarnation
    put q =
        processes-kept new q
        ∙ (ap by_kept (keeps q)
        ∙ (by_either (derived.ghosts.eq host q) rows (kept old q)
        ∙ (ap (λ (b : Bool). cond b (processes rows) (by_kept (kept old q))) (host_eq host q ∙ host_symm host q)
        ∙ ap (λ (ps : Processes). cond (same_host q host) (processes rows) ps) (sym (processes-kept old q)))))

-- the processes of the host were `before` and are `after`, and the other hosts' processes are unchanged
pub record Changes (old : HostRows) (host : Host) (before after : Processes) (new : HostRows) : Type 0 where
  pub was : processes_of old host.node host.incarnation ≡ before
  pub is : processes_of new ≡ with_host (processes_of old) host after

-- the map after a write through a reference to the entry of a host
keeps-written : (m new : Map) (host : Host) (rows written : List ProcessEntry) → Some rows ≡ kept m.entries host → WritesThrough derived.ghosts.eq (derived.ghosts.eq host) m written new → Keeps m.entries host written new.entries
keeps-written m new host rows written is through = (through.3 (some is)).0
  where
    some : {x : Option (List ProcessEntry)} → Some rows ≡ x → IsSome x
    some e = rw (← e) refl

pub changes-written : (old : HostRows) (m new : Map) (host : Host) (rows written : List ProcessEntry) → m.entries ≡ old → Some rows ≡ kept m.entries host → WritesThrough derived.ghosts.eq (derived.ghosts.eq host) m written new → Changes old host (processes rows) (processes written) new.entries
changes-written old m new host rows written same is through =
    let P : HostRows → Type 0 = λ es. Changes es host (processes rows) (processes written) new.entries in
    subst P same (record { was = processes-found m.entries host rows is; is = processes-put m.entries new.entries host written (keeps-written m new host rows written is through) })

-- the map after an entry is added for a host without one
pub changes-inserted : (old : HostRows) (between m new : Map) (host : Host) (before rows : List ProcessEntry) → m.entries ≡ old → None ≡ kept m.entries host → processes before ≡ no_processes → between ≡ m → Updates derived.ghosts.eq between new host (Some rows) → Changes old host (processes before) (processes rows) new.entries
changes-inserted old between m new host before rows same none empty is updates =
    let P : HostRows → Type 0 = λ es. Changes es host (processes before) (processes rows) new.entries in
    let Q : Map → Type 0 = λ x. Keeps x.entries host rows new.entries in
    subst P same (record { was = processes-not_found m.entries host none ∙ sym empty; is = processes-put m.entries new.entries host rows (subst Q is updates.0) })

-- replacing the processes of a host by themselves changes nothing
pub with_host-same : (on : ℕ → ℕ → Processes) (host : Host) → with_host on host (on host.node host.incarnation) ≡ on
with_host-same on host j n i = same n i j
  where
    same : (n i : ℕ) → with_host on host (on host.node host.incarnation) n i ≡ on n i
    same n i = elim (cases_Bool ((n == host.node) && (i == host.incarnation))) [
      | inl is ↦
          let parts = and_parts _ _ is in
          let node : n ≡ host.node = eqb-true _ _ parts.0 in
          let incarnation : i ≡ host.incarnation = eqb-true _ _ parts.1 in
          rw is (λ k. on (sym node k) (sym incarnation k))
      | inr differs ↦ rw differs refl
    ]

-- if the host has no entry and the map is unchanged nothing changes
pub changes-nothing : (old : HostRows) (m new : Map) (host : Host) → m.entries ≡ old → None ≡ kept m.entries host → new ≡ m → Changes old host no_processes no_processes new.entries
changes-nothing old m new host same none stays =
    let not_found = processes-not_found old host (none ∙ ap (λ es. kept es host) same) in
    record {
      was = not_found;
      is = ap processes_of (ap (λ (x : Map). x.entries) stays ∙ same) ∙ (sym (with_host-same (processes_of old) host) ∙ ap (with_host (processes_of old) host) not_found);
    }

-- each entry is still of a host with numbers in range
hosts-kept : (old new : HostRows) (host : Host) (rows : List ProcessEntry) → AreHosts old → IsHost host.node host.incarnation → Keeps old host rows new → AreHosts new
hosts-kept old new host rows are is keeps q found some =
    by (derived.ghosts.eq host q) (host_eq host q) (sym (keeps q) ∙ (kept-by_test new q ∙ some))
  where
    by : (b : Bool) → b ≡ same_host host q → cond b (Some rows) (kept old q) ≡ Some found → IsHost q.node q.incarnation
    by true same e =
        let parts = and_parts _ _ (sym same) in
        let node : host.node ≡ q.node = eqb-true _ _ parts.0 in
        let incarnation : host.incarnation ≡ q.incarnation = eqb-true _ _ parts.1 in
        let P : ℕ → Type 0 = λ n. IsHost n host.incarnation in
        let Q : ℕ → Type 0 = λ n. IsHost q.node n in
        subst Q incarnation (subst P node is)
    by false same e = are q found (sym (kept-by_test old q) ∙ e)

pub hosts-written : (m new : Map) (host : Host) (rows written : List ProcessEntry) → AreHosts m.entries → Some rows ≡ kept m.entries host → WritesThrough derived.ghosts.eq (derived.ghosts.eq host) m written new → AreHosts new.entries
hosts-written m new host rows written are is through =
    hosts-kept m.entries new.entries host written are (are host rows (sym (kept-by_test m.entries host) ∙ sym is)) (keeps-written m new host rows written is through)

pub hosts-inserted : (between m new : Map) (host : Host) (rows : List ProcessEntry) → AreHosts m.entries → IsHost host.node host.incarnation → between ≡ m → Updates derived.ghosts.eq between new host (Some rows) → AreHosts new.entries
hosts-inserted between m new host rows are is same updates =
    let Q : Map → Type 0 = λ x. Keeps x.entries host rows new.entries in
    hosts-kept m.entries new.entries host rows are is (subst Q same updates.0)

-- no process runs on a host whose numbers are out of range
pub not_host-idle : (hosts : HostRows) (node incarnation pid : ℕ) → AreHosts hosts → (IsHost node incarnation → ⊥) → (processes_of hosts node incarnation).runs pid ≡ false
unfolding processes_of
not_host-idle hosts node incarnation pid are none = by (lookup (same_host (at node incarnation)) hosts) refl
  where
    by : (rows : Option (List ProcessEntry)) → lookup (same_host (at node incarnation)) hosts ≡ rows → (by_kept rows).runs pid ≡ false
    by None e = ap (λ (ps : Processes). ps.runs pid) none_run
    by (Some rows) e = absurd (none (are (at node incarnation) rows e))

-- a statement about the processes of a host's entry is one about the host's processes
pub by_found : (P : Processes → Type 0) (hosts : HostRows) (host : Host) (rows : List ProcessEntry) → Some rows ≡ kept hosts host → P (processes rows) → P (processes_of hosts host.node host.incarnation)
by_found P hosts host rows is p = subst P (sym (processes-found hosts host rows is)) p

pub by_not_found : (P : Processes → Type 0) (hosts : HostRows) (host : Host) → None ≡ kept hosts host → P no_processes → P (processes_of hosts host.node host.incarnation)
by_not_found P hosts host is p = subst P (sym (processes-not_found hosts host is)) p

-- an edit that fits the rows of a host's entry fits the host
pub fits_on : (hosts : HostRows) (host : Host) (rows : List ProcessEntry) (edit : ProcessEdit) → Some rows ≡ kept hosts host → Fits rows edit → FitsOn hosts host edit
fits_on hosts host rows edit is fits = record { rows = rows; kept = sym (is ∙ kept-by_test hosts host); fits = fits }

-- a failed look-up says that the host has no entry
pub not_kept : (hosts : HostRows) (host : Host) (b : Bool) → b ≡ is_some (kept hosts host) → b ≡ false → None ≡ kept hosts host
not_kept hosts host b is none = by (kept hosts host) (sym is ∙ none)
  where
    by : (r : Option (List ProcessEntry)) → is_some r ≡ false → None ≡ r
    by None e = refl
    by (Some rows) e = absurd (cc)

-- an entry without running processes is added for a host without one
pub admitted : (old new : HostRows) (host : Host) (rows : List ProcessEntry) → Changes old host (processes rows) (processes rows) new → processes_of new ≡ processes_of old
admitted old new host rows changes = changes.is ∙ (ap (with_host (processes_of old) host) (sym changes.was) ∙ with_host-same (processes_of old) host)

-- the table after an edit of the processes of a host
pub made_on : (old new : HostRows) (host : Host) (before after : Processes) (edit : ProcessEdit) → Changes old host before after new → after ≡ edited before edit → processes_of new ≡ with_host (processes_of old) host (edited (processes_of old host.node host.incarnation) edit)
made_on old new host before after edit changes is =
    changes.is ∙ ap (with_host (processes_of old) host) (is ∙ ap (λ (ps : Processes). edited ps edit) (sym changes.was))

-- the whole table after one host's processes and the locks change
pub shut_on : (F : Table → Table) (old new : HostRows) (host : Host) (rows written : List ProcessEntry) (locks left : TableParts) → Changes old host (processes rows) (processes written) new → ((on : ℕ → ℕ → Processes) → shown on host written left ≡ F (shown on host rows locks)) → table_with new left ≡ F (table_with old locks)
shut_on F old new host rows written locks left changes made =
    let on : ℕ → ℕ → Processes = processes_of old in
    let whole : with_host on host (processes rows) ≡ on = ap (with_host on host) (sym changes.was) ∙ with_host-same on host in
    let after : table_with new left ≡ shown on host written left = λ i. record { limit = left.limit; on = changes.is i; locks = held left } in
    let before : shown on host rows locks ≡ table_with old locks = λ i. record { limit = locks.limit; on = whole i; locks = held locks } in
    after ∙ (made on ∙ ap F before)

-- a process runs only on a host with an entry
pub runs-nowhere : (hosts : HostRows) (host : Host) (pid : ℕ) → processes_of hosts host.node host.incarnation ≡ no_processes → (processes_of hosts host.node host.incarnation).runs pid ≡ true → ⊥
runs-nowhere hosts host pid none runs = false≢true (ap (λ (ps : Processes). ps.runs pid) (sym none) ∙ runs)

-- a host on which a process runs has an entry
pub runs-kept : (hosts : HostRows) (host : Host) (pid : ℕ) → (processes_of hosts host.node host.incarnation).runs pid ≡ true → IsKept hosts host
unfolding processes_of
runs-kept hosts host pid = by (lookup (same_host host) hosts)
  where
    by : (rows : Option (List ProcessEntry)) → (by_kept rows).runs pid ≡ true → IsSome rows
    by None runs = absurd (false≢true (ap (λ (ps : Processes). ps.runs pid) (sym none_run) ∙ runs))
    by (Some rows) runs = refl

-- the new map lacks the entry of the host, and has the entries of the other hosts
abbrev pub Removes : HostRows → Host → HostRows → Type 0
Removes old host new = (q : Host) → kept new q ≡ cond (derived.ghosts.eq host q) None (kept old q)

by_none : (b : Bool) (before : Option (List ProcessEntry)) → by_kept (cond b None before) ≡ cond b no_processes (by_kept before)
by_none true before = none_run
by_none false before = refl

processes-removed : (old new : HostRows) (host : Host) → Removes old host new → processes_of new ≡ with_host (processes_of old) host no_processes
processes-removed old new host removes j n i = put (at n i) j
  where
    put : (q : Host) → processes_of new q.node q.incarnation ≡ with_host (processes_of old) host no_processes q.node q.incarnation
    put q =
        processes-kept new q
        ∙ (ap by_kept (removes q)
        ∙ (by_none (derived.ghosts.eq host q) (kept old q)
        ∙ (ap (λ (b : Bool). cond b no_processes (by_kept (kept old q))) (host_eq host q ∙ host_symm host q)
        ∙ ap (λ (ps : Processes). cond (same_host q host) no_processes ps) (sym (processes-kept old q)))))

pub forgotten : (old : HostRows) (m new : Map) (host : Host) → m.entries ≡ old → processes_of old host.node host.incarnation ≡ no_processes → UpdatesBy derived.ghosts.eq (derived.ghosts.eq host) m new None → processes_of new.entries ≡ processes_of old
forgotten old m new host same idle updates =
    let P : HostRows → Type 0 = λ es. Removes es host new.entries in
    processes-removed old new.entries host (subst P same updates.0)
    ∙ (ap (with_host (processes_of old) host) (sym idle) ∙ with_host-same (processes_of old) host)

pub hosts-removed : (m new : Map) (host : Host) → AreHosts m.entries → UpdatesBy derived.ghosts.eq (derived.ghosts.eq host) m new None → AreHosts new.entries
hosts-removed m new host are updates q found some = by (derived.ghosts.eq host q) (sym (updates.0 q) ∙ (kept-by_test new.entries q ∙ some))
  where
    by : (b : Bool) → cond b None (kept m.entries q) ≡ Some found → IsHost q.node q.incarnation
    by true e = absurd (cc)
    by false e = are q found (sym (kept-by_test m.entries q) ∙ e)

-- on a host without an entry no process runs, so each call but `Spawn` is refused
pub none-refused : (hosts : HostRows) (host : Host) (pid : ℕ) (call : ProcessCall) → None ≡ kept hosts host → (call ≡ Spawn → IsKept hosts host) → after no_processes pid call ≡ Err NoProcess
none-refused hosts host pid Spawn none is_kept = absurd (no_rows (kept hosts host) none (subst (λ (r : Option (List ProcessEntry)). IsSome r) (sym (kept-by_test hosts host)) (is_kept refl)))
  where
    no_rows : (r : Option (List ProcessEntry)) → None ≡ r → IsSome r → ⊥
    no_rows None e some = absurd (cc)
    no_rows (Some rows) e some = absurd (cc)
none-refused hosts host pid (Fork child) none is_kept = refl
none-refused hosts host pid (Open file access) none is_kept = refl
none-refused hosts host pid (Dup fd) none is_kept = refl
