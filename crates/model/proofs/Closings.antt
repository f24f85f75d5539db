-- What a close and an exit make of the table of one node.
use Rattle.std.proofs.Common.{◌≡◌, ℕ, zero, suc, Bool, true, false, if◌then◌else◌, ◌&&◌, ◌==◌, refl, sym, ◌∙◌, Option, Some, None}
use Rattle.std.proofs.lemmas.Option.{none-some}
use Rattle.model.specs.declared.mode.Mode.{Mode}
use Rattle.model.specs.declared.owner.Owner.{Owner}
use Rattle.model.specs.declared.opened.Opened.{Opened}
use Rattle.model.specs.declared.process.Process.{Process}
use Rattle.model.specs.declared.reply.Reply.{Reply}
use Rattle.model.specs.declared.reply.Reply.TheVariants.{Done, NoProcess}
use Rattle.model.specs.rule.Limits.{most_descriptors}
use Rattle.model.specs.rule.Owners.{same_owner, process_owner, description_owner}
use Rattle.model.specs.rule.Locks.{Locks, without_owner, without_owner_anywhere, IsOfNode}
use Rattle.model.specs.rule.Descriptors.{Processes, with_process, with_descriptor, is_open}
use Rattle.model.specs.rule.Table.{Table, around, is_running, descriptor, with_processes, closed, closed_at, closed_if, closed_below, after_close, exited, after_exit}
use Rattle.model.specs.rule.Anchors.{IsOwn}
use Rattle.model.proofs.NodeTables.{Follows, same_follows}
use Rattle.model.proofs.Anchors.{left, left_open, Leaves, closed_leaves, shut_goes_on, exits}

-- each lock that stands afterwards stood before
abbrev pub AreFewer : Locks → Locks → Type 0
AreFewer before after = (file : ℕ) (owner : Owner) (b : ℕ) (mode : Mode) → after file owner b ≡ Some mode → before file owner b ≡ Some mode

module _ (p : Process) where
  pub fewer_closed : (t : Table) (fd : ℕ) (o : Opened) → AreFewer t.locks (closed t p fd o).locks
  fewer_closed t fd o file owner b mode =
      let mid : Table = record (with_processes t p (with_descriptor (around t p) p.pid fd None)) { locks = without_owner t.locks o.file (process_owner p) } in
      let gone : Table = record mid { locks = without_owner_anywhere mid.locks (description_owner p o.description) } in
      let its = (o.file == file) && same_owner (process_owner p) owner in
      elim (is_open (around mid p) o.description) as (λ x. (if x then mid else gone).locks file owner b ≡ Some mode → t.locks file owner b ≡ Some mode) [
        | true ↦ λ h. (left its (t.locks file owner) b mode h).1
        | false ↦ λ h. (left its (t.locks file owner) b mode (left (same_owner (description_owner p o.description) owner) (mid.locks file owner) b mode h).1).1
      ]

  pub fewer_if : (t : Table) (fd : ℕ) (o : Option Opened) → AreFewer t.locks (closed_if t p fd o).locks
  fewer_if t fd None = λ file owner b mode h. h
  fewer_if t fd (Some o) = fewer_closed t fd o

  pub fewer_below : (t : Table) (n : ℕ) → AreFewer t.locks (closed_below t p n).locks
  unfolding closed_below
  fewer_below t zero = λ file owner b mode h. h
  fewer_below t (suc n) =
      let before = closed_below t p n in
      λ file owner b mode h. fewer_below t n file owner b mode (fewer_if before n (descriptor before p n) file owner b mode h)

  pub fewer_after_close : (t : Table) (fd : ℕ) → AreFewer t.locks (after_close t p fd).0.locks
  fewer_after_close t fd =
      let out : Bool → Table × Reply = λ b. if b then closed_at t p fd (descriptor t p fd) else (t, NoProcess) in
      elim (is_running t p) as (λ b. AreFewer t.locks (out b).0.locks) [
        | true ↦ elim (descriptor t p fd) as (λ x. AreFewer t.locks (closed_at t p fd x).0.locks) [ Some o ↦ fewer_closed t fd o | None ↦ λ file owner b mode h. h ]
        | false ↦ λ file owner b mode h. h
      ]

  pub fewer_after_exit : (t : Table) → AreFewer t.locks (after_exit t p).0.locks
  fewer_after_exit t =
      let out : Bool → Table × Reply = λ b. if b then (exited t p, Done) else (t, NoProcess) in
      elim (is_running t p) as (λ b. AreFewer t.locks (out b).0.locks) [
        | true ↦ fewer_below t most_descriptors
        | false ↦ λ file owner b mode h. h
      ]

-- each descriptor that is open afterwards was open before, on the same description
abbrev pub AreFewerOpen : Processes → Processes → Type 0
AreFewerOpen before after = (pid fd : ℕ) (o : Opened) → after.opened pid fd ≡ Some o → before.opened pid fd ≡ Some o

module _ (p : Process) where
  -- a choice between the processes before and those after opens no new descriptor
  chosen_open : (b : Bool) (before after : Processes) → AreFewerOpen before after → AreFewerOpen before (if b then after else before)
  chosen_open true before after fewer = fewer
  chosen_open false before after fewer = λ pid fd o h. h

  open_closed : (t : Table) (fd : ℕ) (o : Opened) → AreFewerOpen (around t p) (around (closed t p fd o) p)
  open_closed t fd o =
      let shut : Processes = with_descriptor (around t p) p.pid fd None in
      let mid : Table = record (with_processes t p shut) { locks = without_owner t.locks o.file (process_owner p) } in
      let gone : Table = record mid { locks = without_owner_anywhere mid.locks (description_owner p o.description) } in
      let fewer : AreFewerOpen (around t p) (around mid p) = chosen_open ((p.node == p.node) && (p.incarnation == p.incarnation)) (around t p) shut (λ q k x h. (left_open ((q == p.pid) && (k == fd)) ((around t p).opened q k) x h).1) in
      elim (is_open (around mid p) o.description) as (λ b. AreFewerOpen (around t p) (around (if b then mid else gone) p)) [ true ↦ fewer | false ↦ fewer ]

  pub open_if : (t : Table) (fd : ℕ) (o : Option Opened) → AreFewerOpen (around t p) (around (closed_if t p fd o) p)
  open_if t fd None = λ pid k x h. h
  open_if t fd (Some o) = open_closed t fd o

  open_below : (t : Table) (n : ℕ) → AreFewerOpen (around t p) (around (closed_below t p n) p)
  unfolding closed_below
  open_below t zero = λ pid k x h. h
  open_below t (suc n) =
      let before = closed_below t p n in
      λ pid k x h. open_below t n pid k x (open_if before n (descriptor before p n) pid k x h)

  pub open_exited : (t : Table) → AreFewerOpen (around t p) (around (exited t p) p)
  open_exited t =
      let shut = closed_below t p most_descriptors in
      let fewer : AreFewerOpen (around shut p) (around (exited t p) p) = chosen_open ((p.node == p.node) && (p.incarnation == p.incarnation)) (around shut p) (with_process (around shut p) p.pid false (λ fd. None)) (λ q k x h. (left_open (q == p.pid) ((around shut p).opened q k) x h).1) in
      λ pid k x h. open_below t most_descriptors pid k x (fewer pid k x h)

-- locks that are fewer are still of the node's owners
pub fewer_of_node : (before after : Locks) (n i : ℕ) → AreFewer before after → ((file : ℕ) → IsOfNode (before file) n i) → (file : ℕ) → IsOfNode (after file) n i
fewer_of_node before after n i fewer own file = record {
  is_own = λ o b mode h. (own file).is_own o b mode (fewer file o b mode h);
  ends = λ o b past. none_left o b ((own file).ends o b past) (after file o b) refl;
}
  where
    none_left : (o : Owner) (b : ℕ) → before file o b ≡ None → (x : Option Mode) → after file o b ≡ x → after file o b ≡ None
    none_left o b none None is = is
    none_left o b none (Some mode) is = absurd (none-some mode (sym none ∙ fewer file o b mode is))

-- the table that a close leaves is still the node's own
left_own : (t u : Table) (n i : ℕ) → IsOwn t n i → Leaves n i t u → AreFewer t.locks u.locks → IsOwn u n i
left_own t u n i own leaves fewer = record {
  others = λ m k h. leaves.others m k h ∙ own.others m k h;
  descriptions = λ q fd o h. own.descriptions q fd o (leaves.fewer q fd o h);
  locks = fewer_of_node t.locks u.locks n i fewer own.locks;
  anchored = leaves.anchored;
}

pub close_follows : (t : Table) (n i pid fd : ℕ) → IsOwn t n i → Follows t (after_close t (record { node = n; incarnation = i; pid = pid }) fd).0 n i pid
close_follows t n i pid fd own =
    let p : Process = record { node = n; incarnation = i; pid = pid } in
    let out : Bool → Table × Reply = λ b. if b then closed_at t p fd (descriptor t p fd) else (t, NoProcess) in
    elim (is_running t p) as (λ b. Follows t (out b).0 n i pid) [
      | false ↦ same_follows t n i pid own
      | true ↦ elim (descriptor t p fd) as (λ x. descriptor t p fd ≡ x → Follows t (closed_at t p fd x).0 n i pid) [
        | None ↦ λ h. same_follows t n i pid own
        | Some o ↦ λ h. record {
          own = left_own t (closed t p fd o) n i own (closed_leaves t n i pid fd o own.anchored h) (fewer_closed p t fd o);
          others = shut_goes_on t n i pid fd o own.anchored h;
        }
      ] refl
    ]

pub exit_follows : (t : Table) (n i pid : ℕ) → IsOwn t n i → Follows t (after_exit t (record { node = n; incarnation = i; pid = pid })).0 n i pid
exit_follows t n i pid own =
    let p : Process = record { node = n; incarnation = i; pid = pid } in
    let out : Bool → Table × Reply = λ b. if b then (exited t p, Done) else (t, NoProcess) in
    elim (is_running t p) as (λ b. Follows t (out b).0 n i pid) [
      | false ↦ same_follows t n i pid own
      | true ↦
          let e = exits n i pid t own.anchored in
          record { own = left_own t (exited t p) n i own e.leaves (fewer_below p t most_descriptors); others = e.others }
    ]
