-- The entries of a run that fit their types are within the limits of a journal's text.
use Rattle.std.proofs.Common.{◌≡◌, ℕ, ◌+◌, ◌≤◌, true, false, List, [], ◌∷◌, ◌++◌, length, map, Option, Some, None, refl, sym, ap, subst, ◌∙◌, arith}
use Rattle.std.specs.Prelude.{◌&&◌, IfSome, nat_le, slice_index_or}
use Rattle.std.specs.List.{All}
use Rattle.std.proofs.lemmas.Bool.{and_parts}
use Rattle.std.proofs.lemmas.Bool.Decides.{nat_tests}
use Rattle.std.proofs.lemmas.List.{length-map}
use Rattle.std.proofs.lemmas.List.Elements.{All-append, All-cons, All-head, All-nil, All-tail}
use Rattle.model.specs.declared.call.CallId.{CallId}
use Rattle.model.specs.declared.op.Op.{Op}
use Rattle.model.specs.declared.op.Op.TheVariants as op
use Rattle.model.specs.declared.op.ProcessCall.TheVariants.{Spawn, Fork, Open, Dup}
use Rattle.model.specs.declared.reply.Reply.{Reply}
use Rattle.model.specs.rule.Limits.{IsCall, IsHost, IsNumber, most_nodes, most_processes}
use Rattle.messages.specs.rule.Entries.{EntryFields, NamesItsCall, NamesItsIncarnation}
use Rattle.messages.specs.rule.Shapes.{IsCommand, IsShape, ShapeFields, most_files, may_rebuild}
use Rattle.messages.specs.rule.Messages.{addressee, greatest_number, is_among, is_within}
use Rattle.messages.specs.declared.event.Event.{Event}
use Rattle.messages.specs.declared.event.Event.TheVariants.{AtNode, AtServer, Deliver, Member}
use Rattle.messages.specs.declared.event.NodeInput.TheVariants.{Call, Interrupt, Retry}
use Rattle.messages.specs.declared.event.ServerInput.TheVariants.{Resend, Learn}
use Rattle.messages.specs.declared.event.MemberEvent.TheVariants.{Declare, Restart, FailServer, StartServer}
use Rattle.messages.specs.declared.message.Message.{Message}
use Rattle.messages.specs.declared.message.Message.TheVariants as message
use Rattle.messages.specs.declared.version.Version.{Version}
use Rattle.messages.specs.declared.version.Version.TheVariants.{First, Second}
use Rattle.node_core.specs.rule.Calls.{is_in_shape, is_pid}
use Rattle.cluster_core.specs.rule.Next.{has_actor, is_known}
use Rattle.cluster_core.specs.rule.Runs.{IsRun, Leads}
use Rattle.cluster_core.specs.rule.World.{WorldState, first_world, has_file, has_node, journal_limit, was_declared}
use Rattle.cluster_core.proofs.runs.EarlyNumbers.{IsEarly, early_run}
use Rattle.cluster_core.proofs.runs.JournalRuns.{leads_push, leads_shape}
use Rattle.cluster_core.proofs.steps.Steps.{next_taken}
use Rattle.lockscript.specs.rule.Served.{IsServedOp}
use Rattle.journal_text.specs.declared.lines.JournalLine.TheVariants.{Answer, End, Entry, Send}
use Rattle.journal_text.specs.declared.named_entry.NamedEntry.{NamedEntry}
use Rattle.journal_text.specs.declared.named_event.NamedEvent.{NamedEvent}
use Rattle.journal_text.specs.declared.named_event.NamedEvent.TheVariants as named
use Rattle.journal_text.specs.rule.Events.{IsServedEvent, call_of, event_of, incarnation_of}
use Rattle.journal_text.specs.code.Fits.{FitsEntry, FitsEvent, FitsIncarnation, FitsMessage, FitsOp, IsServedAnswer}
use Rattle.journal_text.specs.rule.Journals.{journal_text}
use Rattle.journal_text.specs.rule.Lines.{IsServedLine}
use Rattle.journal_text.specs.code.OneText.{IsServedJournal}
use Rattle.journal_text.specs.rule.Readings.{WritesJournal, answer_lines, entry_in, entry_lines, lines_of}
use Rattle.message_text.specs.rule.Texts.{IsCommandNumber, IsServedMessage}
use Rattle.journal_text.proofs.Printed.{read-printed}

within : (few most n : ℕ) → few ≤ most → is_within few n ≡ true → IsNumber most n
within few most n room h =
    let tests = and_parts (nat_le 1 n) (nat_le n few) h in
    let above : 1 ≤ n = grind (arith, nat_tests, tests.0) in
    let below : n ≤ few = grind (arith, nat_tests, tests.1) in
    (above, omega arith)

-- an operation that the cluster admits is within its limits
op-served : (s : ShapeFields) (o : Op) → IsShape s → is_in_shape s o ≡ true → FitsOp o → IsServedOp o
op-served s (op.Process Spawn) shape known fits = tt
op-served s (op.Process (Fork child)) shape known fits = within most_processes most_processes child (omega arith) known
op-served s (op.Process (Open file access)) shape known fits = within s.files most_files file shape.files_in.1 known
op-served s (op.Process (Dup fd)) shape known fits = fits
op-served s (op.Close fd) shape known fits = fits
op-served s op.Exit shape known fits = tt
op-served s (op.Lock call) shape known fits = fits
op-served s (op.Unlock fd kind start len) shape known fits = fits

-- the number of a command is within its limits, if in version 1 it is of the first epoch
number-served : (version : Version) (number : ℕ) → IsCommand number → (may_rebuild version ≡ false → number ≤ greatest_number) → IsCommandNumber version number
number-served First number command early = let begun = command.begun in (omega arith, early refl)
number-served Second number command early = command

rebuilds : (version : Version) → (may_rebuild version ≡ false → ⊥) → may_rebuild version ≡ true
rebuilds First early = absurd (early refl)
rebuilds Second early = refl

message-served : (version : Version) (m : Message) → FitsMessage m → (may_rebuild version ≡ false → IsEarly m) → IsServedMessage version m
message-served version (message.Request file call blocking mode wanted) fits early = fits
message-served version (message.Grant file number call mode span) fits early = (fits.0, number-served version number fits.1 early, fits.2, fits.3)
message-served version (message.Revoke file number holder call mode wanted) fits early = (fits.0, number-served version number fits.1 early, fits.2, fits.3, fits.4)
message-served version (message.Taken file number call) fits early = (fits.0, number-served version number fits.1 early, fits.2)
message-served version (message.Released file number holder call span) fits early = (fits.0, number-served version number fits.1 early, fits.2, fits.3, fits.4)
message-served version (message.Conflict file number holder call lock) fits early = (fits.0, number-served version number fits.1 early, fits.2, fits.3, fits.4)
message-served version (message.Deny file call holder number lock) fits early = (fits.0, fits.1, fits.2, number-served version number fits.3 early, fits.4)
message-served version (message.Freed file holder) fits early = fits
message-served version (message.Hello file number holder) fits early = (rebuilds version early, fits.1, fits.2, fits.3)
message-served version (message.Report file number holder runs) fits early = (rebuilds version early, fits.1, fits.2, fits.3, fits.4)

messages-served : (version : Version) (ms : List Message) → All FitsMessage ms → (may_rebuild version ≡ false → All IsEarly ms) → All (IsServedMessage version) ms
messages-served version ms fits early k d lt = message-served version (slice_index_or ms k d) (fits k d lt) (λ is. early is k d lt)

-- an event with its names, within its limits
record IsNamed (version : Version) (e : Event) (incarnation : ℕ) (call : Option CallId) : Type 0 where
  name : NamedEvent
  event_is : e ≡ event_of name
  incarnation_is : incarnation ≡ incarnation_of name
  call_is : call ≡ call_of name
  event_in : IsServedEvent version name

module _ (w : WorldState) (incarnation : ℕ) (shape : IsShape w.shape) (fits : FitsIncarnation incarnation) where
  node-in : (n : ℕ) → has_node w n ≡ true → IsNumber most_nodes n
  node-in n known = within w.shape.nodes most_nodes n shape.nodes_in.1 known

  file-in : (f : ℕ) → has_file w f ≡ true → IsNumber most_files f
  file-in f known = within w.shape.files most_files f shape.files_in.1 known

  pid-in : (p : ℕ) → is_pid p ≡ true → IsNumber most_processes p
  pid-in p known = within most_processes most_processes p (omega arith) known

  host-in : (n : ℕ) → has_node w n ≡ true → 1 ≤ incarnation → IsHost n incarnation
  host-in n known from = record { node_in = node-in n known; incarnation_in = (from, fits) }

  event-named : (e : Event) (call : Option CallId) → is_known w e ≡ true → FitsEvent e → NamesItsIncarnation e incarnation → IfSome call IsCall → NamesItsCall e call → ((m : Message) → e ≡ Deliver m → may_rebuild w.shape.version ≡ false → IsEarly m) → IsNamed w.shape.version e incarnation call
  event-named (AtNode n (Call pid o)) None known fit from call_in names early = absurd names
  event-named (AtNode n (Call pid o)) (Some id) known fit from call_in names early =
      let parts = and_parts (has_node w n) (is_pid pid && is_in_shape w.shape o) known in
      let rest = and_parts (is_pid pid) (is_in_shape w.shape o) parts.1 in
      record {
        name = named.Call id pid o;
        event_is = ap (λ (k : ℕ). AtNode k (Call pid o)) (sym names);
        incarnation_is = from;
        call_is = refl;
        event_in = (call_in, pid-in pid rest.0, op-served w.shape o shape rest.1 fit);
      }
  event-named (Deliver m) call known fit from call_in names early = record { name = named.Deliver m; event_is = refl; incarnation_is = from; call_is = names; event_in = message-served w.shape.version m fit (early m refl) }
  event-named (AtNode n (Interrupt pid)) call known fit from call_in names early =
      let parts = and_parts (has_node w n) (is_pid pid) known in
      record { name = named.Interrupt (record { node = n; incarnation = incarnation }) pid; event_is = refl; incarnation_is = refl; call_is = names; event_in = (host-in n parts.0 from, pid-in pid parts.1) }
  event-named (AtNode n (Retry pid)) call known fit from call_in names early =
      let parts = and_parts (has_node w n) (is_pid pid) known in
      record { name = named.Retry (record { node = n; incarnation = incarnation }) pid; event_is = refl; incarnation_is = refl; call_is = names; event_in = (host-in n parts.0 from, pid-in pid parts.1) }
  event-named (AtServer file Resend) call known fit from call_in names early = record { name = named.Resend file; event_is = refl; incarnation_is = from; call_is = names; event_in = file-in file (and_parts (has_file w file) true known).0 }
  event-named (Member (Declare n)) call known fit from call_in names early =
      record { name = named.Declare (record { node = n; incarnation = incarnation }); event_is = refl; incarnation_is = refl; call_is = names; event_in = host-in n known from }
  event-named (Member (Restart n)) call known fit from call_in names early =
      record { name = named.Restart (record { node = n; incarnation = incarnation }); event_is = refl; incarnation_is = refl; call_is = names; event_in = host-in n known from }
  event-named (AtServer file (Learn n i)) call known fit from call_in names early =
      let parts = and_parts (has_file w file) (has_node w n && was_declared w n i) known in
      let rest = and_parts (has_node w n) (was_declared w n i) parts.1 in
      let told = and_parts (nat_le 1 i) _ rest.1 in
      let above : 1 ≤ i = grind (arith, nat_tests, told.0) in
      record {
        name = named.Learn file (record { node = n; incarnation = i });
        event_is = refl;
        incarnation_is = from;
        call_is = names;
        event_in = (file-in file parts.0, record { node_in = node-in n rest.0; incarnation_in = (above, fit) });
      }
  event-named (Member (FailServer file)) call known fit from call_in names early =
      let parts = and_parts (may_rebuild w.shape.version) (has_file w file) known in
      record { name = named.FailServer file incarnation; event_is = refl; incarnation_is = refl; call_is = names; event_in = (parts.0, file-in file parts.1, (from, fits)) }
  event-named (Member (StartServer file)) call known fit from call_in names early =
      let parts = and_parts (may_rebuild w.shape.version) (has_file w file) known in
      record { name = named.StartServer file incarnation; event_is = refl; incarnation_is = refl; call_is = names; event_in = (parts.0, file-in file parts.1, (from, fits)) }

-- an entry within its limits
record IsServedEntry (version : Version) (e : EntryFields) : Type 0 where
  event_in : IsNamed version e.event e.incarnation e.call
  reply_in : IfSome e.reply IsServedAnswer
  sends_in : All (IsServedMessage version) e.sends

-- in version 1 all messages that were sent before an entry, and the ones it sends, are of the first epoch
delivered-known : (w : WorldState) (e : Event) (m : Message) → is_known w e ≡ true → e ≡ Deliver m → is_among w.sent m ≡ true
delivered-known w e m known is = (and_parts (has_actor w (addressee m)) (is_among w.sent m) (sym (ap (is_known w) is) ∙ known)).1

leads-served : (s : ShapeFields) (before : List EntryFields) (w v : WorldState) (es : List EntryFields) → IsShape s → s ≡ w.shape → Leads (first_world s) before w → Leads w es v → All FitsEntry es → All (IsServedEntry s.version) es
leads-served s before w v [] shape is_of so_far leads fits = All-nil (IsServedEntry s.version)
leads-served s before w v (e ∷ es) shape is_of so_far leads fits =
    let mid = leads.0 in
    let fit = All-head FitsEntry e es fits in
    let known = (next_taken w e.event (mid, e) leads.1).0 in
    let same = leads_shape w mid (e ∷ []) (mid, leads.1, refl) in
    let longer = leads_push (first_world s) w mid before e so_far leads.1 in
    let here : ShapeFields → Type 0 = λ x. IsNamed x.version e.event e.incarnation e.call in
    let delivered : (m : Message) → e.event ≡ Deliver m → may_rebuild w.shape.version ≡ false → IsEarly m = λ m is never. (early_run s before w (ap (λ (x : ShapeFields). may_rebuild x.version) is_of ∙ never) so_far).1 m (delivered-known w e.event m known is) in
    let named_in = event-named w e.incarnation (subst IsShape is_of shape) fit.incarnation_in e.event e.call known fit.event_in fit.incarnation_named fit.call_in fit.call_named delivered in
    let sent : may_rebuild s.version ≡ false → All IsEarly e.sends = λ never. All-last (λ (d : EntryFields). All IsEarly d.sends) before e (early_run s (before ++ e ∷ []) mid never longer).0 in
    let first : IsServedEntry s.version e = record { event_in = subst here (sym is_of) named_in; reply_in = fit.reply_in; sends_in = messages-served s.version e.sends fit.sends_in sent } in
    All-cons (IsServedEntry s.version) e es first (leads-served s (before ++ e ∷ []) mid v es shape (is_of ∙ sym same) longer leads.2 (All-tail FitsEntry e es fits))
  where
    All-last : (P : EntryFields → Type 0) (xs : List EntryFields) (x : EntryFields) → All P (xs ++ x ∷ []) → P x
    All-last P [] x all = all 0 x (omega arith)
    All-last P (y ∷ ys) x all = All-last P ys x (All-tail P y (ys ++ x ∷ []) all)

answer-in : (version : Version) (reply : Option (CallId × Reply)) → IfSome reply IsServedAnswer → All (IsServedLine version) (answer_lines reply)
answer-in version None good = All-nil (IsServedLine version)
answer-in version (Some answer) good = All-cons (IsServedLine version) (Answer answer.0 answer.1) [] good (All-nil (IsServedLine version))

sends-in : (version : Version) (sends : List Message) → All (IsServedMessage version) sends → All (IsServedLine version) (map Send sends)
sends-in version [] good = All-nil (IsServedLine version)
sends-in version (m ∷ ms) good = All-cons (IsServedLine version) (Send m) (map Send ms) (All-head (IsServedMessage version) m ms good) (sends-in version ms (All-tail (IsServedMessage version) m ms good))

-- entries with the names in their events, whose lines from this position on are within their limits
record Named (version : Version) (position : ℕ) (es : List EntryFields) : Type 0 where
  entries : List NamedEntry
  same : es ≡ map entry_in entries
  lines_in : All (IsServedLine version) (lines_of position entries)

entries-named : (version : Version) (position : ℕ) (es : List EntryFields) → 1 ≤ position → position + length es ≤ 4294967296 → All (IsServedEntry version) es → Named version position es
entries-named version position [] from to good = record { entries = []; same = refl; lines_in = All-nil (IsServedLine version) }
entries-named version position (e ∷ es) from to good =
    let first = All-head (IsServedEntry version) e es good in
    let rest = entries-named version (position + 1) es (omega arith) (omega arith) (All-tail (IsServedEntry version) e es good) in
    let one : NamedEntry = record { event = first.event_in.name; reply = e.reply; sends = e.sends } in
    let tail = All-append (IsServedLine version) (answer_lines e.reply) (map Send e.sends) (answer-in version e.reply first.reply_in) (sends-in version e.sends first.sends_in) in
    let lines = All-cons (IsServedLine version) (Entry position first.event_in.name) (answer_lines e.reply ++ map Send e.sends) ((from, omega arith), first.event_in.event_in) tail in
    let is : e ≡ entry_in one = λ i. record { event = first.event_in.event_is i; incarnation = first.event_in.incarnation_is i; call = first.event_in.call_is i; reply = e.reply; sends = e.sends } in
    record {
      entries = one ∷ rest.entries;
      same = λ i. is i ∷ rest.same i;
      lines_in = All-append (IsServedLine version) (entry_lines position one) (lines_of (position + 1) rest.entries) lines rest.lines_in;
    }

entries-served : (s : ShapeFields) (es : List EntryFields) → IsShape s → length es ≤ 4294967295 → All (IsServedEntry s.version) es → IsServedJournal s es
entries-served s es shape few good =
    let n = entries-named s.version 1 es (omega arith) (omega arith) good in
    let count : length n.entries ≡ length es = sym (length-map n.entries entry_in) ∙ sym (ap length n.same) in
    record {
      named = n.entries;
      same = n.same;
      shape_in = shape;
      lines_in = All-append (IsServedLine s.version) (lines_of 1 n.entries) (End (length n.entries) ∷ []) n.lines_in
          (All-cons (IsServedLine s.version) (End (length n.entries)) [] (subst (λ (k : ℕ). k ≤ 4294967295) (sym count) few) (All-nil (IsServedLine s.version)));
    }

-- the text that is printed of a run is that run
pub read-run : (s : ShapeFields) (es : List EntryFields) → IsShape s → length es ≤ journal_limit → IsRun s es → All FitsEntry es → WritesJournal (journal_text s es) s es
read-run s es shape few run fits =
    read-printed s es (entries-served s es shape (omega (arith, few)) (leads-served s [] (first_world s) run.0 es shape refl refl run.1 fits))
