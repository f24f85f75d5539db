-- A planned step changes the node as the rule says.
use Rattle.std.specs.Prelude.{◌≡◌, ℕ, ◌+◌, ◌<◌, ◌==◌, ◌&&◌, Bool, true, false, not, if◌then◌else◌, List, [], ◌∷◌, ◌++◌, All, length, Option, Some, Result, Ok, Err, IfOk, filter, refl, ◌||◌, nat_lt, None}
use Rattle.std.specs.declared.alloc.AllocError.{AllocError}
use Rattle.std.proofs.Common.{arith, ap, sym, subst, ◌∙◌}
use Rattle.std.proofs.lemmas.Bool.{ne_eqb, eq-eqb}
use Rattle.std.proofs.lemmas.List.Elements.{All-nil, All-cons, All-head, All-tail, All-filter, All-push}
use Rattle.model.specs.declared.call.CallId.{CallId}
use Rattle.model.specs.declared.host.Host.{Host}
use Rattle.model.specs.declared.opened.Opened.{Opened}
use Rattle.model.specs.rule.Descriptors.{Processes, no_processes}
use Rattle.model.specs.rule.Limits.{IsNumber}
use Rattle.model.specs.rule.Table.{descriptor}
use Rattle.model.proofs.Closings.{open_if, open_exited}
use Rattle.fcntl_table.specs.rule.Hosts.{process_at, shown, with_host}
use Rattle.fcntl_table.proofs.ExitLaws.{at_node}
use Rattle.lock_table.specs.rule.Tables.{TableParts, held}
use Rattle.messages.specs.declared.message.Message.{Message}
use Rattle.messages.specs.declared.message.Message.TheVariants.{Freed, Taken}
use Rattle.messages.specs.declared.refusal.StepError.{StepError}
use Rattle.messages.specs.declared.outcome.Outcome.{Outcome}
use Rattle.node_core.specs.declared.change.NodeChange.{NodeChange}
use Rattle.node_core.specs.declared.event.NodeEvent.{NodeEvent}
use Rattle.node_core.specs.rule.Anchors.{IsAnchored}
use Rattle.node_core.specs.rule.Node.{node_rule}
use Rattle.node_core.proofs.AnchorLaws.{rule-anchored}
use Rattle.descriptors.specs.declared.process_entry.ProcessEntry.{ProcessEntry}
use Rattle.descriptors.specs.declared.edit.ProcessEdit.{ProcessEdit}
use Rattle.descriptors.specs.code.Edits.{edited}
use Rattle.node_core.specs.declared.node_edit.NodeEdit.{NodeEdit}
use Rattle.node_core.specs.declared.node_edit.NodeTableEdit.{NodeTableEdit}
use Rattle.node_core.specs.declared.node_edit.NodeTableEdit.TheVariants.{Nothing, OfProcess, OfLocks, Closes, Exits}
use Rattle.node_core.specs.declared.effect.Effect.{Effect as EffectFields}
use Rattle.node_core.specs.declared.file_row.FileRow.{FileRow}
use Rattle.node_core.specs.declared.open_call.OpenCall.{OpenCall}
use Rattle.node_core.specs.declared.open_calls.CallsEdit.{CallsEdit}
use Rattle.node_core.specs.declared.open_calls.CallsEdit.TheVariants.{Same, Put, Gone, Left}
use Rattle.descriptors.specs.rule.Rows.{processes}
use Rattle.node_core.specs.rule.Files.{file_state}
use Rattle.node_core.specs.rule.State.{FileState, NodeState, Effect, host, outcome, sent, open_call}
use Rattle.node_core.specs.rule.Try.{with_freed, tried_if}
use Rattle.node_core.specs.rule.Parts.{NodeParts, node_state, IsOwnCall, IsNode, out_of_order}
use Rattle.node_core.specs.code.Plans.{calls_after, table_after, pending_after, edit_in, files_after, told, files_told, drafted, made, planned, effect_of, TellsOf, TableFits, CallsFit, EditFits, PartsFit, Fits}
use Rattle.node_core.proofs.NodeLaws.{around-own}
use Rattle.intervals.specs.rule.Bytes.{Range}
use Rattle.model.specs.declared.mode.Mode.{Mode}
use Rattle.token_set.specs.rule.Tokens.{Token, raised, gave_up, after_giving_up}
use Rattle.messages.specs.rule.Shapes.{begin_of}
use Rattle.messages.specs.rule.TokenRuns.{Wants}
use Rattle.node_core.specs.rule.Commands.{renewed, in_epoch, in_order, before, after_command, answer_to, is_conflict, granted, revoked}

pub on : {A : Type 0} (b : Bool) (x y : A) → b ≡ true → (if b then x else y) ≡ x
on b x y h = ap (λ (c : Bool). if c then x else y) h

-- a file behind the ones for which a Freed is sent stays as it is
told-other : (files : ℕ → FileState) (freed : List ℕ) (file : ℕ) → All (λ f. f < file) freed → files_told files freed file ≡ files file
told-other files [] file below = refl
told-other files (f ∷ more) file below =
    let first : f < file = All-head (λ k. k < file) f more below in
    let other : file ≡ f → ⊥ = λ same. omega arith in
    told-other (told files f) more file (All-tail (λ k. k < file) f more below)
    ∙ ap (λ (b : Bool). if b then record (files f) { owes_freed = false } else files file) (ne_eqb file f other)

-- a Freed is sent for one more file
pub told-push : (files : ℕ → FileState) (freed : List ℕ) (file : ℕ) → files_told files (freed ++ file ∷ []) ≡ told (files_told files freed) file
told-push files [] file = refl
told-push files (f ∷ more) file = told-push (told files f) more file

-- the files for which a Freed is sent are still below the next number
rises-more : (freed : List ℕ) (file : ℕ) → All (λ f. f < file) freed → All (λ f. f < file + 1) freed
rises-more [] file rises = All-nil (λ f. f < file + 1)
rises-more (f ∷ more) file rises =
    let first : f < file = All-head (λ k. k < file) f more rises in
    let here : f < file + 1 = omega arith in
    All-cons (λ k. k < file + 1) f more here (rises-more more file (All-tail (λ k. k < file) f more rises))

owes-still : (p : NodeParts) (e : EffectFields) (file : ℕ) (b : Bool) → All (λ f. f < file) e.edit.value.freed → ((drafted p e.edit.value.draft).files file).owes_freed ≡ b → ((planned p e.edit).files file).owes_freed ≡ b
owes-still p e file b rises asked =
    ap (λ (f : FileState). f.owes_freed) (told-other (drafted p e.edit.value.draft).files e.edit.value.freed file rises) ∙ asked

-- the effect of a step that sends a Freed for one more file, which is owed
pub told-effect : (p : NodeParts) (e : EffectFields) (file : ℕ) (r : Result EffectFields AllocError) → All (λ f. f < file) e.edit.value.freed → ((drafted p e.edit.value.draft).files file).owes_freed ≡ true → IfOk r (TellsOf file (Freed file (host (node_state p))) e) → IfOk r (λ told. with_freed file (effect_of p e) ≡ effect_of p told)
told-effect p e file (Err x) rises asked same = tt
told-effect p e file (Ok t) rises asked same =
    let files = (drafted p e.edit.value.draft).files in
    let hears : (ℕ → FileState) → Effect = λ known. record { state = record (planned p e.edit) { files = known }; reply = e.reply; sends = e.sends ++ Freed file (host (node_state p)) ∷ [] } in
    on ((planned p e.edit).files file).owes_freed (hears (told (files_told files e.edit.value.freed) file)) (effect_of p e) (owes-still p e file true rises asked)
    ∙ ap hears (sym (told-push files e.edit.value.freed file))
    ∙ sym (λ i. record { state = made p (same.0 i); reply = same.1 i; sends = same.2 i })

-- a change still fits if it sends a Freed for one more file
pub told-fits : (p : NodeParts) (e : EffectFields) (file : ℕ) (m : Message) (r : Result EffectFields AllocError) → PartsFit p e.edit → IsNumber (node_state p).shape.files file → IfOk r (TellsOf file m e) → IfOk r (λ t. PartsFit p t.edit)
told-fits p e file m (Err x) fits within same = tt
told-fits p e file m (Ok t) fits within same =
    subst (EditFits p) (sym same.0) (fits.0, fits.1, fits.2, All-push (IsNumber (node_state p).shape.files) e.edit.value.freed file fits.3 within)

-- the files for which a Freed is sent still rise
pub told-rises : (e : EffectFields) (file : ℕ) (m : Message) (r : Result EffectFields AllocError) → All (λ f. f < file) e.edit.value.freed → IfOk r (TellsOf file m e) → IfOk r (λ t. All (λ f. f < file + 1) t.edit.value.freed)
told-rises e file m (Err x) rises same = tt
told-rises e file m (Ok t) rises same =
    let here : file < file + 1 = omega arith in
    subst (λ (x : NodeEdit). All (λ f. f < file + 1) x.freed) (sym same.0) (All-push (λ f. f < file + 1) e.edit.value.freed file (rises-more e.edit.value.freed file rises) here)

-- the effect of a step stays if no Freed is owed for the file
pub told-nothing : (p : NodeParts) (e : EffectFields) (file : ℕ) → All (λ f. f < file) e.edit.value.freed → ((drafted p e.edit.value.draft).files file).owes_freed ≡ false → with_freed file (effect_of p e) ≡ effect_of p e
told-nothing p e file rises asked =
    let files = (drafted p e.edit.value.draft).files in
    let heard : Effect = record { state = record (planned p e.edit) { files = told (files_told files e.edit.value.freed) file }; reply = e.reply; sends = e.sends ++ Freed file (host (node_state p)) ∷ [] } in
    ap (λ (b : Bool). if b then heard else effect_of p e) (owes-still p e file false rises asked)

-- the outcome of a planned step is the one of its effect
pub outcome-planned : (p : NodeParts) (E : Effect) (e : EffectFields) (call : Option CallId) (change : NodeChange) → E ≡ effect_of p e → change ≡ record { edit = e.edit; outcome = record { call = call; reply = e.reply; sends = e.sends } } → outcome call E ≡ (planned p change.edit, change.outcome)
outcome-planned p E e call change is made = ap (outcome call) is ∙ sym (ap (λ (x : NodeChange). (planned p x.edit, x.outcome)) made)

pub if-if : {A : Type 0} (b : Bool) (x y z : A) → (if b then x else (if b then y else z)) ≡ (if b then x else z)
if-if true x y z = refl
if-if false x y z = refl

-- the parts of a node after a change
abbrev changed : NodeParts → ℕ → List ProcessEntry → TableParts → List OpenCall → List FileRow → NodeParts
changed p calls rows locks pending files = record p { calls = calls; processes = rows; locks = locks; pending = pending; files = files }

-- the processes and locks of a host after a change
abbrev pub Leaves : Host → List ProcessEntry → TableParts → NodeTableEdit → List ProcessEntry → TableParts → Type 0
Leaves h rows locks e rows_left locks_left = (on : ℕ → ℕ → Processes) → shown on h rows_left locks_left ≡ table_after h (shown on h rows locks) e

pub processes-left : (h : Host) (rows left : List ProcessEntry) (locks : TableParts) (e : ProcessEdit) → processes left ≡ edited (processes rows) e → Leaves h rows locks (OfProcess e) left locks
processes-left h rows left locks e made on =
    let own : Processes = with_host on h (processes rows) h.node h.incarnation in
    let is : processes left ≡ edited own e = made ∙ ap (λ (ps : Processes). edited ps e) (sym (at_node on h (processes rows))) in
    (λ i. record { limit = locks.limit; on = with_host on h (is i); locks = held locks })
    ∙ sym (λ i. record { limit = locks.limit; on = λ n k. if-if ((n == h.node) && (k == h.incarnation)) (edited own e) (processes rows) (on n k) i; locks = held locks })

pub node-planned : (p : NodeParts) (e : NodeEdit) (calls : ℕ) (rows : List ProcessEntry) (locks : TableParts) (pending : List OpenCall) (files : List FileRow) → calls ≡ calls_after p.calls e.draft.numbered → Leaves (host (node_state p)) p.processes p.locks e.table rows locks → pending ≡ pending_after p.pending e.calls → file_state files ≡ files_told (files_after (file_state p.files) p.files (edit_in e.draft.command)) e.freed → node_state (changed p calls rows locks pending files) ≡ made p e
unfolding node_state
node-planned p e calls rows locks pending files counted leaves left known =
    let table = leaves (λ n k. no_processes) in
    λ i. record {
      shape = p.shape;
      node = p.node;
      incarnation = p.incarnation;
      calls = counted i;
      table = table i;
      pending = left i;
      files = known i;
    }

-- the open descriptors are of files of the shape before the change
opened-before : (p : NodeParts) → IsNode p → (pid fd : ℕ) (o : Opened) → ((node_state p).table.on p.node p.incarnation).opened pid fd ≡ Some o → IsNumber p.shape.files o.file
unfolding node_state
opened-before p h pid fd o is = h.opened_in pid fd o (ap (λ (ps : Processes). ps.opened pid fd) (sym (around-own p 0)) ∙ is)

-- the open descriptors are of files of the shape after the change
opened-after : (p : NodeParts) (e : NodeTableEdit) → TableFits p e → IsNode p → (pid fd : ℕ) (o : Opened) → ((table_after (host (node_state p)) (node_state p).table e).on p.node p.incarnation).opened pid fd ≡ Some o → IsNumber p.shape.files o.file
unfolding node_state
opened-after p Nothing fit h pid fd o is = opened-before p h pid fd o is
opened-after p (OfProcess e) fit h pid fd o is =
    let own : Processes = (node_state p).table.on p.node p.incarnation in
    let now = at_node (node_state p).table.on (host (node_state p)) (edited own e) ∙ ap (λ (ps : Processes). edited ps e) (around-own p 0) in
    fit.1 pid fd o (ap (λ (ps : Processes). ps.opened pid fd) (sym now) ∙ is)
opened-after p (OfLocks e) fit h pid fd o is = opened-before p h pid fd o is
opened-after p (Closes q k) fit h pid fd o is =
    let t = (node_state p).table in
    let me = process_at (host (node_state p)) q in
    opened-before p h pid fd o (open_if me t k (descriptor t me k) pid fd o is)
opened-after p (Exits q) fit h pid fd o is = opened-before p h pid fd o (open_exited (process_at (host (node_state p)) q) (node_state p).table pid fd o is)

calls-edited : (p : NodeParts) (edit : CallsEdit) → CallsFit p edit → IsNode p → All (IsOwnCall p.shape.files p.node p.incarnation) (pending_after p.pending edit)
unfolding node_state
calls-edited p Same fit h = h.calls_in
calls-edited p (Put call room) fit h = All-push (IsOwnCall p.shape.files p.node p.incarnation) p.pending call h.calls_in fit.1
calls-edited p (Gone number) fit h = All-filter (λ c. not (c.number == number)) (IsOwnCall p.shape.files p.node p.incarnation) p.pending h.calls_in
calls-edited p (Left pid number) fit h =
    let theirs : OpenCall → Bool = λ c. not (c.pid == pid) in
    All-filter (λ c. not (c.number == number)) (IsOwnCall p.shape.files p.node p.incarnation) (filter theirs p.pending) (All-filter theirs (IsOwnCall p.shape.files p.node p.incarnation) p.pending h.calls_in)

-- the node is sound after a change that fits
pub node-edited : (p : NodeParts) (e : NodeEdit) (calls : ℕ) (rows : List ProcessEntry) (locks : TableParts) (pending : List OpenCall) (files : List FileRow) → pending ≡ pending_after p.pending e.calls → length files ≡ length p.files → node_state (changed p calls rows locks pending files) ≡ made p e → EditFits p e × IsAnchored (made p e) → IsNode p → IsNode (changed p calls rows locks pending files)
unfolding node_state
node-edited p e calls rows locks pending files left count is fit h = record {
  host = h.host;
  anchored = subst IsAnchored (sym is) fit.1;
  files_in = count ∙ h.files_in;
  opened_in = λ pid fd o there.
      let now = ap (λ (s : NodeState). s.table.on s.node s.incarnation) (sym is) ∙ around-own (changed p calls rows locks pending files) 0 in
      opened-after p e.table fit.0.1 h pid fd o (ap (λ (ps : Processes). ps.opened pid fd) now ∙ there);
  calls_in = subst (All (IsOwnCall p.shape.files p.node p.incarnation)) (sym left) (calls-edited p e.calls fit.0.2 h);
}

-- no lock of a node outlives its descriptors
node-is-anchored : (p : NodeParts) → IsNode p → IsAnchored (node_state p)
unfolding node_state
node-is-anchored p h = h.anchored

-- a planned step fits the node
pub step-fits : (p : NodeParts) (e : NodeEvent) (r : Result NodeChange StepError) → IsNode p → IfOk r (λ c. node_rule (node_state p) e ≡ Ok (planned p c.edit, c.outcome)) → IfOk r (λ c. PartsFit p c.edit) → IfOk r (λ c. Fits p c.edit)
step-fits p e (Err x) h is fits = tt
step-fits p e (Ok c) h is fits = (fits, subst (λ (r : Result (NodeState × Outcome) StepError). IfOk r (λ done. IsAnchored done.0)) is (rule-anchored (node_state p) e (node-is-anchored p h)))

-- the file of the command is as `renewed` says
pub in_epoch-file : (s : NodeState) (file number : ℕ) → (in_epoch s file number).files file ≡ renewed (s.files file) number
in_epoch-file s file number = ap (λ (b : Bool). if b then renewed (s.files file) number else s.files file) (eq-eqb file file refl)

-- entering an epoch keeps the token, and whether a Freed is owed
renewed-token : (f : FileState) (number : ℕ) → (renewed f number).token ≡ f.token
renewed-token f number = by (nat_lt f.last (begin_of number))
  where
    by : (b : Bool) → (if b then record f { last = begin_of number; answer = None } else f).token ≡ f.token
    by true = refl
    by false = refl

renewed-owes : (f : FileState) (number : ℕ) → (renewed f number).owes_freed ≡ f.owes_freed
renewed-owes f number = by (nat_lt f.last (begin_of number))
  where
    by : (b : Bool) → (if b then record f { last = begin_of number; answer = None } else f).owes_freed ≡ f.owes_freed
    by true = refl
    by false = refl

token-in : (s : NodeState) (file number : ℕ) → ((in_epoch s file number).files file).token ≡ (s.files file).token
token-in s file number = ap (λ (f : FileState). f.token) (in_epoch-file s file number) ∙ renewed-token (s.files file) number

owes-in : (s : NodeState) (file number : ℕ) → ((in_epoch s file number).files file).owes_freed ≡ (s.files file).owes_freed
owes-in s file number = ap (λ (f : FileState). f.owes_freed) (in_epoch-file s file number) ∙ renewed-owes (s.files file) number

-- what a done command makes of the file doesn't depend on what the file had before
done-in : (s : NodeState) (file number : ℕ) (token : Token) (answer : Message) (owes_freed : Bool) → after_command (in_epoch s file number) file token number answer owes_freed ≡ after_command s file token number answer owes_freed
done-in s file number token answer owes_freed =
    let done : FileState = record { token = token; last = number; answer = Some answer; owes_freed = owes_freed } in
    λ i. record s { files = λ f. if-if (f == file) done (renewed (s.files file) number) (s.files f) i }

pub granted-in : (s : NodeState) (file number : ℕ) (call : CallId) (mode : Mode) (span : Range) → granted (in_epoch s file number) file number call mode span ≡ granted s file number call mode span
granted-in s file number call mode span =
    let answer = Taken file number call in
    let tries : NodeState → Effect = λ next. before answer (tried_if next (open_call next call.number)) in
    (λ i. tries (after_command (in_epoch s file number) file (raised (token-in s file number i) span mode) number answer (owes-in s file number i)))
    ∙ ap tries (done-in s file number (raised (s.files file).token span mode) answer (s.files file).owes_freed)

pub revoked-in : (s : NodeState) (file number : ℕ) (call : CallId) (mode : Mode) (wanted : Wants) → revoked (in_epoch s file number) file number call mode wanted ≡ revoked s file number call mode wanted
revoked-in s file number call mode wanted =
    let gives = gave_up (s.table.locks file) s.node s.incarnation mode wanted.required wanted.desired in
    let answer = answer_to file number (host s) call gives in
    (λ i. sent (after_command (in_epoch s file number) file (after_giving_up (token-in s file number i) mode gives) number answer (is_conflict gives || owes-in s file number i)) answer)
    ∙ ap (λ (next : NodeState). sent next answer) (done-in s file number (after_giving_up (s.files file).token mode gives) answer (is_conflict gives || (s.files file).owes_freed))

-- an effect with one message put before the others
pub effect-before : (p : NodeParts) (does : Effect) (first : Message) (e : EffectFields) (r : Result EffectFields AllocError) → does ≡ effect_of p e → IfOk r (λ a. a ≡ record { edit = e.edit; reply = e.reply; sends = first ∷ e.sends }) → IfOk r (λ a. before first does ≡ effect_of p a)
effect-before p does first e (Err x) is made = tt
effect-before p does first e (Ok a) is made = ap (before first) is ∙ sym (ap (effect_of p) made)

-- a command that is next in its epoch is done
pub in_order-next : (s : NodeState) (p : NodeParts) (file number : ℕ) (done same : Effect) (r : Result EffectFields AllocError) → (number == (s.files file).last + 1) ≡ true → done ≡ same → IfOk r (λ e. same ≡ effect_of p e) → IfOk r (λ e. in_order s file number done ≡ effect_of p e)
in_order-next s p file number done same r next is made =
    subst (λ (x : Effect). IfOk r (λ e. x ≡ effect_of p e)) (sym (on (number == (s.files file).last + 1) done (out_of_order s file number) next ∙ is)) made
