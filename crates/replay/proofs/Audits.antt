-- Audits, one entry more at a time.
use Rattle.std.proofs.Common.{◌≡◌, ℕ, ◌+◌, ◌<◌, ◌≤◌, true, false, List, [], ◌∷◌, ◌++◌, Option, Some, None, Ok, inl, inr, refl, ap, ◌∙◌, arith, length, append_assoc, length-append, Result, Err}
use Rattle.std.specs.Prelude.{◌≢◌, is_some, IfErr, IsUtf8}
use Rattle.std.proofs.lemmas.Bool.{cases_lt}
use Rattle.messages.specs.rule.Shapes.{ShapeFields}
use Rattle.messages.specs.declared.entry.Entry.{Entry}
use Rattle.cluster_core.specs.rule.Next.{next}
use Rattle.cluster_core.specs.rule.World.{WorldState, first_world, journal_limit}
use Rattle.cluster_core.proofs.common.Lengths.{leads-count}
use Rattle.cluster_core.proofs.runs.JournalRuns.{leads_push}
use Rattle.cluster_core.specs.rule.Journals.{IsFirstWrong, JournalFields}
use Rattle.replay.specs.rule.Audits.{Counts, IsVerdict, Tells, HasJournal, WritesFew}
use Rattle.lockscript.specs.declared.error.ParseError.TheVariants.{NoMemory, BadLine}
use Rattle.journal_text.specs.rule.Readings.{HasLength}
use Rattle.replay.specs.declared.fault.Fault.{Fault}
use Rattle.replay.specs.declared.fault.Fault.TheVariants as fault
use Rattle.replay.specs.rule.Faults.{IsJournalFault, IsTextFault}

-- one entry more is counted, up to one more than a journal may have
pub counts-more : (taken after : ℕ) (es : List Entry) (e : Entry) → (taken ≤ journal_limit → after ≡ taken + 1) → (journal_limit < taken → after ≡ taken) → Counts taken es → Counts after (es ++ e ∷ [])
counts-more taken after es e more full counts =
    let longer = length-append es (e ∷ []) in
    elim (cases_lt journal_limit taken) [
      | inl over ↦ (λ few. absurd (omega (arith, few, over, full over)), λ _. omega (arith, counts.1 over, longer))
      | inr within ↦
          let same = counts.0 within in
          let next = more within in
          (λ _. omega (arith, same, next, longer), λ many. omega (arith, many, same, next, longer))
    ]

-- the next step
pub tells-next : (shape : ShapeFields) (w v : WorldState) (wrong : Option ℕ) (es : List Entry) (e : Entry) → is_some wrong ≡ false → next w e.event ≡ Ok (v, e) → Tells shape w wrong es → Tells shape v wrong (es ++ e ∷ [])
tells-next shape w v None es e none step leads = leads_push (first_world shape) w v es e leads step
tells-next shape w v (Some wrong) es e none step knows = absurd (cc)

-- the first that is not
pub tells-wrong : (shape : ShapeFields) (w v : WorldState) (taken position : ℕ) (wrong : Option ℕ) (es : List Entry) (e : Entry) → is_some wrong ≡ false → (taken ≤ journal_limit → position ≡ taken + 1)
    → (w.length < journal_limit → (u : WorldState) → next w e.event ≢ Ok (u, e)) → Counts taken es → Tells shape w wrong es → Tells shape v (Some position) (es ++ e ∷ [])
tells-wrong shape w v taken position None es e none counted other counts leads = λ few.
    let more = length-append es (e ∷ []) in
    let within : taken ≤ journal_limit = elim (cases_lt journal_limit taken) [ inl over ↦ absurd (omega (arith, few, more, counts.1 over)) | inr less ↦ less ] in
    let same = counts.0 within in
    record {
      before = es;
      world = w;
      leads = leads;
      wrong = e;
      rest = [];
      in_order = refl;
      stands_there = omega (arith, counted within, same);
      not_next = other (omega (arith, few, more, leads-count (first_world shape) w es leads));
    }
tells-wrong shape w v taken position (Some wrong) es e none counted other counts knows = absurd (cc)

-- those behind it change nothing
pub tells-more : (shape : ShapeFields) (w : WorldState) (wrong : Option ℕ) (es : List Entry) (e : Entry) → is_some wrong ≡ true → Tells shape w wrong es → Tells shape w wrong (es ++ e ∷ [])
tells-more shape w None es e some knows = absurd (cc)
tells-more shape w (Some position) es e some knows = λ few.
    let before : IsFirstWrong shape es position = knows (omega (arith, few, length-append es (e ∷ []))) in
    record {
      before = before.before;
      world = before.world;
      leads = before.leads;
      wrong = before.wrong;
      rest = before.rest ++ e ∷ [];
      in_order = ap (λ (xs : List Entry). xs ++ e ∷ []) before.in_order ∙ append_assoc before.before (before.wrong ∷ before.rest) (e ∷ []);
      stands_there = before.stands_there;
      not_next = before.not_next;
    }

-- at the end
pub verdict : (shape : ShapeFields) (w : WorldState) (wrong : Option ℕ) (es : List Entry) → length es ≤ journal_limit → Tells shape w wrong es → IsVerdict (record { shape = shape; entries = es }) wrong
verdict shape w None es few leads = (w, leads)
verdict shape w (Some position) es few knows = knows few

-- what the text writes, the file does
pub has-journal : (Holds : Option (List ℕ) → Type 0) (bytes : List ℕ) (j : JournalFields) → Holds (Some bytes) → IsUtf8 bytes → WritesFew bytes j → HasJournal Holds j
has-journal Holds bytes j holds text writes = ((bytes, holds, text, writes.0), writes.1)

-- a fault of the text is one of the file
pub text-fault : (Holds : Option (List ℕ) → Type 0) (RanShort : Type 0) (path bytes : List ℕ) (f : Fault) → Holds (Some bytes) → IsUtf8 bytes → IsTextFault bytes f → IsJournalFault Holds RanShort path f
text-fault Holds RanShort path bytes (fault.BadLine line) holds text is = (bytes, holds, text, is)
text-fault Holds RanShort path bytes (fault.CannotRead named reason) holds text is = absurd is
text-fault Holds RanShort path bytes (fault.CannotWrite named reason) holds text is = absurd is
text-fault Holds RanShort path bytes fault.CannotWriteOutput holds text is = absurd is
text-fault Holds RanShort path bytes fault.NoMemory holds text is = inr (is.0, has-journal Holds bytes is.0 holds text is.1)
text-fault Holds RanShort path bytes fault.JournalFull holds text is = (is.0, (bytes, holds, text, is.1), is.2)
text-fault Holds RanShort path bytes fault.OldJournal holds text is = absurd is
text-fault Holds RanShort path bytes (fault.Faulty report) holds text is = absurd is

-- the text was measured, and is not too long
pub record IsMeasured (bytes : List ℕ) (s : ShapeFields) (count : ℕ) : Type 0 where
  pub measured : HasLength bytes s count
  pub within : count ≤ journal_limit

pub short-fault : (bytes : List ℕ) (s : ShapeFields) (count : ℕ) → IsMeasured bytes s count → IsTextFault bytes fault.NoMemory
short-fault bytes s count is = (record { shape = s; entries = is.measured.0 }, (is.measured.1, omega (arith, is.measured.2, is.within)))

-- what the walk over the text tells, but want of memory, is a fault of it, and so is that once it was measured
told-fault : (bytes : List ℕ) (f : Fault) → (f ≢ fault.NoMemory → IsTextFault bytes f) → IsTextFault bytes fault.NoMemory → IsTextFault bytes f
told-fault bytes (fault.BadLine line) told short = told (λ e. absurd (cc))
told-fault bytes (fault.CannotRead named reason) told short = told (λ e. absurd (cc))
told-fault bytes (fault.CannotWrite named reason) told short = told (λ e. absurd (cc))
told-fault bytes fault.CannotWriteOutput told short = told (λ e. absurd (cc))
told-fault bytes fault.NoMemory told short = short
told-fault bytes fault.JournalFull told short = told (λ e. absurd (cc))
told-fault bytes fault.OldJournal told short = told (λ e. absurd (cc))
told-fault bytes (fault.Faulty report) told short = told (λ e. absurd (cc))

pub told-result : {A : Type 0} (bytes : List ℕ) (s : ShapeFields) (count : ℕ) (r : Result A Fault) → IfErr r (λ f. f ≢ fault.NoMemory → IsTextFault bytes f) → IsMeasured bytes s count → IfErr r (IsTextFault bytes)
told-result bytes s count (Ok made) told is = told
told-result bytes s count (Err f) told is = told-fault bytes f told (short-fault bytes s count is)
