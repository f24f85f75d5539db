-- The kinds of messages and their fields: no two values share a text.
use Rattle.std.proofs.Common.{◌≡◌, ℕ, ◌≤◌, List, ◌∷◌, ◌++◌, arith, append_assoc, ap, codes, decimal, refl, zero, ◌+◌, ◌-◌, ◌*◌, ◌/◌, ◌<◌, sym, ◌∙◌, [], All, length, true, inl, inr, ◌≢◌, None, Option, Some}
use Rattle.std.specs.Prelude.{⊤}
use Rattle.std.proofs.lemmas.Fmt.{decimal_injective}
use Rattle.intervals.specs.rule.Bytes.{Range, greatest}
use Rattle.model.specs.declared.lock_info.LockInfo.{LockInfo}
use Rattle.model.specs.declared.mode.Mode.{Mode}
use Rattle.model.specs.declared.owner.Owner.{Owner}
use Rattle.model.specs.rule.Limits.{IsOwner, IsNumber, most_processes}
use Rattle.messages.specs.rule.TokenRuns.{Wants}
use Rattle.texts.specs.rule.Reads.{Both, IsWithin, pair_text, Lacks, Reads}
use Rattle.message_text.specs.rule.Texts.{lock_text, owner_text, holder_text, AreServedWants, IsServedLock, IsServedSpan, IsCommandNumber, IsCounted, AreServedRuns, IsFile, IsServedMessage, IsHolder, span_text, wants_text, command_text, epoch_text, run_text, runs_text, blocking_text, message_text}
use Rattle.texts.specs.rule.Words.{mode_text, level_text}
use Rattle.texts.proofs.Pairs.{AreWords, AreApart, AllLack, same-split}
use Rattle.texts.proofs.SingleWords.{Lacks-decimal, lacks-tested}
use Rattle.message_text.proofs.NameTexts.{AreFields, AreTexts, both, mode, number, viewed, up_to, where_so, owner, call, holder, Views, apart-blocking, lacks-append, blocking_words, holder_words, Variant, of_variants, variant, none-of, file_words}
use Rattle.std.proofs.Math.Nat.{div-lt_iff_lt-mul, div-mul-le_self, lt-div-mul-add}
use Rattle.std.proofs.lemmas.Nat.{div-mul-add}
use Rattle.messages.specs.rule.Shapes.{IsCommand, IsEpoch, IsRebuilt, before_epoch, begin_of, epoch_of, most_files, may_rebuild}
use Rattle.messages.specs.declared.version.Version.TheVariants.{Second, First}
use Rattle.texts.proofs.FieldValues.{apart-number}
use Rattle.std.specs.List.{flat_map}
use Rattle.std.proofs.lemmas.List.Elements.{All-head, All-tail}
use Rattle.model.specs.declared.level.Level.TheVariants.{Shared, Exclusive}
use Rattle.messages.specs.declared.message.Blocking.TheVariants.{No, Yes}
use Rattle.messages.specs.declared.token_run.TokenRun.{TokenRun}
use Rattle.messages.specs.declared.version.Version.{Version}
use Rattle.texts.specs.rule.Layout.{space}
use Rattle.texts.specs.rule.LineFeeds.{line_feed}
use Rattle.message_text.proofs.ReportWords.{apart-runs, few_runs, is_runs_text}
use Rattle.messages.specs.declared.message.Message.TheVariants.{Request, Grant, Revoke, Taken, Released, Conflict, Deny, Freed, Hello, Report}
use Rattle.texts.proofs.FirstWords.{BeginsWithWord}
use Rattle.model.specs.declared.host.Host.{Host}
use Rattle.message_text.specs.code.Reports.{IsRunsText, MessagesHaveTexts}
use Rattle.messages.specs.declared.message.Message.{Message}

-- the offset of a byte
abbrev pub IsOffset : ℕ → Type 0
IsOffset = IsWithin 0 greatest

pub offset_in : (n : ℕ) → n ≤ greatest → IsOffset n
offset_in n high = (omega arith, high)

pub offset_words : AreWords decimal IsOffset
offset_words n fits = Lacks-decimal n (omega (arith, fits.1))

offset : AreFields decimal IsOffset
offset = record {
  words = offset_words;
  texts = record { apart = λ m n m_in n_in e. decimal_injective m n (omega (arith, m_in.1)) (omega (arith, n_in.1)) e; feedless = λ n fits. number n (omega (arith, fits.1)) };
}

-- the first and the last byte of a span, which may be in the wrong order
abbrev pub offsets_text : ℕ × ℕ → List ℕ
offsets_text = pair_text decimal decimal

abbrev pub AreOffsets : ℕ × ℕ → Type 0
AreOffsets = Both IsOffset IsOffset

pub offsets : AreTexts offsets_text AreOffsets
offsets = both offset offset.texts

abbrev pub spans : Views (ℕ × ℕ) Range offsets_text AreOffsets span_text IsServedSpan
spans = record {
  parts = λ s. (s.lo, s.hi);
  fit = λ s fits. (offset_in s.lo (omega (arith, fits.0, fits.1)), offset_in s.hi fits.1);
  same = λ s. refl;
}

abbrev span-made : ℕ × ℕ → Range
span-made p = record { lo = p.0; hi = p.1 }

pub span : AreTexts span_text IsServedSpan
span = viewed spans (λ x y _ _ e. ap span-made e) offsets

-- a byte offset, a second one, and a span
abbrev pub offsets_and_span_text : ℕ × (ℕ × Range) → List ℕ
offsets_and_span_text = pair_text decimal (pair_text decimal span_text)

abbrev pub AreOffsetsAndSpan : ℕ × (ℕ × Range) → Type 0
AreOffsetsAndSpan = Both IsOffset (Both IsOffset IsServedSpan)

pub offsets_and_span : AreTexts offsets_and_span_text AreOffsetsAndSpan
offsets_and_span = both offset (both offset span)

abbrev pub ranges : Views (ℕ × (ℕ × Range)) Wants offsets_and_span_text AreOffsetsAndSpan wants_text AreServedWants
ranges = record {
  parts = λ w. (w.required.lo, (w.required.hi, w.desired));
  fit = λ w fits. (offset_in w.required.lo (omega (arith, fits.0.0.0, fits.0.0.1)), (offset_in w.required.hi fits.0.0.1, fits.0.1));
  same = λ w. append_assoc (decimal w.required.lo) (32 ∷ decimal w.required.hi) (32 ∷ span_text w.desired);
}

abbrev wants-made : ℕ × (ℕ × Range) → Wants
wants-made p = record { required = record { lo = p.0; hi = p.1.0 }; desired = p.1.1 }

pub wants : AreTexts wants_text AreServedWants
wants = viewed ranges (λ x y _ _ e. ap wants-made e) offsets_and_span

-- a mode, two offsets and an owner
abbrev pub lock_parts_text : Mode × (ℕ × (ℕ × Owner)) → List ℕ
lock_parts_text = pair_text mode_text (pair_text decimal (pair_text decimal owner_text))

abbrev pub AreLockParts : Mode × (ℕ × (ℕ × Owner)) → Type 0
AreLockParts = Both (λ _. ⊤) (Both IsOffset (Both IsOffset IsOwner))

pub lock_parts : AreTexts lock_parts_text AreLockParts
lock_parts = both mode (both offset (both offset owner))

pub seven : (a b c d e f g : List ℕ) → a ++ b ++ c ++ d ++ e ++ f ++ g ≡ a ++ (b ++ (c ++ (d ++ (e ++ (f ++ g)))))
seven a b c d e f g = simp append_assoc

abbrev pub locks : Views (Mode × (ℕ × (ℕ × Owner))) LockInfo lock_parts_text AreLockParts lock_text IsServedLock
locks = record {
  parts = λ l. (l.mode, (l.span.lo, (l.span.hi, l.owner)));
  fit = λ l fits. (tt, (offset_in l.span.lo (omega (arith, fits.0.0, fits.0.1)), (offset_in l.span.hi fits.0.1, fits.1)));
  same = λ l. seven (mode_text l.mode) (codes " ") (decimal l.span.lo) (codes " ") (decimal l.span.hi) (codes " ") (owner_text l.owner);
}

abbrev lock-made : Mode × (ℕ × (ℕ × Owner)) → LockInfo
lock-made p = record { owner = p.1.1.1; mode = p.0; span = record { lo = p.1.0; hi = p.1.1.0 } }

pub lock : AreTexts lock_text IsServedLock
lock = viewed locks (λ x y _ _ e. ap lock-made e) lock_parts

-- the epoch of a number that is less than an epoch's size past the begin of that epoch
pub epoch_of-before : (epoch n : ℕ) → 1 ≤ epoch → n < 4294967296 → epoch_of (before_epoch epoch + n) ≡ epoch
epoch_of-before epoch n from few = ap (λ (k : ℕ). k + 1) (div-mul-add (epoch - 1) 4294967296 n few) ∙ omega arith

pub begin_of-before : (epoch n : ℕ) → 1 ≤ epoch → n < 4294967296 → begin_of (before_epoch epoch + n) ≡ before_epoch epoch
begin_of-before epoch n from few = ap before_epoch (epoch_of-before epoch n from few)

pub is_command : (epoch n : ℕ) → IsEpoch epoch → IsCounted n → IsCommand (before_epoch epoch + n)
is_command epoch n epoch_in counted =
    let begins = begin_of-before epoch n epoch_in.0 (omega (arith, counted.1)) in
    record { begun = omega (arith, begins, counted.0); within = omega (arith, epoch_in.0, epoch_in.1, counted.1) }

-- the number of a command is made of its epoch and its number within the epoch
pub number-in : (number : ℕ) → IsCommand number → IsEpoch (epoch_of number) × IsCounted (number - begin_of number)
number-in number command =
    let some : zero < 4294967296 = omega arith in
    let least = div-mul-le_self number 4294967296 in
    let most = lt-div-mul-add {a = number} some in
    let within : number < 65535 * 4294967296 = command.within in
    let few : number / 4294967296 < 65535 = (div-lt_iff_lt-mul some).1 within in
    let begun = command.begun in
    ((omega arith, omega arith), (omega arith, omega arith))

-- the number after which an epoch begins is that of the epoch
pub is_rebuilt : (epoch : ℕ) → 2 ≤ epoch → epoch ≤ 65535 → IsRebuilt (before_epoch epoch) × (epoch_of (before_epoch epoch) ≡ epoch)
is_rebuilt epoch least most =
    let some : 1 ≤ epoch = omega (arith, least) in
    let none : before_epoch epoch + 0 ≡ before_epoch epoch = omega arith in
    let same : epoch_of (before_epoch epoch) ≡ epoch = sym (ap epoch_of none) ∙ epoch_of-before epoch 0 some (omega arith) in
    (record { begins = ap before_epoch same; rebuilt = omega (arith, same, least); within = omega (arith, same, most) }, same)

pub epoch_words : AreWords epoch_text IsRebuilt
epoch_words n fits = Lacks-decimal (epoch_of n) (omega (arith, fits.within))

pub apart-epoch : AreApart epoch_text IsRebuilt
apart-epoch m n m_in n_in e =
    let same = apart-number 65535 (omega arith) (epoch_of m) (epoch_of n) (omega (arith, m_in.rebuilt), m_in.within) (omega (arith, n_in.rebuilt), n_in.within) e in
    sym m_in.begins ∙ ap before_epoch same ∙ n_in.begins

-- the texts of an epoch, the number within it, and the fields behind them
module _ {A : Type 0} (f : A → List ℕ) (P : A → Type 0) where
  abbrev pub with_epochs : Views (ℕ × (ℕ × A)) (ℕ × A) (pair_text decimal (pair_text decimal f)) (Both IsEpoch (Both IsCounted P)) (command_text Second f) (Both (IsCommandNumber Second) P)
  with_epochs = record {
    parts = λ c. (epoch_of c.0, (c.0 - begin_of c.0, c.1));
    fit = λ c fits. let parts = number-in c.0 fits.0 in (parts.0, (parts.1, fits.1));
    same = λ c. refl;
  }

-- two commands with one epoch and one number within it are equal
pub command-back : {A : Type 0} (m n : ℕ) (x y : A) → ◌≡◌ {A = ℕ × (ℕ × A)} (epoch_of m, (m - begin_of m, x)) (epoch_of n, (n - begin_of n, y)) → ◌≡◌ {A = ℕ × A} (m, x) (n, y)
command-back {A = A} m n x y e =
    let epochs : epoch_of m ≡ epoch_of n = ap (λ (p : ℕ × (ℕ × A)). p.0) e in
    let begins : begin_of m ≡ begin_of n = ap before_epoch epochs in
    let numbers : m - begin_of m ≡ n - begin_of n = ap (λ (p : ℕ × (ℕ × A)). p.1.0) e in
    let rests : x ≡ y = ap (λ (p : ℕ × (ℕ × A)). p.1.1) e in
    let above : begin_of m ≤ m = begin_of-le m in
    let over : begin_of n ≤ n = begin_of-le n in
    let same : m ≡ n = omega arith in
    λ i. (same i, rests i)
  where
    begin_of-le : (k : ℕ) → begin_of k ≤ k
    begin_of-le k = let least = div-mul-le_self k 4294967296 in omega arith

pub file : AreFields decimal IsFile
file = up_to most_files (omega arith)

pub pid : AreFields decimal (IsNumber most_processes)
pid = up_to most_processes (omega arith)

pub epoch : AreFields epoch_text IsRebuilt
epoch = record { words = epoch_words; texts = record { apart = apart-epoch; feedless = λ n fits. number (epoch_of n) (omega (arith, fits.within)) } }

blockings : AllLack line_feed blocking_text (λ _. ⊤)
blockings No fits = lacks-tested line_feed (codes "now") refl
blockings Yes fits = lacks-tested line_feed (codes "wait") refl

pub blocking : AreFields blocking_text (λ _. ⊤)
blocking = record { words = blocking_words; texts = record { apart = apart-blocking; feedless = blockings } }

levels : AllLack line_feed level_text (λ _. ⊤)
levels Shared fits = lacks-tested line_feed (codes "shared") refl
levels Exclusive fits = lacks-tested line_feed (codes "exclusive") refl

behind : (runs : List TokenRun) → All (λ (r : TokenRun). IsServedSpan r.span) runs → Lacks line_feed (flat_map (λ r. space ∷ run_text r) runs)
behind [] served = lacks-tested line_feed [] refl
behind (r ∷ rest) served =
    let between = lacks-tested line_feed (space ∷ []) refl in
    let here = span.feedless r.span (All-head (λ (q : TokenRun). IsServedSpan q.span) r rest served) in
    let run = lacks-append line_feed (level_text r.level) (space ∷ span_text r.span) (levels r.level tt) (lacks-append line_feed (space ∷ []) (span_text r.span) between here) in
    lacks-append line_feed (space ∷ run_text r) (flat_map (λ q. space ∷ run_text q) rest) (lacks-append line_feed (space ∷ []) (run_text r) between run)
    (behind rest (All-tail (λ (q : TokenRun). IsServedSpan q.span) r rest served))

pub runs : AreTexts runs_text AreServedRuns
runs = record {
  apart = apart-runs;
  feedless = λ rs fits. lacks-append line_feed (decimal (length rs)) (flat_map (λ r. space ∷ run_text r) rs) (number (length rs) (omega (arith, few_runs rs fits))) (behind rs fits.0);
}

-- the texts of a command's number, with or without its epoch, and the fields behind it
counted : AreFields decimal IsCounted
counted = up_to 4294967295 (omega arith)

pub numbered : {A : Type 0} {f : A → List ℕ} {P : A → Type 0} (version : Version) → AreTexts f P → AreTexts (command_text version f) (Both (IsCommandNumber version) P)
numbered First texts = both counted texts
numbered {f = f} {P = P} Second texts = viewed (with_epochs f P) (λ x y _ _ e. command-back x.0 y.0 x.1 y.1 e) (both (up_to 65535 (omega arith)) (both counted texts))

-- the words with which the texts of messages begin
abbrev pub words : List (List ℕ)
words = codes "grant" ∷ codes "revoke" ∷ codes "deny" ∷ codes "hello" ∷ codes "report" ∷ codes "request" ∷ codes "taken" ∷ codes "conflict" ∷ codes "freed" ∷ codes "released" ∷ []

module _ (version : Version) where
  abbrev MessageKind : Type 1
  MessageKind = Variant (message_text version) (IsServedMessage version)

  abbrev pub requests : MessageKind
  requests = variant (codes "request ") refl (both file (both call (both blocking (both mode wants)))) (λ f. Request f.0 f.1.0 f.1.1.0 f.1.1.1.0 f.1.1.1.1) (λ f fit. (fit.0, fit.1.0, fit.1.1.1.1)) (λ f. refl)
      (elim [ Request file call blocking mode wanted ↦ λ fits. inl ((file, (call, (blocking, (mode, wanted)))), (fits.0, (fits.1, (tt, (tt, fits.2)))), refl) | _ ↦ λ _. inr refl ])

  abbrev pub grants : MessageKind
  grants = variant (codes "grant ") refl (both file (numbered version (both call (both mode span)))) (λ f. Grant f.0 f.1.0 f.1.1.0 f.1.1.1.0 f.1.1.1.1) (λ f fit. (fit.0, fit.1.0, fit.1.1.0, fit.1.1.1.1)) (λ f. refl)
      (elim [ Grant file number call mode span ↦ λ fits. inl ((file, (number, (call, (mode, span)))), (fits.0, (fits.1, (fits.2, (tt, fits.3)))), refl) | _ ↦ λ _. inr refl ])

  abbrev pub revokes : MessageKind
  revokes = variant (codes "revoke ") refl (both file (numbered version (both holder (both call (both mode wants))))) (λ f. Revoke f.0 f.1.0 f.1.1.0 f.1.1.1.0 f.1.1.1.1.0 f.1.1.1.1.1) (λ f fit. (fit.0, fit.1.0, fit.1.1.0, fit.1.1.1.0, fit.1.1.1.1.1)) (λ f. refl)
      (elim [ Revoke file number holder call mode wanted ↦ λ fits. inl ((file, (number, (holder, (call, (mode, wanted))))), (fits.0, (fits.1, (fits.2, (fits.3, (tt, fits.4))))), refl) | _ ↦ λ _. inr refl ])

  abbrev pub takens : MessageKind
  takens = variant (codes "taken ") refl (both file (numbered version call.texts)) (λ f. Taken f.0 f.1.0 f.1.1) (λ f fit. (fit.0, fit.1.0, fit.1.1)) (λ f. refl)
      (elim [ Taken file number call ↦ λ fits. inl ((file, (number, call)), (fits.0, (fits.1, fits.2)), refl) | _ ↦ λ _. inr refl ])

  abbrev pub releases : MessageKind
  releases = variant (codes "released ") refl (both file (numbered version (both holder (both call span)))) (λ f. Released f.0 f.1.0 f.1.1.0 f.1.1.1.0 f.1.1.1.1) (λ f fit. (fit.0, fit.1.0, fit.1.1.0, fit.1.1.1.0, fit.1.1.1.1)) (λ f. refl)
      (elim [ Released file number holder call span ↦ λ fits. inl ((file, (number, (holder, (call, span)))), (fits.0, (fits.1, (fits.2, (fits.3, fits.4)))), refl) | _ ↦ λ _. inr refl ])

  abbrev pub conflicts : MessageKind
  conflicts = variant (codes "conflict ") refl (both file (numbered version (both holder (both call lock)))) (λ f. Conflict f.0 f.1.0 f.1.1.0 f.1.1.1.0 f.1.1.1.1) (λ f fit. (fit.0, fit.1.0, fit.1.1.0, fit.1.1.1.0, fit.1.1.1.1)) (λ f. refl)
      (elim [ Conflict file number holder call lock ↦ λ fits. inl ((file, (number, (holder, (call, lock)))), (fits.0, (fits.1, (fits.2, (fits.3, fits.4)))), refl) | _ ↦ λ _. inr refl ])

  abbrev pub denials : MessageKind
  denials = variant (codes "deny ") refl (both file (both call (both holder (numbered version lock)))) (λ f. Deny f.0 f.1.0 f.1.1.0 f.1.1.1.0 f.1.1.1.1) (λ f fit. (fit.0, fit.1.0, fit.1.1.0, fit.1.1.1.0, fit.1.1.1.1)) (λ f. refl)
      (elim [ Deny file call holder number lock ↦ λ fits. inl ((file, (call, (holder, (number, lock)))), (fits.0, (fits.1, (fits.2, (fits.3, fits.4)))), refl) | _ ↦ λ _. inr refl ])

  abbrev pub frees : MessageKind
  frees = variant (codes "freed ") refl (both file holder.texts) (λ f. Freed f.0 f.1) (λ f fit. (fit.0, fit.1)) (λ f. refl)
      (elim [ Freed file holder ↦ λ fits. inl ((file, holder), (fits.0, fits.1), refl) | _ ↦ λ _. inr refl ])

  abbrev pub hellos : MessageKind
  hellos = variant (codes "hello ") refl (where_so (may_rebuild version ≡ true) (both file (both epoch holder.texts))) (λ f. Hello f.0 f.1.0 f.1.1) (λ f fit. (fit.0, fit.1.0, fit.1.1.0, fit.1.1.1)) (λ f. refl)
      (elim [ Hello file number holder ↦ λ fits. inl ((file, (number, holder)), (fits.0, (fits.1, (fits.2, fits.3))), refl) | _ ↦ λ _. inr refl ])

  abbrev pub reports : MessageKind
  reports = variant (codes "report ") refl (where_so (may_rebuild version ≡ true) (both file (both epoch (both holder runs)))) (λ f. Report f.0 f.1.0 f.1.1.0 f.1.1.1) (λ f fit. (fit.0, fit.1.0, fit.1.1.0, fit.1.1.1.0, fit.1.1.1.1)) (λ f. refl)
      (elim [ Report file number holder runs ↦ λ fits. inl ((file, (number, (holder, runs))), (fits.0, (fits.1, (fits.2, (fits.3, fits.4)))), refl) | _ ↦ λ _. inr refl ])

  abbrev messages : List MessageKind
  messages = requests ∷ grants ∷ revokes ∷ takens ∷ releases ∷ conflicts ∷ denials ∷ frees ∷ hellos ∷ reports ∷ []

  pub message : AreTexts (message_text version) (IsServedMessage version)
  message = of_variants messages (elim [ Request _ _ _ _ _ ↦ refl | _ ↦ refl ])

  pub begins-message : BeginsWithWord (message_text version) (IsServedMessage version) words []
  begins-message = record { told = elim [ Request _ _ _ _ _ ↦ λ _. inl (refl, refl) | _ ↦ λ _. inl (refl, refl) ] }

abbrev IsNone : Version → List ℕ → Type 0
IsNone version operands = Reads (message_text version) (IsServedMessage version) (codes "report " ++ operands) None

-- a text that doesn't begin with a file belongs to no report
pub no_file : (version : Version) (operands : List ℕ) → ((file : ℕ) (rest : List ℕ) → IsFile file → operands ≢ decimal file ++ space ∷ rest) → IsNone version operands
no_file version operands none = none-of (reports version) operands (λ p fits. none p.0 _ fits.1.0)

module _ (version : Version) (file : ℕ) (file_in : IsFile file) where
  past_file : (other : ℕ) (after rest : List ℕ) → IsFile other → decimal file ++ space ∷ after ≡ decimal other ++ space ∷ rest → after ≡ rest
  past_file other after rest other_in e = (same-split space (decimal file) (decimal other) after rest (file_words file file_in) (file_words other other_in) e).1

  -- a text without an epoch behind the file belongs to no report
  pub no_epoch : (operands : List ℕ) → ((number : ℕ) (rest : List ℕ) → IsRebuilt number → operands ≢ epoch_text number ++ space ∷ rest) → IsNone version (decimal file ++ space ∷ operands)
  no_epoch operands none = none-of (reports version) (decimal file ++ space ∷ operands) (λ p fits e. none p.1.0 _ fits.1.1.0 (past_file p.0 operands _ fits.1.0 e))

  module _ (number : ℕ) (number_in : IsRebuilt number) where
    past_epoch : (other : ℕ) (after rest : List ℕ) → IsRebuilt other → epoch_text number ++ space ∷ after ≡ epoch_text other ++ space ∷ rest → after ≡ rest
    past_epoch other after rest other_in e = (same-split space (epoch_text number) (epoch_text other) after rest (epoch_words number number_in) (epoch_words other other_in) e).1

    -- a text without a node behind the epoch belongs to no report
    pub no_holder : (operands : List ℕ) → ((holder : Host) (rest : List ℕ) → IsHolder holder → operands ≢ holder_text holder ++ space ∷ rest) → IsNone version (decimal file ++ space ∷ (epoch_text number ++ space ∷ operands))
    no_holder operands none = none-of (reports version) (decimal file ++ space ∷ (epoch_text number ++ space ∷ operands)) (λ p fits e. none p.1.1.0 _ fits.1.1.1.0 (past_epoch p.1.0 operands _ fits.1.1.0 (past_file p.0 (epoch_text number ++ space ∷ operands) _ fits.1.0 e)))

    -- a text that doesn't end with a text of runs belongs to no report
    pub no_runs : (holder : Host) (runs : List ℕ) → IsHolder holder → (IsRunsText runs → ⊥) → IsNone version (decimal file ++ space ∷ (epoch_text number ++ space ∷ (holder_text holder ++ space ∷ runs)))
    no_runs holder runs holder_in none =
        let from_holder = holder_text holder ++ space ∷ runs in
        let from_epoch = epoch_text number ++ space ∷ from_holder in
        none-of (reports version) (decimal file ++ space ∷ from_epoch) (λ p fits e.
        let after = past_epoch p.1.0 from_holder _ fits.1.1.0 (past_file p.0 from_epoch _ fits.1.0 e) in
        let last = (same-split space (holder_text holder) (holder_text p.1.1.0) runs (runs_text p.1.1.1) (holder_words holder holder_in) (holder_words p.1.1.0 fits.1.1.1.0) after).1 in
        none (is_runs_text runs p.1.1.1 fits.1.1.1.1 last).0)

read-again : (version : Version) (m : Message) → IsServedMessage version m → (found : Option Message) → Reads (message_text version) (IsServedMessage version) (message_text version m) found → found ≡ Some m
read-again version m fits None none = absurd (none m fits refl)
read-again version m fits (Some other) some = ap Some ((message version).apart other m some.0 fits (sym some.1))

pub messages_have_texts : (version : Version) → MessagesHaveTexts version
messages_have_texts version = record { one_value = (message version).apart; is_read = read-again version; is_line = (message version).feedless }
