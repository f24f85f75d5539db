-- The calls of files: their lines, what stays so, and files that are read to their ends.
use Rattle.std.proofs.Common.{◌≡◌, ℕ, ◌+◌, ◌<◌, Bool, true, false, nat_eq, List, [], ◌∷◌, ◌++◌, refl, ap, ⊎_elim, ◌∙◌, arith, eqb-true, eq-eqb, if◌then◌else◌, ◌≤◌, length, set, get_or, sum_by, sym, subst, length-append, take, drop, None, Some, append-nil, append_assoc, length-set, add-zero}
use Rattle.std.specs.List.{All}
use Rattle.std.proofs.lemmas.Bool.{cases_Bool, true≢false}
use Rattle.std.proofs.lemmas.List.Elements.{All-head, All-tail, All-push, All-set, All-weaker, All-append, All-nil, All-pop}
use Rattle.history_text.specs.rule.Histories.{runs, calls_in}
use Rattle.std.proofs.lemmas.List.Sums.{sum_by-set, sum_by_push}
use Rattle.texts.specs.rule.Reads.{IsWithin}
use Rattle.client_history.specs.declared.client_call.ClientCall.{ClientCall}
use Rattle.history_text.specs.declared.file_calls.FileCalls.{FileCalls}
use Rattle.history_text.specs.declared.owners.Life.{Life}
use Rattle.history_text.specs.code.Readings.{AreBefore, AreFilesOf, IsAlone, IsCallOf, IsFileOf, lines_in, Extends, AreLives, HasExit, IsLife, second_step, Adds, IsAloneAtEnd, IsCallAtEnd, IsDrop, IsEnded, IsLossOf, with_told, AreEndedOf, IsLoss}
use Rattle.std.specs.Option.{IfSome}
use Rattle.std.specs.declared.option.Option.{Option}
use Rattle.std.proofs.lemmas.List.{drop_at, take_at, drop-drop, drop-set-lt, get_or-drop, take_more, take_more_set}
use Rattle.model.specs.declared.owner.Owner.{Owner}
use Rattle.client_history.specs.declared.act.Act.TheVariants.{Drops}
use Rattle.history_text.specs.declared.owners.Exit.{Exit}
use Rattle.history_text.specs.declared.drops.Loss.{Loss}
use Rattle.history_text.specs.declared.rule.Allowed.{Allowed}
use Rattle.history_text.specs.rule.Owners.{IsTimed}
use Rattle.history_text.proofs.OwnerLaws.{exit_is, timed_earlier}
use Rattle.history_text.proofs.Lists.{of_all}

differ : (a b : ℕ) → a < b → nat_eq a b ≡ false
differ a b lt = ⊎_elim (λ same. let e : a ≡ b = eqb-true a b same in absurd (omega arith)) (λ other. other) (cases_Bool (nat_eq a b))

plus_one : (a b : ℕ) → a + (b + 1) ≡ a + b + 1
plus_one a b = omega arith

-- a line behind all others is one more
pub runs_push : (lines : List ℕ) (line : ℕ) → All (λ n. n < line) lines → runs (lines ++ line ∷ []) ≡ runs lines + 1
runs_push [] line before = refl
runs_push (x ∷ []) line before = ap (λ (b : Bool). (if b then 0 else 1) + 1) (differ x line (All-head (λ n. n < line) x [] before))
runs_push (x ∷ (y ∷ ys)) line before =
    ap (λ (n : ℕ). (if nat_eq x y then 0 else 1) + n) (runs_push (y ∷ ys) line (All-tail (λ n. n < line) x (y ∷ ys) before))
    ∙ plus_one (if nat_eq x y then 0 else 1) (runs (y ∷ ys))

-- a line that stands twice in a row counts once
pub runs_twice : (lines : List ℕ) (line : ℕ) → runs (lines ++ line ∷ [] ++ line ∷ []) ≡ runs (lines ++ line ∷ [])
runs_twice [] line = ap (λ (b : Bool). (if b then 0 else 1) + 1) (eq-eqb line line refl)
runs_twice (x ∷ []) line = ap (λ (n : ℕ). (if nat_eq x line then 0 else 1) + n) (runs_twice [] line)
runs_twice (x ∷ (y ∷ ys)) line = ap (λ (n : ℕ). (if nat_eq x y then 0 else 1) + n) (runs_twice (y ∷ ys) line)

call_extends : (first last : List Life) → Extends first last → (call : ClientCall) → IsCallOf first call → IsCallOf last call
call_extends first last extends call c =
    let next = extends c.number c.life c.known in
    let early : call.begin ≤ c.life.latest = c.begun in
    let late : c.life.latest ≤ next.0.latest = next.2.latest in
    record {
      number = c.number;
      life = next.0;
      known = next.1;
      owner = c.owner;
      begun = omega arith;
      timed = c.timed;
      goes_on = c.goes_on;
    }

file_extends : (first last : List Life) (m n : ℕ) → Extends first last → m ≤ n → (file : FileCalls) → IsFileOf first m file → IsFileOf last n file
file_extends first last m n extends le file f = record {
  calls = All-weaker (IsCallOf first) (IsCallOf last) (call_extends first last extends) file.calls.items f.calls;
  paired = f.paired;
  within = All-weaker (IsWithin 1 m) (IsWithin 1 n) (λ line w. (w.0, omega (arith, w.1))) file.lines.items f.within;
}

-- calls of files stay so where more is known of owners, and more lines were read
pub files_extend : (first last : List Life) (m n : ℕ) → Extends first last → m ≤ n → (files : List FileCalls) → AreFilesOf first m files → AreFilesOf last n files
files_extend first last m n extends le files all = All-weaker (IsFileOf first m) (IsFileOf last n) (file_extends first last m n extends le) files all

-- calls of a file stay so where one more comes last
pub file_push : (lives : List Life) (lines line : ℕ) (call : ClientCall) (old new : FileCalls)
    → new.calls.items ≡ old.calls.items ++ call ∷ [] → new.lines.items ≡ old.lines.items ++ line ∷ []
    → IsWithin 1 lines line → IsCallOf lives call → IsFileOf lives lines old → IsFileOf lives lines new
file_push lives lines line call old new calls numbers within is f = record {
  calls = subst (All (IsCallOf lives)) (sym calls) (All-push (IsCallOf lives) old.calls.items call f.calls is);
  paired = ap length numbers ∙ length-append old.lines.items (line ∷ []) ∙ ap (λ (n : ℕ). n + 1) f.paired ∙ sym (length-append old.calls.items (call ∷ [])) ∙ sym (ap length calls);
  within = subst (All (IsWithin 1 lines)) (sym numbers) (All-push (IsWithin 1 lines) old.lines.items line f.within within);
}

-- the second step of a call is a call as well
pub second_is : (lives : List Life) (first : ℕ) (call : ClientCall) → IsCallOf lives call → IsCallOf lives (second_step first call)
second_is lives first call c = record { number = c.number; life = c.life; known = c.known; owner = c.owner; begun = c.begun; timed = c.timed; goes_on = c.goes_on }

-- calls of a file stay so where two more come last
pub file_push_two : (lives : List Life) (lines line : ℕ) (first second : ClientCall) (old new : FileCalls)
    → new.calls.items ≡ old.calls.items ++ first ∷ [] ++ second ∷ [] → new.lines.items ≡ old.lines.items ++ line ∷ [] ++ line ∷ []
    → IsWithin 1 lines line → IsCallOf lives first → IsCallOf lives second → IsFileOf lives lines old → IsFileOf lives lines new
file_push_two lives lines line first second old new calls numbers within one two f = record {
  calls = subst (All (IsCallOf lives)) (sym calls) (All-push (IsCallOf lives) (old.calls.items ++ first ∷ []) second (All-push (IsCallOf lives) old.calls.items first f.calls one) two);
  paired = omega (arith, ap length numbers, length-append (old.lines.items ++ line ∷ []) (line ∷ []), length-append old.lines.items (line ∷ []), f.paired, ap length calls, length-append (old.calls.items ++ first ∷ []) (second ∷ []), length-append old.calls.items (first ∷ []));
  within = subst (All (IsWithin 1 lines)) (sym numbers) (All-push (IsWithin 1 lines) (old.lines.items ++ line ∷ []) line (All-push (IsWithin 1 lines) old.lines.items line f.within within) within);
}

-- the lines that were read are before the next one
pub files_before : (lives : List Life) (lines : ℕ) (files : List FileCalls) → AreFilesOf lives lines files → AreBefore (lines + 1) files
files_before lives lines files all =
    All-weaker (IsFileOf lives lines) (λ (file : FileCalls). All (λ n. n < lines + 1) file.lines.items)
    (λ file f. All-weaker (IsWithin 1 lines) (λ n. n < lines + 1) (λ n w. let le : n ≤ lines = w.1 in omega arith) file.lines.items f.within)
    files all

-- a line behind all is written to a file
module _ (files : List FileCalls) (i line : ℕ) (old new : FileCalls) (lt : i < length files) (at : old ≡ get_or files i old) (before : AreBefore line files) where
  old_before : All (λ n. n < line) old.lines.items
  old_before = subst (λ (file : FileCalls). All (λ n. n < line) file.lines.items) (sym at) (before i old lt)

  lines_set : lines_in new ≡ lines_in old + 1 → sum_by lines_in (set files i new) ≡ sum_by lines_in files + 1
  lines_set more = omega (arith, sum_by-set lines_in files i new old lt, ap lines_in at, more)

  module _ (lines : new.lines.items ≡ old.lines.items ++ line ∷ []) where
    one : lines_in new ≡ lines_in old + 1
    one = ap runs lines ∙ runs_push old.lines.items line old_before

    -- the file has one line more
    pub one_more : sum_by lines_in (set files i new) ≡ sum_by lines_in files + 1
    one_more = lines_set one

    alone : IsAlone old → IsAlone new
    alone was = omega (arith, one, was, ap length lines, length-append old.lines.items (line ∷ []))

    -- each call still has a line of its own
    pub stay_alone : All IsAlone files → All IsAlone (set files i new)
    stay_alone all = All-set IsAlone files i new (alone (subst IsAlone (sym at) (all i old lt))) all

  -- two steps of a call are one line more
  pub one_more_for_two : new.lines.items ≡ old.lines.items ++ line ∷ [] ++ line ∷ [] → sum_by lines_in (set files i new) ≡ sum_by lines_in files + 1
  one_more_for_two lines = lines_set (ap runs lines ∙ runs_twice old.lines.items line ∙ runs_push old.lines.items line old_before)

module _ (allowed : Allowed) (lives : List Life) (lines : ℕ) where
  pub adds_none : (old new : FileCalls) → new.calls.items ≡ old.calls.items → new.lines.items ≡ old.lines.items → new.told ≡ old.told → Adds allowed lives lines old new
  adds_none old new calls numbers told = record {
    calls = [];
    numbers = [];
    calls_are = calls ∙ sym (append-nil old.calls.items);
    lines_are = numbers ∙ sym (append-nil old.lines.items);
    told = told;
    paired = refl;
    drops = All-nil (IsDrop allowed lives);
    within = All-nil (IsWithin 1 lines);
  }

  pub adds_push : (old mid new : FileCalls) (call : ClientCall) (line : ℕ) → new.calls.items ≡ mid.calls.items ++ call ∷ [] → new.lines.items ≡ mid.lines.items ++ line ∷ [] → new.told ≡ mid.told
      → IsDrop allowed lives call → IsWithin 1 lines line → Adds allowed lives lines old mid → Adds allowed lives lines old new
  adds_push old mid new call line calls numbers told is within was = record {
    calls = was.calls ++ call ∷ [];
    numbers = was.numbers ++ line ∷ [];
    calls_are = calls ∙ ap (λ (xs : List ClientCall). xs ++ call ∷ []) was.calls_are ∙ append_assoc old.calls.items was.calls (call ∷ []);
    lines_are = numbers ∙ ap (λ (xs : List ℕ). xs ++ line ∷ []) was.lines_are ∙ append_assoc old.lines.items was.numbers (line ∷ []);
    told = told ∙ was.told;
    paired = omega (arith, length-append was.numbers (line ∷ []), length-append was.calls (call ∷ []), was.paired);
    drops = All-push (IsDrop allowed lives) was.calls call was.drops is;
    within = All-push (IsWithin 1 lines) was.numbers line was.within within;
  }

  pub adds_both : (old mid new : FileCalls) → Adds allowed lives lines old mid → Adds allowed lives lines mid new → Adds allowed lives lines old new
  adds_both old mid new p q = record {
    calls = p.calls ++ q.calls;
    numbers = p.numbers ++ q.numbers;
    calls_are = q.calls_are ∙ ap (λ (xs : List ClientCall). xs ++ q.calls) p.calls_are ∙ append_assoc old.calls.items p.calls q.calls;
    lines_are = q.lines_are ∙ ap (λ (xs : List ℕ). xs ++ q.numbers) p.lines_are ∙ append_assoc old.lines.items p.numbers q.numbers;
    told = q.told ∙ p.told;
    paired = omega (arith, length-append p.numbers q.numbers, length-append p.calls q.calls, p.paired, q.paired);
    drops = All-append (IsDrop allowed lives) p.calls q.calls p.drops q.drops;
    within = All-append (IsWithin 1 lines) p.numbers q.numbers p.within q.within;
  }

  -- the exit of an owner as a call
  pub exit_call : (owner : Owner) (exit : Exit) (call : ClientCall) → call ≡ record { owner = owner; begin = exit.begin; end = exit.end; act = Drops; is_last = true; follows = None }
      → HasExit lives owner exit → AreLives lines lives → IsWithin 1 lines exit.line × IsDrop allowed lives call
  exit_call owner exit call made has are =
      let known = has.1 in
      let is = exit_is lines has.0 exit (of_all lives (IsLife lines) known.0 has.0 are known.1) has.2 in (
        is.line,
        subst (IsDrop allowed lives) (sym made) (record {
          call_is = record {
            number = known.0;
            life = has.0;
            known = known.1;
            owner = known.2;
            timed = timed_earlier exit.begin has.0.latest exit.end is.begun is.last;
            in_time = λ other at. let end = exit_is lines has.0 other (of_all lives (IsLife lines) known.0 has.0 are known.1) at in timed_earlier exit.begin has.0.latest other.end is.begun end.last;
            last = λ last. (exit, has.2, refl);
          };
          drops = refl;
          exits = λ none. refl;
        }),
      )

  -- the loss of an owner as a call
  pub loss_call : (loss : Loss) (call : ClientCall) → IsLoss allowed lines loss → IsLossOf lives loss call → IsDrop allowed lives call
  loss_call loss call is of = record {
    call_is = record {
      number = of.known.0;
      life = of.life;
      known = of.known.1;
      owner = of.known.2;
      timed = subst (IsTimed call.begin) (sym of.end) (subst (λ (b : ℕ). b ≤ loss.end) (sym of.begin) is.timed);
      in_time = λ exit at. subst (λ (b : ℕ). IsTimed b exit.end) (sym of.begin) (subst (λ (o : Option Exit). IfSome o (λ (e : Exit). IsTimed loss.begin e.end)) at of.in_time);
      last = λ last. absurd (true≢false (sym last ∙ of.goes_on));
    };
    drops = of.drops;
    exits = λ none. absurd (true≢false (sym is.counts ∙ none));
  }

  -- a call that was read is one of the file at its end
  call_at_end : AreLives lines lives → (call : ClientCall) → IsCallOf lives call → IsCallAtEnd lives call
  call_at_end are call c = record {
    number = c.number;
    life = c.life;
    known = c.known;
    owner = c.owner;
    timed = c.timed;
    in_time = λ exit at. let is = exit_is lines c.life exit (of_all lives (IsLife lines) c.number c.life are c.known) at in timed_earlier call.begin c.life.latest exit.end c.begun is.last;
    last = λ last. absurd (true≢false (sym last ∙ c.goes_on));
  }

  module _ (old new : FileCalls) (adds : Adds allowed lives lines (with_told old) new) where
    told_lines : take new.told new.lines.items ≡ old.lines.items
    told_lines = ap (take new.told) adds.lines_are ∙ take_at old.lines.items adds.numbers new.told (sym adds.told)

    -- the file has the lines of calls that were read
    pub same_calls : calls_in new ≡ lines_in old
    same_calls = ap runs told_lines

    pub alone_at_end : IsAlone old → IsAloneAtEnd new
    alone_at_end alone = ap runs told_lines ∙ alone ∙ sym adds.told

    -- the file is read to its end
    pub is_ended : AreLives lines lives → IsFileOf lives lines old → IsEnded allowed lives lines new
    is_ended are was =
        let told : length old.calls.items ≡ new.told = sym was.paired ∙ sym adds.told in
        let firsts : take new.told new.calls.items ≡ old.calls.items = ap (take new.told) adds.calls_are ∙ take_at old.calls.items adds.calls new.told told in
        let others : drop new.told new.calls.items ≡ adds.calls = ap (drop new.told) adds.calls_are ∙ drop_at old.calls.items adds.calls new.told told in
        record {
          calls = subst (All (IsCallAtEnd lives)) (sym adds.calls_are) (All-append (IsCallAtEnd lives) old.calls.items adds.calls
              (All-weaker (IsCallOf lives) (IsCallAtEnd lives) (call_at_end are) old.calls.items was.calls)
              (All-weaker (IsDrop allowed lives) (IsCallAtEnd lives) (λ call is. is.call_is) adds.calls adds.drops));
          paired = omega (arith, ap length adds.lines_are, ap length adds.calls_are, length-append old.lines.items adds.numbers, length-append old.calls.items adds.calls, adds.paired, was.paired);
          within = subst (All (IsWithin 1 lines)) (sym adds.lines_are) (All-append (IsWithin 1 lines) old.lines.items adds.numbers was.within adds.within);
          told = omega (arith, told, ap length adds.calls_are, length-append old.calls.items adds.calls);
          go_on = subst (All (λ (call : ClientCall). call.is_last ≡ false)) (sym firsts) (All-weaker (IsCallOf lives) (λ (call : ClientCall). call.is_last ≡ false) (λ call c. c.goes_on) old.calls.items was.calls);
          drops = subst (All (IsDrop allowed lives)) (sym others) adds.drops;
        }

-- the files from a place on are not read to their ends yet
module _ (files first : List FileCalls) (i : ℕ) where
  pub count_more : (new : FileCalls) → length files ≡ length first → length (set files i new) ≡ length first
  count_more new same = length-set files i new ∙ same

  module _ (same : drop i files ≡ drop i first) where
    pub rest_more : (new : FileCalls) → drop (i + 1) (set files i new) ≡ drop (i + 1) first
    rest_more new = drop-set-lt (i + 1) files i new (omega arith) ∙ sym (drop-drop 1 i files) ∙ ap (drop 1) same ∙ drop-drop 1 i first

    pub same_file : (old : FileCalls) → old ≡ get_or files i old → old ≡ get_or first i old
    same_file old at =
        at ∙ ap (λ (n : ℕ). get_or files n old) (sym (add-zero i)) ∙ sym (get_or-drop i files 0 old)
        ∙ ap (λ (xs : List FileCalls). get_or xs 0 old) same ∙ get_or-drop i first 0 old ∙ ap (λ (n : ℕ). get_or first n old) (add-zero i)

module _ (allowed : Allowed) (lives : List Life) (lines : ℕ) where
  pub ended_none : AreEndedOf allowed lives lines [] []
  ended_none = record { files = All-nil (IsEnded allowed lives lines); calls = refl; alone = λ all. All-nil IsAloneAtEnd }

  module _ (files first : List FileCalls) (i : ℕ) (old new : FileCalls) (lt : i < length files) (below : i < length first) (at : old ≡ get_or first i old)
      (are_lives : AreLives lines lives) (are : AreFilesOf lives lines first) (adds : Adds allowed lives lines (with_told old) new) (was : AreEndedOf allowed lives lines (take i first) (take i files)) where
    last : take (i + 1) first ≡ take i first ++ old ∷ []
    last = take_more first i old below ∙ ap (λ (file : FileCalls). take i first ++ file ∷ []) (sym at)

    now : take (i + 1) (set files i new) ≡ take i files ++ new ∷ []
    now = take_more_set files i new lt

    old_is : IsFileOf lives lines old
    old_is = subst (IsFileOf lives lines) (sym at) (are i old below)

    -- one more file is read to its end
    pub ended_more : AreEndedOf allowed lives lines (take (i + 1) first) (take (i + 1) (set files i new))
    ended_more = record {
      files = subst (All (IsEnded allowed lives lines)) (sym now) (All-push (IsEnded allowed lives lines) (take i files) new was.files (is_ended allowed lives lines old new adds are_lives old_is));
      calls = omega (arith, ap (sum_by calls_in) now, sum_by_push calls_in (take i files) new, was.calls, same_calls allowed lives lines old new adds, sum_by_push lines_in (take i first) old, ap (sum_by lines_in) last);
      alone = λ all.
          let both = All-pop IsAlone (take (i + 1) first) (take i first) (Some old) last all in
          subst (All IsAloneAtEnd) (sym now) (All-push IsAloneAtEnd (take i files) new (was.alone both.0) (alone_at_end allowed lives lines old new adds both.1));
    }
