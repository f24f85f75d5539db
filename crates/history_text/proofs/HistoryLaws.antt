-- Lines that were read, and a history that was read.
use Rattle.std.proofs.Common.{◌≡◌, ℕ, ◌+◌, ◌≤◌, if◌then◌else◌, List, [], ◌∷◌, ◌++◌, length, flat_map, cond, sym, ap, ◌∙◌, arith, append-nil, append_assoc, length-append, Option, Some, None, IfSome, ◌<◌, true, false, ⊎_elim, drop, count_by, slice_get, subst}
use Rattle.std.proofs.lemmas.Grind.{flat_map-append}
use Rattle.std.proofs.lemmas.List.Elements.{All-push, All-weaker}
use Rattle.std.proofs.lemmas.List.Sums.{sum_by_push}
use Rattle.texts.specs.rule.LineFeeds.{line_feed}
use Rattle.texts.specs.rule.Reads.{Lacks}
use Rattle.history_text.specs.declared.history_reader.HistoryReader.{HistoryReader}
use Rattle.history_text.specs.declared.rule.Allowed.{Allowed}
use Rattle.history_text.specs.rule.Histories.{counted, is_call, with_feed, EndWithExits, IsCall, IsFile, IsHistory, IsHistoryOf}
use Rattle.history_text.specs.code.Readings.{HasRead, IsPaired, IsRead, IsExit, IsLife, AreOwners, AreLosses, IsLoss, AreEndedOf, IsAloneAtEnd, IsCallAtEnd, IsDrop, IsEnded}
use Rattle.std.specs.List.{All}
use Rattle.history_text.specs.declared.owners.Exit.{Exit}
use Rattle.history_text.specs.declared.owners.Life.{Life}
use Rattle.history_text.specs.declared.drops.Losses.{Losses}
use Rattle.history_text.specs.declared.head.Head.{Head}
use Rattle.history_text.proofs.FileLaws.{files_extend}
use Rattle.history_text.proofs.OwnerLaws.{extends_none, one_number, one_to_one}
use Rattle.std.proofs.lemmas.Option.{slice_get_cases, slice_get_within}
use Rattle.client_history.specs.declared.act.Act.TheVariants.{Drops}
use Rattle.client_history.specs.declared.client_call.ClientCall.{ClientCall}
use Rattle.history_text.specs.declared.written_history.LineCounts.{LineCounts}
use Rattle.history_text.specs.declared.file_calls.FileCalls.{FileCalls}
use Rattle.history_text.specs.declared.written_history.WrittenHistory.{WrittenHistory}
use Rattle.history_text.specs.rule.Owners.{AreDistinct, IsTimed}
use Rattle.history_text.proofs.Lists.{get_one, of_all}

-- there are no more lines than bytes
pub lines_fit : (lines : List (List ℕ)) (rest : List ℕ) → length lines ≤ length (flat_map with_feed lines ++ rest)
lines_fit [] rest = omega arith
lines_fit (line ∷ lines) rest =
    let shown : (line ++ line_feed ∷ []) ++ flat_map with_feed lines ++ rest ≡ (line ++ line_feed ∷ []) ++ (flat_map with_feed lines ++ rest) = append_assoc (line ++ line_feed ∷ []) (flat_map with_feed lines) rest in
    omega (arith, lines_fit lines rest, ap length shown, length-append (line ++ line_feed ∷ []) (flat_map with_feed lines ++ rest), length-append line (line_feed ∷ []))

module _ (allowed : Allowed) (text rest : List ℕ) (count : ℕ) (reader : HistoryReader) (was : HasRead allowed text rest count reader) where
  -- no more lines were counted than the text has bytes
  pub count_fits : count ≤ length text
  count_fits = omega (arith, was.count_is, ap length was.parts, lines_fit was.lines rest)

  module _ (line behind : List ℕ) (next : HistoryReader) (lacks : Lacks line_feed line) (parts : rest ≡ line ++ line_feed ∷ behind)
      (read : IsRead allowed (count + 1) next) (paired : IsPaired next) (more : counted next.counts ≡ counted reader.counts + (if is_call line then 1 else 0)) where
    -- one more line was read
    pub has_read_more : HasRead allowed text behind (count + 1) next
    has_read_more = record {
      lines = was.lines ++ line ∷ [];
      parts = was.parts ∙ ap (λ (bs : List ℕ). flat_map with_feed was.lines ++ bs) (parts ∙ sym (append_assoc line (line_feed ∷ []) behind))
          ∙ sym (append_assoc (flat_map with_feed was.lines) (with_feed line) behind)
          ∙ ap (λ (bs : List ℕ). bs ++ behind) (sym (flat_map-append with_feed was.lines (line ∷ []) ∙ ap (λ (bs : List ℕ). flat_map with_feed was.lines ++ bs) (append-nil (with_feed line))));
      single = All-push (Lacks line_feed) was.lines line was.single lacks;
      count_is = ap (λ (n : ℕ). n + 1) was.count_is ∙ sym (length-append was.lines (line ∷ []));
      read = read;
      paired = paired;
      counted_is = more ∙ ap (λ (n : ℕ). n + (if is_call line then 1 else 0)) was.counted_is ∙ sym (sum_by_push (λ (l : List ℕ). cond (is_call l) 1 0) was.lines line);
    }

-- a line that is not one of a call changes at most losses
pub read_other : (allowed : Allowed) (line : ℕ) (old : HistoryReader) (head : Head) → (AreLosses allowed line old.head.losses → AreLosses allowed line head.losses) → IsRead allowed line old → IsRead allowed line (record old { head = head })
read_other allowed line old head losses read = record { sound = read.sound; lives = read.lives; files = read.files; calls = read.calls; alone = read.alone; losses = losses read.losses }

exit_later : (m n latest : ℕ) → m ≤ n → (exit : Option Exit) → IfSome exit (IsExit m latest) → IfSome exit (IsExit n latest)
exit_later m n latest le None is = tt
exit_later m n latest le (Some exit) is = let low = is.line.1 in record { line = (is.line.0, omega arith); begun = is.begun; last = is.last }

losses_later : (allowed : Allowed) (m n : ℕ) → m ≤ n → (losses : Losses) → AreLosses allowed m losses → AreLosses allowed n losses
losses_later allowed m n le losses are = All-weaker (λ here. All (IsLoss allowed m) here.items) (λ here. All (IsLoss allowed n) here.items)
    (λ here all. All-weaker (IsLoss allowed m) (IsLoss allowed n) (λ loss is. let low = is.within.1 in record { counts = is.counts; within = (is.within.0, omega arith); timed = is.timed }) here.items all)
    losses.losses.items are

-- what was read is read of more lines as well
pub read_later : (allowed : Allowed) (m n : ℕ) → m ≤ n → (reader : HistoryReader) → IsRead allowed m reader → IsRead allowed n reader
read_later allowed m n le reader read =
    let lives : List Life = reader.known.owners.lives.items in
    record {
      sound = read.sound;
      lives = All-weaker (IsLife m) (IsLife n) (λ life is. exit_later m n life.latest le life.exit is) lives read.lives;
      files = files_extend lives lives m n (extends_none lives) le reader.files.items read.files;
      calls = read.calls;
      alone = read.alone;
      losses = losses_later allowed m n le reader.head.losses read.losses;
    }

module _ (allowed : Allowed) (names : List (List ℕ)) (lives : List Life) (lines : ℕ) (owners : AreOwners names lives) where
  name_at : (number : ℕ) → number < length lives → (name : List ℕ) × (slice_get names number ≡ Some name)
  name_at number lt =
      let within : number < length names = omega (arith, owners.paired) in
      ⊎_elim (λ there. (there.0, there.2)) (λ past. absurd (omega arith)) (slice_get_cases names number).1

  call_is : (call : ClientCall) → IsCallAtEnd lives call → IsCall names call
  call_is call is =
      let found = name_at is.number (slice_get_within lives is.number is.life is.known) in
      record { name = found.0; named = (is.number, found.1, is.owner); timed = is.timed }

  file_is : (file : FileCalls) → (allowed.wait_drops ≡ false → IsAloneAtEnd file) → IsEnded allowed lives lines file → IsFile allowed names lines file
  file_is file alone is =
      let others = drop file.told file.calls.items in
      record {
        calls = All-weaker (IsCallAtEnd lives) (IsCall names) call_is file.calls.items is.calls;
        paired = is.paired;
        within = is.within;
        told = is.told;
        go_on = is.go_on;
        drops = All-weaker (IsDrop allowed lives) (λ (call : ClientCall). call.act ≡ Drops) (λ call d. d.drops) others is.drops;
        alone = alone;
        exits = λ none. All-weaker (IsDrop allowed lives) (λ (call : ClientCall). call.is_last ≡ true) (λ call d. d.exits none) others is.drops;
      }

  pub files_are : (files : List FileCalls) → (allowed.wait_drops ≡ false → All IsAloneAtEnd files) → All (IsEnded allowed lives lines) files → All (IsFile allowed names lines) files
  files_are files alone all i file lt = file_is _ (λ none. alone none i file lt) (all i file lt)

  begins_in_time : (exit call : ClientCall) → IsCallAtEnd lives exit → IsCallAtEnd lives call → exit.is_last ≡ true → call.owner ≡ exit.owner → IsTimed call.begin exit.end
  begins_in_time exit call e c last same =
      let number : c.number ≡ e.number = one_number c.number e.number (sym c.owner ∙ same ∙ e.owner) in
      let life : c.life ≡ e.life = get_one lives c.number e.number c.life e.life number c.known e.known in
      let told = e.last last in
      subst (IsTimed call.begin) (sym told.2) (c.in_time told.0 (ap (λ (l : Life). l.exit) life ∙ told.1))

  pub end_with_exits : (first second : FileCalls) → IsEnded allowed lives lines first → IsEnded allowed lives lines second → EndWithExits first second
  end_with_exits first second f s i j exit call p q = begins_in_time exit call (of_all first.calls.items (IsCallAtEnd lives) i exit f.calls p) (of_all second.calls.items (IsCallAtEnd lives) j call s.calls q)

module _ (allowed : Allowed) (text : List ℕ) (count : ℕ) (reader : HistoryReader) (was : HasRead allowed text [] count reader) (history : WrittenHistory)
    (names : history.owners ≡ reader.known.owners.names) (files : history.names ≡ reader.known.files) (counts : history.counts ≡ reader.counts)
    (paired : length history.files.items ≡ length reader.files.items)
    (are : AreEndedOf allowed reader.known.owners.lives.items count reader.files.items history.files.items) where
  abbrev lives : List Life
  lives = reader.known.owners.lives.items

  owners : AreOwners history.owners lives
  owners = subst (λ (ns : List (List ℕ)). AreOwners ns lives) (sym names) was.read.sound.owners

  whole : IsHistory allowed count (count_by is_call was.lines) history
  whole = record {
    owners = one_to_one history.owners owners.distinct;
    names = subst AreDistinct (sym files) was.read.sound.files;
    named = ap length files ∙ sym was.paired.files ∙ sym paired;
    files = files_are allowed history.owners lives count owners history.files.items (λ none. are.alone (was.read.alone none)) are.files;
    exits = λ i j first second p q.
        end_with_exits allowed history.owners lives count owners first second
        (of_all history.files.items (IsEnded allowed lives count) i first are.files p) (of_all history.files.items (IsEnded allowed lives count) j second are.files q);
    calls_are = are.calls ∙ was.read.calls ∙ sym (ap (λ (c : LineCounts). c.calls) counts);
    counted_is = ap counted counts ∙ was.counted_is;
  }

  -- the history with losses and exits in its files is that of the text
  pub is_history : IsHistoryOf allowed text history
  is_history = record {
    lines = was.lines;
    parts = was.parts ∙ append-nil (flat_map with_feed was.lines);
    single = was.single;
    history_is = subst (λ (n : ℕ). IsHistory allowed n (count_by is_call was.lines) history) was.count_is whole;
  }
