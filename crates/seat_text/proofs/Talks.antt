-- What was read of a line.
use Rattle.std.proofs.Common.{◌≡◌, ◌≢◌, ◌<◌, ◌≤◌, ◌+◌, ℕ, refl, sym, subst, ap, ◌∙◌, List, [], ◌∷◌, ◌++◌, length, length-append, append-nil, All, Option, Bool, true, false, if◌then◌else◌, arith, None, Some, append_assoc, cond, eqb, inl, inr}
use Rattle.std.specs.Prelude.{Result, Ok}
use Rattle.std.proofs.KnownBytes.{Consumes-kept, Consumes-nil, Consumes-trans, Appends-nil, Appends-trans}
use Rattle.std.proofs.lemmas.List.Elements.{All-head, All-tail, All-nil, All-push, All-cons}
use Rattle.std.specs.Io.KnownBytes.{Consumes, IsAtEnd, Keeps, Appends}
use Rattle.texts.specs.rule.LineFeeds.{line_feeds, line_feed}
use Rattle.seat_text.specs.rule.Talks.{longest_line, Gives, Hears, HearsPart, IsKept, AppendsPart, IsFront, TellsPart, IsLine, Answers, BreaksOff, Saying, Talks, TalksToTheEnd, Turned, line_bytes}
use Rattle.seat_text.specs.declared.talk.Heard.TheVariants.{Line, Long, End, Broken}
use Rattle.std.proofs.lemmas.Grind.{flat_map-append}
use Rattle.std.proofs.lemmas.List.Sums.{sum_by-append}
use Rattle.seat_text.specs.declared.talk.Heard.{Heard}
use Rattle.seat_text.specs.declared.talk.TalkEnd.{TalkEnd}
use Rattle.seat_text.specs.declared.talk.TalkEnd.TheVariants.{AtEnd, CannotRead, CannotWrite, NoMemory}

no-feed : (xs : List ℕ) → All (λ x. x ≢ 10) xs → line_feeds xs ≡ 0
no-feed [] all = refl
no-feed (x ∷ xs) all = grind (arith, All-head (λ y. y ≢ 10) x xs all, no-feed xs (All-tail (λ y. y ≢ 10) x xs all))

pub hears_none : (r : Option (List ℕ)) (kept : List ℕ) → kept ≡ [] → HearsPart r r kept false
hears_none r kept none = record { bytes = []; read = Consumes-nil r; single = All-nil (λ x. x ≢ 10); kept_is = (sym none, omega arith) }

long-push : (bytes : List ℕ) (b : ℕ) → longest_line < length bytes + 1 → longest_line < length (bytes ++ b ∷ [])
long-push bytes b long = subst (λ (n : ℕ). longest_line < n) (sym (length-append bytes (b ∷ []))) long

-- what was given, where that is known
pub given_ok : {E : Type 0} (s t : Option (List ℕ)) (r : Result (Option ℕ) E) (f g : Option ℕ) → r ≡ Ok f → f ≡ g → Gives s t r → Gives {E = E} s t (Ok g)
given_ok {E} s t r f g is same given = subst (λ (x : Option ℕ). Gives {E = E} s t (Ok x)) same (subst (λ (x : Result (Option ℕ) E). Gives s t x) is given)

-- what stays gives nothing
pub kept_read : (r s : Option (List ℕ)) → Keeps r s → Consumes r s []
kept_read r s kept = Consumes-kept r r s [] (Consumes-nil r) kept

pub keeps : (is_long : Bool) (kept pushed : List ℕ) (b : ℕ) → length kept < longest_line → pushed ≡ kept ++ b ∷ [] → (bytes : List ℕ) → IsKept is_long kept bytes → IsKept is_long pushed (bytes ++ b ∷ [])
keeps false kept pushed b room put bytes same =
    let l = ap length same.0 in
    let n = length-append bytes (b ∷ []) in
    (ap (λ (x : List ℕ). x ++ b ∷ []) same.0 ∙ sym put, omega (arith, room, l, n))
keeps true kept pushed b room put bytes long = long-push bytes b (omega (arith, long))

pub drops : (is_long : Bool) (kept : List ℕ) (b : ℕ) → longest_line ≤ length kept → (bytes : List ℕ) → IsKept is_long kept bytes → IsKept true kept (bytes ++ b ∷ [])
drops false kept b full bytes same = let l = ap length same.0 in long-push bytes b (omega (arith, l, full))
drops true kept b full bytes long = long-push bytes b (omega (arith, long))

pub hears_more : (r s t : Option (List ℕ)) (kept pushed : List ℕ) (is_long long : Bool) (b : ℕ) → HearsPart r s kept is_long → Consumes s t (b ∷ []) → b ≢ 10
    → ((bytes : List ℕ) → IsKept is_long kept bytes → IsKept long pushed (bytes ++ b ∷ [])) → HearsPart r t pushed long
hears_more r s t kept pushed is_long long b before now other keep = record {
  bytes = before.bytes ++ b ∷ [];
  read = Consumes-trans r s t before.bytes (b ∷ []) before.read now;
  single = All-push (λ x. x ≢ 10) before.bytes b before.single other;
  kept_is = keep before.bytes before.kept_is;
}

part-none : (r s t : Option (List ℕ)) (bytes : List ℕ) → Consumes r s bytes → Consumes s t [] → Consumes r t bytes
part-none r s t bytes read none = subst (Consumes r t) (append-nil bytes) (Consumes-trans r s t bytes [] read none)

-- nothing was read for now
pub hears_same : (r s t : Option (List ℕ)) (kept : List ℕ) (is_long : Bool) → HearsPart r s kept is_long → Consumes s t [] → HearsPart r t kept is_long
hears_same r s t kept is_long before none =
    record { bytes = before.bytes; read = part-none r s t before.bytes before.read none; single = before.single; kept_is = before.kept_is }

pub hears_line : (r s t : Option (List ℕ)) (kept : List ℕ) (is_long : Bool) → HearsPart r s kept is_long → Consumes s t (10 ∷ []) → Hears r t kept (if is_long then Long else Line)
hears_line r s t kept false before now = (before.bytes, Consumes-trans r s t before.bytes (10 ∷ []) before.read now, no-feed before.bytes before.single, before.kept_is)
hears_line r s t kept true before now = (before.bytes, Consumes-trans r s t before.bytes (10 ∷ []) before.read now, no-feed before.bytes before.single, before.kept_is)

pub hears_end : (r s t : Option (List ℕ)) (kept : List ℕ) (is_long : Bool) → HearsPart r s kept is_long → Consumes s t [] → IsAtEnd t → Hears r t kept End
hears_end r s t kept is_long before none end = (before.bytes, part-none r s t before.bytes before.read none, no-feed before.bytes before.single, end)

-- the reader failed, or no byte more is read
pub hears_broken : (r s t : Option (List ℕ)) (kept pushed : List ℕ) (is_long : Bool) → HearsPart r s kept is_long → Consumes s t [] → Hears r t pushed Broken
hears_broken r s t kept pushed is_long before none = (before.bytes, part-none r s t before.bytes before.read none, no-feed before.bytes before.single)

-- a byte was read that was not kept
pub hears_byte : (r s t : Option (List ℕ)) (kept pushed : List ℕ) (is_long : Bool) (b : ℕ) → HearsPart r s kept is_long → Consumes s t (b ∷ []) → b ≢ 10 → Hears r t pushed Broken
hears_byte r s t kept pushed is_long b before now other =
    (before.bytes ++ b ∷ [], Consumes-trans r s t before.bytes (b ∷ []) before.read now, no-feed (before.bytes ++ b ∷ []) (All-push (λ x. x ≢ 10) before.bytes b before.single other))

-- what stays takes nothing
pub kept_none : (old new : Option (List ℕ)) → Keeps old new → Appends old new []
kept_none None new kept = tt
kept_none (Some x) None kept = absurd kept
kept_none (Some x) (Some y) kept = kept ∙ sym (append-nil x)

-- what takes nothing stays
pub none_kept : (old new : Option (List ℕ)) → Appends old new [] → Keeps old new
none_kept None new none = tt
none_kept (Some x) None none = absurd none
none_kept (Some x) (Some y) none = none ∙ append-nil x

pub front_self : (bytes : List ℕ) → IsFront bytes bytes
front_self bytes = ([], sym (append-nil bytes))

pub front_none : (bytes : List ℕ) → IsFront [] bytes
front_none bytes = (bytes, refl)

pub front_behind : (before front bytes : List ℕ) → IsFront front bytes → IsFront (before ++ front) (before ++ bytes)
front_behind before front bytes f = (f.0, ap (λ (l : List ℕ). before ++ l) f.1 ∙ sym (append_assoc before front f.0))

-- the log failed
pub log_failed : (k l v w : Option (List ℕ)) (bytes : List ℕ) → AppendsPart k l bytes → v ≡ w → TellsPart k l v w bytes
log_failed k l v w bytes p same = record {
  in_log = p.0;
  in_out = [];
  logged = p.2;
  wrote = rw same (Appends-nil w);
  log_front = p.1;
  out_front = front_none p.0;
}

-- the writer failed
pub out_failed : (k l v w : Option (List ℕ)) (bytes : List ℕ) → Appends k l bytes → AppendsPart v w bytes → TellsPart k l v w bytes
out_failed k l v w bytes all p = record { in_log = bytes; in_out = p.0; logged = all; wrote = p.2; log_front = front_self bytes; out_front = p.1 }

-- nothing is told
pub tells_none : (k v : Option (List ℕ)) → TellsPart k k v v []
tells_none k v = record { in_log = []; in_out = []; logged = Appends-nil k; wrote = Appends-nil v; log_front = front_self []; out_front = front_self [] }

abbrev single : List ℕ → Type 0
single line = line_feeds line ≡ 0

answers-append : (A : Type 0) (says : Saying A) (a b z : A) (lines more : List (List ℕ)) (said told : List ℕ) → Answers says a lines said b → Answers says b more told z → Answers says a (lines ++ more) (said ++ told) z
answers-append A says a b z [] more said told before now =
    subst (λ (l : List ℕ). Answers says a more (l ++ told) z) (sym before.0) (subst (λ (x : A). Answers says x more told z) before.1 now)
answers-append A says a b z (first ∷ lines) more said told before now =
    let rest = answers-append A says before.2 b z lines more before.1 told before.4 now in
    (before.0, before.1 ++ told, before.2, before.3, rest, ap (λ (l : List ℕ). l ++ told) before.5 ∙ append_assoc before.0 before.1 told)

answers-one : (A : Type 0) (says : Saying A) (a z : A) (line told : List ℕ) → says a line told z → Answers says a (line ∷ []) told z
answers-one A says a z line told now = (told, [], z, now, (refl, refl), sym (append-nil told))

bytes-append : (lines more : List (List ℕ)) → line_bytes (lines ++ more) ≡ line_bytes lines ++ line_bytes more
bytes-append lines more = flat_map-append (λ (l : List ℕ). l ++ line_feed ∷ []) lines more

bytes-one : (line : List ℕ) → line_bytes (line ∷ []) ≡ line ++ line_feed ∷ []
bytes-one line = append-nil (line ++ line_feed ∷ [])

single-append : (lines more : List (List ℕ)) → All single lines → All single more → All single (lines ++ more)
single-append [] more all rest = rest
single-append (line ∷ lines) more all rest = All-cons single line (lines ++ more) (All-head single line lines all) (single-append lines more (All-tail single line lines all) rest)

pub talks_none : (A : Type 0) (says : Saying A) (a : A) (r k v : Option (List ℕ)) → Talks says a a r r k k v v
talks_none A says a r k v =
    record { lines = []; said = []; read = Consumes-nil r; single = All-nil single; answers = (refl, refl); logged = Appends-nil k; wrote = Appends-nil v }

talks-append : (A : Type 0) (says : Saying A) (a b z : A) (r s t k l m u v w : Option (List ℕ)) → Talks says a b r s k l u v → Talks says b z s t l m v w → Talks says a z r t k m u w
talks-append A says a b z r s t k l m u v w before now = record {
  lines = before.lines ++ now.lines;
  said = before.said ++ now.said;
  read = subst (Consumes r t) (sym (bytes-append before.lines now.lines)) (Consumes-trans r s t (line_bytes before.lines) (line_bytes now.lines) before.read now.read);
  single = single-append before.lines now.lines before.single now.single;
  answers = answers-append A says a b z before.lines now.lines before.said now.said before.answers now.answers;
  logged = Appends-trans k l m before.said now.said before.logged now.logged;
  wrote = Appends-trans u v w before.said now.said before.wrote now.wrote;
}

breaks-append : (A : Type 0) (says : Saying A) (a b : A) (r s t k l m u v w : Option (List ℕ)) → Talks says a b r s k l u v → BreaksOff says b s t l m v w → BreaksOff says a r t k m u w
breaks-append A says a b r s t k l m u v w before now = record {
  between = now.between;
  log_between = now.log_between;
  out_between = now.out_between;
  now = now.now;
  talks = talks-append A says a b now.now r s now.between k l now.log_between u v now.out_between before now.talks;
  last = now.last;
  read = now.read;
  single = now.single;
  said = now.said;
  says_it = now.says_it;
  tells = now.tells;
}

-- a talk goes on by a turn that does not end it
pub talks_on : (A : Type 0) (says : Saying A) (a b z : A) (r s t k l m u v w : Option (List ℕ)) → Talks says a b r s k l u v → Turned says None b z s t l m v w → Talks says a z r t k m u w
talks_on A says a b z r s t k l m u v w before now = talks-append A says a b z r s t k l m u v w before now

-- a talk ends as its last turn does
pub talks_end : (A : Type 0) (says : Saying A) (a b z : A) (r s t k l m u v w : Option (List ℕ)) (end : TalkEnd) → Talks says a b r s k l u v → Turned says (Some end) b z s t l m v w → Turned says (Some end) a z r t k m u w
talks_end A says a b z r s t k l m u v w AtEnd before now =
    record { between = now.between; talks = talks-append A says a b z r s now.between k l m u v w before now.talks; rest = now.rest; read = now.read; unfinished = now.unfinished; ended = now.ended }
talks_end A says a b z r s t k l m u v w CannotRead before now = breaks-append A says a b r s t k l m u v w before now
talks_end A says a b z r s t k l m u v w CannotWrite before now = breaks-append A says a b r s t k l m u v w before now
talks_end A says a b z r s t k l m u v w NoMemory before now = breaks-append A says a b r s t k l m u v w before now

-- a line at most was read, and nothing was answered
nothing-said : (A : Type 0) (says : Saying A) (a : A) (r t k v : Option (List ℕ)) (last : List ℕ) → Consumes r t last → line_feeds last ≤ 1 → BreaksOff says a r t k k v v
nothing-said A says a r t k v last now one = record {
  between = r;
  log_between = k;
  out_between = v;
  now = a;
  talks = talks_none A says a r k v;
  last = last;
  read = now;
  single = one;
  said = [];
  says_it = inl refl;
  tells = tells_none k v;
}

-- a talk may break off anywhere
pub talks_break : (A : Type 0) (says : Saying A) (a b : A) (r s k l u v : Option (List ℕ)) → Talks says a b r s k l u v → BreaksOff says a r s k l u v
talks_break A says a b r s k l u v before = breaks-append A says a b r s s k l l u v v before (nothing-said A says b s s l v [] (Consumes-nil s) (omega arith))

-- a whole line was heard
pub whole : (s t : Option (List ℕ)) (kept : List ℕ) (heard : Heard) → Hears s t kept heard → (heard ≡ End → ⊥) → (heard ≡ Broken → ⊥)
    → (line : List ℕ) × Consumes s t (line ++ line_feed ∷ []) × (line_feeds line ≡ 0) × IsLine heard kept line
whole s t kept Line h more on = h
whole s t kept Long h more on = h
whole s t kept End h more on = absurd (more refl)
whole s t kept Broken h more on = absurd (on refl)

-- what was heard was answered, and what was said was written
pub one_said : (A : Type 0) (says : Saying A) (a z : A) (s t k l u v : Option (List ℕ)) (kept told : List ℕ) (heard : Heard) → Hears s t kept heard → (heard ≡ End → ⊥) → (heard ≡ Broken → ⊥)
    → ((line : List ℕ) → IsLine heard kept line → says a line told z) → Appends k l told → Appends u v told → Talks says a z s t k l u v
one_said A says a z s t k l u v kept told heard hears more on answered logged wrote =
    let now = whole s t kept heard hears more on in
    record {
      lines = now.0 ∷ [];
      said = told;
      read = subst (Consumes s t) (sym (bytes-one now.0)) now.1;
      single = All-push single [] now.0 (All-nil single) now.2;
      answers = answers-one A says a z now.0 told (answered now.0 now.3);
      logged = logged;
      wrote = wrote;
    }

-- the end was heard
pub end_heard : (A : Type 0) (says : Saying A) (a : A) (s t k v : Option (List ℕ)) (kept : List ℕ) (heard : Heard) → Hears s t kept heard → heard ≡ End → TalksToTheEnd says a a s t k k v v
end_heard A says a s t k v kept heard hears is =
    let now = subst (Hears s t kept) is hears in
    record { between = s; talks = talks_none A says a s k v; rest = now.0; read = now.1; unfinished = now.2; ended = now.3 }

none-single : (bytes : List ℕ) → line_feeds bytes ≡ 0 → line_feeds bytes ≤ 1
none-single bytes none = omega (arith, none)

line-single : (line : List ℕ) → line_feeds line ≡ 0 → line_feeds (line ++ line_feed ∷ []) ≤ 1
line-single line none = omega (arith, none, sum_by-append (λ b. cond (eqb b line_feed) 1 0) line (line_feed ∷ []))

heard-part : (s t : Option (List ℕ)) (kept : List ℕ) (heard : Heard) → Hears s t kept heard → (last : List ℕ) × Consumes s t last × (line_feeds last ≤ 1)
heard-part s t kept Line h = (h.0 ++ line_feed ∷ [], h.1, line-single h.0 h.2)
heard-part s t kept Long h = (h.0 ++ line_feed ∷ [], h.1, line-single h.0 h.2)
heard-part s t kept End h = (h.0, h.1, none-single h.0 h.2)
heard-part s t kept Broken h = (h.0, h.1, none-single h.0 h.2)

-- what was heard was not answered
pub none_said : (A : Type 0) (says : Saying A) (a : A) (s t k v : Option (List ℕ)) (kept : List ℕ) (heard : Heard) → Hears s t kept heard → BreaksOff says a s t k k v v
none_said A says a s t k v kept heard hears = let part = heard-part s t kept heard hears in nothing-said A says a s t k v part.0 part.1 part.2

-- what was said was not written whole
pub part_said : (A : Type 0) (says : Saying A) (a z : A) (s t k l u v : Option (List ℕ)) (kept told : List ℕ) (heard : Heard) → Hears s t kept heard → (heard ≡ End → ⊥) → (heard ≡ Broken → ⊥)
    → ((line : List ℕ) → IsLine heard kept line → says a line told z) → TellsPart k l u v told → BreaksOff says a s t k l u v
part_said A says a z s t k l u v kept told heard hears more on answered part =
    let now = whole s t kept heard hears more on in
    record {
      between = s;
      log_between = k;
      out_between = u;
      now = a;
      talks = talks_none A says a s k u;
      last = now.0 ++ line_feed ∷ [];
      read = now.1;
      single = line-single now.0 now.2;
      said = told;
      says_it = inr (now.0, z, refl, answered now.0 now.3);
      tells = part;
    }
