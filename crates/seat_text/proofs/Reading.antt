-- Lines of logs, one behind the other.
use Rattle.std.proofs.Common.{◌≡◌, ℕ, ◌+◌, List, [], ◌∷◌, ◌++◌, codes, flat_map, length, refl, sym, ap, ◌∙◌, append-nil, append_assoc, arith, subst, All, Option, length-append, inl, inr}
use Rattle.std.proofs.lemmas.Grind.{flat_map-append}
use Rattle.messages.specs.declared.message.Message.{Message}
use Rattle.seat_text.specs.rule.Blocks.{to_line, to_lines, first_block}
use Rattle.seat_text.specs.declared.block.LogStep.{LogStep}
use Rattle.journal_text.specs.rule.Journals.{end_text}
use Rattle.journal_text.specs.rule.Texts.{member_text}
use Rattle.seat_text.specs.rule.Logs.{ListedChange, step_text, steps_text, listed_changes, listed_text, listed_texts, interval_of, block_text, blocks_text, clock_line, log_text, steps_of, AreMadeThere, IsLog, changes_of, entries_in, first_of, IsTorn, EndsNoBlock, EndsTorn}
use Rattle.messages.specs.rule.Entries.{NamesItsIncarnation}
use Rattle.messages.specs.declared.version.Version.{Version}
use Rattle.journal_text.specs.declared.named_event.NamedEvent.{NamedEvent}
use Rattle.journal_text.specs.declared.named_event.NamedEvent.TheVariants.{Call, Deliver, Interrupt, Retry, Resend, Declare, Restart, Learn, FailServer, StartServer}
use Rattle.journal_text.specs.rule.Events.{IsServedEvent, event_of, incarnation_of}
use Rattle.std.proofs.lemmas.List.{length-map, map-append}
use Rattle.merges.specs.declared.logged.LoggedChange.{LoggedChange}
use Rattle.std.proofs.Math.Seq.{drop-append_seam}
use Rattle.seat_text.specs.declared.block.Block.{Block}
use Rattle.messages.specs.declared.actor.Actor.{Actor}
use Rattle.merges.specs.declared.logged.Interval.{Interval}
use Rattle.merges.specs.declared.logged.LoggedEntry.{LoggedEntry}
use Rattle.merges.specs.rule.Merges.{LogFields, log_of}
use Rattle.seat_text.specs.declared.block.LogHead.{LogHead}
use Rattle.seat_text.specs.code.Parts.{AreParts, Takes, held}
use Rattle.seat_text.specs.declared.parts.Parts.{Parts}
use Rattle.seat_text.proofs.Taking.{takes_more, takes_none}
use Rattle.std.specs.Prelude.{◌⊎◌}
use Rattle.std.proofs.lemmas.List.Elements.{All-nil, All-push}
use Rattle.texts.specs.rule.FirstBadLine.{Passes}
use Rattle.texts.specs.rule.LineFeeds.{line_feed, line_feeds, BeginsWithLine}
use Rattle.journal_text.proofs.Begun.{passes-line, passes-none}

-- a line that was passed over
pub line_then : (text line rest whole now : List ℕ) → text ≡ line ++ (codes "\n" ++ rest) → line ++ codes "\n" ≡ whole → now ≡ rest → text ≡ whole ++ now
line_then text line rest whole now begins is same = begins ∙ sym (append_assoc line (codes "\n") rest) ∙ ap (λ (t : List ℕ). t ++ rest) is ∙ ap (λ (t : List ℕ). whole ++ t) (sym same)

-- a text that was passed over, and one behind it
pub then_more : (text first rest second now : List ℕ) → text ≡ first ++ rest → rest ≡ second ++ now → text ≡ (first ++ second) ++ now
then_more text first rest second now begins more = begins ∙ ap (λ (t : List ℕ). first ++ t) more ∙ sym (append_assoc first second now)

pub sends_more : (text : List ℕ) (ms : List Message) (rest : List ℕ) (m : Message) (now : List ℕ) → text ≡ to_lines ms ++ rest → rest ≡ to_line m ++ now → text ≡ to_lines (ms ++ m ∷ []) ++ now
sends_more text ms rest m now begins more =
    then_more text (to_lines ms) rest (to_line m) now begins more
    ∙ ap (λ (t : List ℕ). (to_lines ms ++ t) ++ now) (sym (append-nil (to_line m)))
    ∙ ap (λ (t : List ℕ). t ++ now) (sym (flat_map-append to_line ms (m ∷ [])))

steps_pushed : (count : ℕ) (ss : List LogStep) (s : LogStep) → steps_text count (ss ++ s ∷ []) ≡ steps_text count ss ++ step_text (count + length ss + 1) s
steps_pushed count [] s = let none : count + 0 + 1 ≡ count + 1 = omega arith in rw none (append-nil (step_text (count + 1) s))
steps_pushed count (x ∷ ss) s =
    let sum : count + 1 + length ss + 1 ≡ count + length (x ∷ ss) + 1 = omega arith in
    rw (steps_pushed (count + 1) ss s, sum) (sym (append_assoc (step_text (count + 1) x) (steps_text (count + 1) ss) (step_text (count + length (x ∷ ss) + 1) s)))

pub steps_more : (text : List ℕ) (count : ℕ) (ss : List LogStep) (rest : List ℕ) (position : ℕ) (s : LogStep) (now : List ℕ)
    → text ≡ steps_text count ss ++ rest → position ≡ count + length ss + 1 → rest ≡ step_text position s ++ now → text ≡ steps_text count (ss ++ s ∷ []) ++ now
steps_more text count ss rest position s now begins number more =
    let first : rest ≡ step_text (count + length ss + 1) s ++ now = more ∙ ap (λ (n : ℕ). step_text n s ++ now) number in
    then_more text (steps_text count ss) rest (step_text (count + length ss + 1) s) now begins first ∙ ap (λ (t : List ℕ). t ++ now) (sym (steps_pushed count ss s))

-- the first block of a log
pub head_then : (before clock text line rest cluster whose end behind now block : List ℕ) → before ≡ clock ++ text → text ≡ line ++ (codes "\n" ++ rest) → line ++ codes "\n" ≡ cluster ++ whose → behind ≡ rest → behind ≡ end ++ (codes "\n" ++ now)
    → block ≡ (cluster ++ whose) ++ (end ++ codes "\n") → before ≡ clock ++ (block ++ now)
head_then before clock text line rest cluster whose end behind now block first begins is same ends whole =
    first ∙ ap (λ (t : List ℕ). clock ++ t) (line_then text line rest (cluster ++ whose) behind begins is same ∙ rw (ends, whole) (simp append_assoc))

-- an event that is served names an incarnation or an epoch where it is of one
pub names_its_incarnation : (version : Version) (e : NamedEvent) → IsServedEvent version e → NamesItsIncarnation (event_of e) (incarnation_of e)
names_its_incarnation version (Call call pid op) served = refl
names_its_incarnation version (Deliver message) served = refl
names_its_incarnation version (Interrupt host pid) served = served.0.incarnation_in.0
names_its_incarnation version (Retry host pid) served = served.0.incarnation_in.0
names_its_incarnation version (Resend file) served = refl
names_its_incarnation version (Declare host) served = served.incarnation_in.0
names_its_incarnation version (Restart host) served = served.incarnation_in.0
names_its_incarnation version (Learn file host) served = refl
names_its_incarnation version (FailServer file epoch) served = served.2.0
names_its_incarnation version (StartServer file epoch) served = served.2.0

-- a declaration or a start that was read
pub listed_one : (before text rest now : List ℕ) (number : ℕ) (c : ListedChange) → before ≡ clock_line c.clock ++ text → text ≡ codes "member " ++ (member_text c.event c.incarnation ++ (codes "\n" ++ rest))
    → rest ≡ end_text number ++ (codes "\n" ++ now) → before ≡ listed_text number c ++ now
listed_one before text rest now number c first member ends = rw (first, member, ends) (simp append_assoc)

-- the text began with these, which are the changes
pub record Listing (text rest : List ℕ) (changes : List LoggedChange) : Type 0 where
  pub listed : List ListedChange
  pub parts : text ≡ listed_texts 0 listed ++ rest
  pub told : changes ≡ listed_changes listed

pub texts_more : (count : ℕ) (cs : List ListedChange) (c : ListedChange) → listed_texts count (cs ++ c ∷ []) ≡ listed_texts count cs ++ listed_text (count + length cs + 1) c
texts_more count [] c = let none : count + 0 + 1 ≡ count + 1 = omega arith in rw none (append-nil (listed_text (count + 1) c))
texts_more count (x ∷ cs) c =
    let sum : count + 1 + length cs + 1 ≡ count + length (x ∷ cs) + 1 = omega arith in
    rw (texts_more (count + 1) cs c, sum) (sym (append_assoc (listed_text (count + 1) x) (listed_texts (count + 1) cs) (listed_text (count + length (x ∷ cs) + 1) c)))

pub listing_none : (text : List ℕ) (changes : List LoggedChange) → changes ≡ [] → Listing text text changes
listing_none text changes none = record { listed = []; parts = refl; told = none }

pub listing_more : (text rest : List ℕ) (changes : List LoggedChange) (c : ListedChange) (behind : List ℕ) (now : List LoggedChange)
    → Listing text rest changes → rest ≡ listed_text (length changes + 1) c ++ behind → now ≡ changes ++ listed_changes (c ∷ []) → Listing text behind now
listing_more text rest changes c behind now l begins more =
    let long : length changes ≡ length l.listed = ap (λ (cs : List LoggedChange). length cs) l.told ∙ length-map l.listed (λ (d : ListedChange). record { event = d.event; interval = interval_of d.clock }) in
    let number : length changes + 1 ≡ 0 + length l.listed + 1 = omega (arith, long) in
    let first : rest ≡ listed_text (0 + length l.listed + 1) c ++ behind = begins ∙ ap (λ (n : ℕ). listed_text n c ++ behind) number in
    record {
      listed = l.listed ++ c ∷ [];
      parts = l.parts ∙ ap (λ (t : List ℕ). listed_texts 0 l.listed ++ t) first ∙ sym (append_assoc (listed_texts 0 l.listed) (listed_text (0 + length l.listed + 1) c) behind) ∙ ap (λ (t : List ℕ). t ++ behind) (sym (texts_more 0 l.listed c));
      told = more ∙ ap (λ (cs : List LoggedChange). cs ++ listed_changes (c ∷ [])) l.told ∙ sym (map-append (λ (d : ListedChange). record { event = d.event; interval = interval_of d.clock }) l.listed (c ∷ []));
    }

-- how many entries the blocks have
abbrev pub counted : List Block → ℕ
counted [] = 0
counted (b ∷ bs) = length (steps_of b.said) + counted bs

pub blocks_more : (count : ℕ) (bs : List Block) (b : Block) → blocks_text count (bs ++ b ∷ []) ≡ blocks_text count bs ++ block_text (count + counted bs) b
blocks_more count [] b = let none : count + 0 ≡ count = omega arith in rw none (append-nil (block_text count b))
blocks_more count (x ∷ bs) b =
    let next : ℕ = count + length (steps_of x.said) in
    let sum : next + counted bs ≡ count + (length (steps_of x.said) + counted bs) = omega arith in
    rw (blocks_more next bs b, sum) (sym (append_assoc (block_text count x) (blocks_text next bs) (block_text (count + (length (steps_of x.said) + counted bs)) b)))

pub counted_more : (bs : List Block) (b : Block) → counted (bs ++ b ∷ []) ≡ counted bs + length (steps_of b.said)
counted_more [] b = omega arith
counted_more (x ∷ bs) b = omega (arith, counted_more bs b)

-- the text began with these blocks, which the parts took
pub record Passed (text : List ℕ) (a : Parts) (rest : List ℕ) (count : ℕ) (b : Parts) : Type 0 where
  pub blocks : List Block
  pub parts : text ≡ blocks_text 0 blocks ++ rest
  pub counts : count ≡ counted blocks
  pub takes : Takes a blocks b

pub passed_none : (text : List ℕ) (a : Parts) → AreParts a → Passed text a text 0 a
passed_none text a good = record { blocks = []; parts = refl; counts = refl; takes = takes_none a good }

pub passed_more : (text : List ℕ) (a : Parts) (rest : List ℕ) (count : ℕ) (b : Parts) (x : Block) (behind : List ℕ) (now : ℕ) (c : Parts)
    → Passed text a rest count b → rest ≡ block_text count x ++ behind → now ≡ count + length (steps_of x.said) → Takes b (x ∷ []) c → Passed text a behind now c
passed_more text a rest count b x behind now c p begins sum takes =
    let number : count ≡ 0 + counted p.blocks = omega (arith, p.counts) in
    let first : rest ≡ block_text (0 + counted p.blocks) x ++ behind = begins ∙ ap (λ (n : ℕ). block_text n x ++ behind) number in
    record {
      blocks = p.blocks ++ x ∷ [];
      parts = p.parts ∙ ap (λ (t : List ℕ). blocks_text 0 p.blocks ++ t) first ∙ sym (append_assoc (blocks_text 0 p.blocks) (block_text (0 + counted p.blocks) x) behind) ∙ ap (λ (t : List ℕ). t ++ behind) (sym (blocks_more 0 p.blocks x));
      counts = sum ∙ omega (arith, p.counts, counted_more p.blocks x);
      takes = takes_more a b c p.blocks x p.takes takes;
    }

-- two ends of a text that are as long are the same
pub same_end : (x rest y torn : List ℕ) → x ++ rest ≡ y ++ torn → length rest ≡ length torn → rest ≡ torn
same_end x rest y torn same long =
    let front : length x ≡ length y = omega (arith, ap length same, length-append x rest, length-append y torn) in
    sym (drop-append_seam x rest) ∙ rw (same, front) (drop-append_seam y torn)

-- a text of a front, a body and a torn end
pub ends_so : (text whole torn front behind body rest : List ℕ) → text ≡ whole ++ torn → text ≡ front ++ behind → behind ≡ body ++ rest → length rest ≡ length torn → text ≡ front ++ (body ++ torn)
ends_so text whole torn front behind body rest parts begins goes long =
    let joined : text ≡ (front ++ body) ++ rest = begins ∙ ap (λ (t : List ℕ). front ++ t) goes ∙ sym (append_assoc front body rest) in
    let same : rest ≡ torn = same_end (front ++ body) rest whole torn (sym joined ∙ parts) long in
    joined ∙ ap (λ (t : List ℕ). (front ++ body) ++ t) same ∙ append_assoc front body torn

joined_text : (a b c d : List ℕ) → (a ++ b) ++ (c ++ d) ≡ (a ++ b ++ c) ++ d
joined_text a b c d = simp append_assoc

-- what was read of a text is its log
pub log_is : (text : List ℕ) (head : LogHead) (clock : Option Interval) (whole torn behind rest : List ℕ) (a b : Parts) (bs : List Block) (logs : List LogFields) (changes : List LoggedChange)
    → text ≡ whole ++ torn → IsTorn torn → text ≡ clock_line clock ++ (first_block head.shape head.actor head.again ++ behind) → behind ≡ blocks_text 0 bs ++ rest → length rest ≡ length torn
    → a.actor ≡ head.actor → a.current ≡ first_of head.again → a.changes.items ≡ [] → ((i : ℕ) → held a i ≡ []) → Takes a bs b
    → ((i : ℕ) → log_of logs b.actor i ≡ held b i) → All (λ (l : LogFields). l.actor ≡ b.actor) logs → changes ≡ b.changes.items → IsLog text head logs changes
log_is text head clock whole torn behind rest a b bs logs changes parts is_torn begins goes long whose first nothing none takes entries own told =
    let block : List ℕ = first_block head.shape head.actor head.again in
    let front : text ≡ (clock_line clock ++ block) ++ behind = begins ∙ sym (append_assoc (clock_line clock) block behind) in
    let ends : text ≡ (clock_line clock ++ block) ++ (blocks_text 0 bs ++ torn) = ends_so text whole torn (clock_line clock ++ block) behind (blocks_text 0 bs) rest parts front goes long in
    let joined : (clock_line clock ++ block) ++ (blocks_text 0 bs ++ torn) ≡ log_text clock head bs ++ torn = joined_text (clock_line clock) block (blocks_text 0 bs) torn in
    let actor : b.actor ≡ head.actor = takes.same_actor ∙ whose in
    record {
      clock = clock;
      blocks = bs;
      torn = torn;
      parts = ends ∙ joined;
      is_torn = is_torn;
      entries = λ i.
          ap (λ (y : Actor). log_of logs y i) (sym actor)
          ∙ entries i
          ∙ takes.made i
          ∙ ap (λ (r : List LoggedEntry). r ++ entries_in a.actor a.current i bs) (none i)
          ∙ ap (λ (y : Actor). entries_in y a.current i bs) whose
          ∙ ap (λ (n : Option ℕ). entries_in head.actor n i bs) first;
      own = subst (λ (y : Actor). All (λ (l : LogFields). l.actor ≡ y) logs) actor own;
      there = subst (λ (n : Option ℕ). AreMadeThere head.actor n bs) first (subst (λ (y : Actor). AreMadeThere y a.current bs) whose takes.there);
      told = told ∙ takes.told ∙ ap (λ (r : List LoggedChange). r ++ changes_of bs) nothing;
    }

-- the text is `whole`, and lines that end no block, and the rest; the last line of `whole` ends one
pub record Tears (text torn rest : List ℕ) : Type 0 where
  pub whole : List ℕ
  pub lines : List (List ℕ)
  pub parts : text ≡ whole ++ torn
  pub passes : Passes torn lines rest
  pub end_none : All EndsNoBlock lines

pub tears_none : (text : List ℕ) → Tears text text text
tears_none text = record { whole = []; lines = []; parts = refl; passes = passes-none text; end_none = All-nil EndsNoBlock }

joined : (text whole torn front rest line behind : List ℕ) → text ≡ whole ++ torn → torn ≡ front ++ rest → rest ≡ line ++ line_feed ∷ behind → text ≡ (whole ++ (front ++ (line ++ line_feed ∷ []))) ++ behind
joined text whole torn front rest line behind a b c = rw (a, b, c) (simp append_assoc)

pub tears_more : (text torn rest line behind now : List ℕ) → Tears text torn rest → BeginsWithLine rest line behind → (EndsNoBlock line × (now ≡ torn)) ⊎ (now ≡ behind) → Tears text now behind
tears_more text torn rest line behind now t begins (inl (none, same)) =
    subst (λ (n : List ℕ). Tears text n behind) (sym same)
    (record { whole = t.whole; lines = t.lines ++ line ∷ []; parts = t.parts; passes = passes-line torn t.lines rest line behind t.passes begins; end_none = All-push EndsNoBlock t.lines line t.end_none none })
tears_more text torn rest line behind now t begins (inr same) =
    subst (λ (n : List ℕ). Tears text n behind) (sym same)
    (record {
      whole = t.whole ++ (flat_map (λ (line : List ℕ). line ++ line_feed ∷ []) t.lines ++ (line ++ line_feed ∷ []));
      lines = [];
      parts = joined text t.whole torn (flat_map (λ (line : List ℕ). line ++ line_feed ∷ []) t.lines) rest line behind t.parts t.passes.parts begins.parts;
      passes = passes-none behind;
      end_none = All-nil EndsNoBlock;
    })

pub torn_at : (text torn rest : List ℕ) → Tears text torn rest → line_feeds rest ≡ 0 → EndsTorn text torn
torn_at text torn rest t none = record { whole = t.whole; parts = t.parts; is_torn = record { lines = t.lines; last = rest; passes = t.passes; unfinished = none; end_none = t.end_none } }
