-- Talks that begin with a text, and talks with who keeps the list of a file.
use Rattle.std.proofs.Common.{◌≡◌, ◌++◌, ℕ, Bool, true, false, List, Option, Some, refl, inl, inr, subst}
use Rattle.std.specs.Io.KnownBytes.{Appends}
use Rattle.seat_text.specs.rule.Talks.{Saying, TellsPart, Turned}
use Rattle.seat_text.specs.declared.talk.TalkEnd.{TalkEnd}
use Rattle.seat_text.specs.declared.talk.TalkEnd.TheVariants.{CannotWrite}
use Rattle.seat_text.specs.rule.Speaking.{Doing, Says, Speaking}
use Rattle.seat_commands.specs.rule.SeatTalks.{Holds, SeatTalks, speaking, timing}
use Rattle.seat_commands.specs.rule.Clocks.{IsInterval, SaysTimed, Timing, at_line}
use Rattle.seat_commands.specs.declared.read_back.ReadBack.{ReadBack}
use Rattle.seat_commands.specs.rule.Registers.{Registry, SaysOfList}
use Rattle.seat_commands.specs.declared.lines.MembersLine.{MembersLine}
use Rattle.seat_commands.specs.rule.Doings.{KeepsList, TakesUp, register_of}

-- the text was written, and then there was a talk
pub talks_behind : (A : Type 0) (says : Saying A) (text : List ℕ) (end : TalkEnd) (a z : A) (r s k l m u v w : Option (List ℕ)) → Appends k l text → Appends u v text
    → Turned says (Some end) a z r s l m v w → Holds says text end a z r s k m u w
talks_behind A says text end a z r s k l m u v w logged wrote talk = inl (record { log_begun = l; out_begun = v; logged = logged; wrote = wrote; talk = talk })

-- the text was not written whole
pub breaks_off_at_once : (A : Type 0) (says : Saying A) (text : List ℕ) (a : A) (r k l u v : Option (List ℕ)) → TellsPart k l u v text → Holds says text CannotWrite a a r r k l u v
breaks_off_at_once A says text a r k l u v tells = inr (record { failed = refl; same = refl; unheard = refl; tells = tells })

-- a seat talks without a clock
pub talks_plainly : {S : Type 0} (does : Doing S) (clock : Bool) (text begin : List ℕ) (seat : S) (end : TalkEnd) (a z : Speaking S) (r s k l u v : Option (List ℕ)) → clock ≡ false → begin ≡ text → a ≡ speaking seat
    → Holds (Says does) begin end a z r s k l u v → SeatTalks does clock text seat end r s k l u v
talks_plainly {S} does clock text begin seat end a z r s k l u v is begins who holds =
    rw is (z, subst (λ (x : Speaking S). Holds (Says does) text end x z r s k l u v) who (subst (λ (t : List ℕ). Holds (Says does) t end a z r s k l u v) begins holds))

-- a seat talks with a clock
pub talks_timed : {S : Type 0} (does : Doing S) (clock : Bool) (text begin : List ℕ) (seat : S) (end : TalkEnd) (began ended : ℕ) (a z : Timing (Speaking S)) (r s k l u v : Option (List ℕ)) → clock ≡ true
    → IsInterval 0 began ended → begin ≡ at_line began ended ++ text → a ≡ timing seat ended → Holds (SaysTimed (Says does)) begin end a z r s k l u v → SeatTalks does clock text seat end r s k l u v
talks_timed {S} does clock text begin seat end began ended a z r s k l u v is read begins who holds =
    rw is (
      began,
      ended,
      z,
      read,
      subst (λ (x : Timing (Speaking S)). Holds (SaysTimed (Says does)) (at_line began ended ++ text) end x z r s k l u v) who
          (subst (λ (t : List ℕ). Holds (SaysTimed (Says does)) t end a z r s k l u v) begins holds),
    )

-- who keeps the list that a file has talks
pub keeps_list : {F : Type 0} (contents remaining : F → Option (List ℕ)) (line : MembersLine) (end now : TalkEnd) (opened begun : F) (read : ReadBack) (a z : Registry F) (unread left before after out_before out : Option (List ℕ))
    → TakesUp contents remaining line opened begun read → a ≡ register_of line begun read → end ≡ now → Turned (SaysOfList contents) (Some end) a z unread left before after out_before out → KeepsList contents remaining line now unread left out_before out
keeps_list {F} contents remaining line end now opened begun read a z unread left before after out_before out taken is ends talk = record {
  opened = opened;
  begun = begun;
  read = read;
  taken = taken;
  now = z;
  before = before;
  after = after;
  talks =
      subst (λ (e : TalkEnd). Turned (SaysOfList contents) (Some e) (register_of line begun read) z unread left before after out_before out) ends
      (subst (λ (r : Registry F). Turned (SaysOfList contents) (Some end) r z unread left before after out_before out) is talk);
}
