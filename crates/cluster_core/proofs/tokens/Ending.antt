-- No token of a node has a byte after the last of a file, whatever the node is granted and gives up.
use Rattle.std.proofs.Common.{◌≡◌, ℕ, ◌≤◌, Bool, true, false, ◌==◌, if◌then◌else◌, nat_le, inl, inr, refl, sym, ap, subst, arith, Option, None}
use Rattle.std.proofs.lemmas.Bool.{and_parts, eqb-true, leb-true}
use Rattle.intervals.specs.rule.Bytes.{Range, greatest, is_in}
use Rattle.model.specs.declared.mode.Mode.{Mode}
use Rattle.model.specs.declared.mode.Mode.TheVariants.{Read, Write}
use Rattle.model.specs.declared.level.Level.{Level}
use Rattle.token_set.specs.rule.Tokens.{Token, raised, raised_level, lowered, lowered_level}
use Rattle.messages.specs.declared.message.Message.{Message}
use Rattle.messages.specs.declared.message.Message.TheVariants.{Grant, Revoke, Released, Deny, Hello}
use Rattle.node_core.specs.rule.State.{FileState, NodeState, Effect, open_call}
use Rattle.node_core.specs.rule.Commands.{in_epoch, in_order, granted, revoked, delivered}
use Rattle.cluster_core.proofs.common.Choices.{if_either, at_number}
use Rattle.cluster_core.proofs.steps.NodeSteps.{IsTo, told_either}
use Rattle.cluster_core.proofs.steps.NodeTokens.{Does, Receives, AsksFrom, denied_asks, grant_receives, revoke_receives}
use Rattle.cluster_core.proofs.tokens.Talks.{promised, settled, owing_nothing}
use Rattle.cluster_core.proofs.tokens.TalkMoves.{done_file}
use Rattle.messages.proofs.Reports.{Ends}
use Rattle.cluster_core.proofs.tokens.Epochs.{EndsOf, entered_ends}

-- a Grant is of bytes of a file
abbrev pub IsShort : Message → Type 0
IsShort (Grant file number call mode span) = span.hi ≤ greatest
IsShort m = Unit {0}

raised_ends : (t : Token) (span : Range) (mode : Mode) → span.hi ≤ greatest → Ends t → Ends (raised t span mode)
raised_ends t span mode short ends b past =
    elim (is_in span b) as (λ c. is_in span b ≡ c → (if c then raised_level (t b) mode else t b) ≡ None) [
      | true ↦ λ h. let last = leb-true b span.hi (and_parts (nat_le span.lo b) (nat_le b span.hi) h).1 in absurd (omega arith)
      | false ↦ λ h. ends b past
    ] refl

lowered_none : (mode : Mode) (x : Option Level) → x ≡ None → lowered_level x mode ≡ None
lowered_none Write x h = refl
lowered_none Read x h = ap (λ (y : Option Level). lowered_level y Read) h

lowered_ends : (t : Token) (span : Range) (mode : Mode) → Ends t → Ends (lowered t span mode)
lowered_ends t span mode ends b past = if_either (λ (x : Option Level). x ≡ None) (is_in span b) (lowered_level (t b) mode) (t b) (lowered_none mode (t b) (ends b past)) (ends b past)

promised_ends : (t : Token) (command : Message) → IsShort command → Ends t → Ends (promised t command)
promised_ends t (Grant file number call mode span) short ends = raised_ends t span mode short ends
promised_ends t m short ends = ends

settled_ends : (t : Token) (command answer : Message) → Ends t → Ends (settled t command answer)
settled_ends t (Revoke file number holder call mode wanted) (Released f k h c span) ends = lowered_ends t span mode ends
settled_ends t command answer ends = ends

-- two states of a file with the same token
same_ends : (x y : FileState) → owing_nothing x ≡ owing_nothing y → Ends y.token → Ends x.token
same_ends x y same ends = subst Ends (sym (ap (λ (z : FileState). z.token) same)) ends

pub asks_ends : (s : NodeState) (e : Effect) → AsksFrom s e → EndsOf s → EndsOf e.state
asks_ends s e a ends file = same_ends (e.state.files file) (s.files file) (a.files_are file) (ends file)

does_ends : (s : NodeState) (file number : ℕ) (command : Message) (e : Effect) → IsShort command → Does s file number command e → EndsOf s → EndsOf e.state
does_ends s file number command e short d ends f =
    let done = done_file (s.files file) number command d.answer in
    let Q : FileState → Type 0 = λ x. Ends x.token in
    let P : Bool → Type 0 = λ b. Q (if b then done else owing_nothing (s.files f)) in
    let there : P (f == file) = at_number f file P
    (λ same. settled_ends (promised (s.files file).token command) command d.answer (promised_ends (s.files file).token command short (ends file)))
    (λ other. ends f) in
    subst Ends (sym (ap (λ (z : FileState). z.token) (d.files_are f))) there

receives_ends : (s : NodeState) (file number : ℕ) (command : Message) (e : Effect) → IsShort command → Receives s file number command e → EndsOf s → EndsOf e.state
receives_ends s file number command e short (inl d) ends = does_ends s file number command e short d ends
receives_ends s file number command e short (inr (inl r)) ends = subst EndsOf (sym r.state) ends
receives_ends s file number command e short (inr (inr a)) ends = asks_ends s e a ends

-- a message of the live incarnation is taken
pub delivered_ends : (s : NodeState) (m : Message) → IsTo s m → IsShort m → EndsOf s → EndsOf (delivered s m).state
delivered_ends s (Grant file number call mode span) to short ends =
    let t = in_epoch s file number in
    receives_ends t file number (Grant file number call mode span) (in_order t file number (granted t file number call mode span)) short
    (grant_receives t file number call mode span (eqb-true call.node s.node to.node) to.incarnation) (entered_ends s file number ends)
delivered_ends s (Revoke file number holder call mode wanted) to short ends =
    let t = in_epoch s file number in
    receives_ends t file number (Revoke file number holder call mode wanted) (in_order t file number (revoked t file number call mode wanted)) tt
    (revoke_receives t file number holder call mode wanted) (entered_ends s file number ends)
delivered_ends s (Hello file number holder) to short ends =
    let t = in_epoch s file number in
    told_either (λ e. EndsOf e.state) t file number (λ is. entered_ends s file number ends) (entered_ends s file number ends)
delivered_ends s (Deny file call holder number lock) to short ends = asks_ends s (delivered s (Deny file call holder number lock)) (denied_asks s lock (open_call s call.number)) ends
delivered_ends s m to short ends = ends
