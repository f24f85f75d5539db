-- What the calls of a script come to in a run of it.
use Rattle.std.specs.Prelude.{ℕ, ◌==◌, ◌&&◌, Bool, false, if◌then◌else◌, List, [], ◌∷◌, ◌++◌, codes, decimal, find, flat_map, length, option_map, option_to_list, slice_get, Option, Some, None, zero, suc, ◌+◌, ◌||◌, not, drop, ◌≡◌, true}
use Rattle.model.specs.declared.call.CallId.{CallId}
use Rattle.model.specs.declared.reply.Reply.{Reply}
use Rattle.messages.specs.declared.event.Event.{Event}
use Rattle.messages.specs.declared.event.Event.TheVariants.{AtNode}
use Rattle.messages.specs.declared.event.NodeInput.TheVariants as input
use Rattle.messages.specs.rule.Entries.{EntryFields}
use Rattle.messages.specs.rule.Messages.{same_call}
use Rattle.lockscript.specs.declared.refused_line.RefusedLine.{RefusedLine}
use Rattle.lockscript.specs.declared.script_line.ScriptCommand.{ScriptCommand}
use Rattle.lockscript.specs.declared.script_line.ScriptCommand.TheVariants.{Call}
use Rattle.lockscript.specs.rule.Scripts.{LineFields}
use Rattle.lockscript.specs.rule.Texts.{reply_text}
use Rattle.player.specs.declared.answers.LineAnswer.{LineAnswer}
use Rattle.player.specs.declared.answers.LineAnswer.TheVariants.{NotMade, Refused, Open, Replied}
use Rattle.std.specs.List.{starts_with}
use Rattle.std.specs.Option.{option_and_then}
use Rattle.texts.specs.rule.LineFeeds.{line_feed}
use Rattle.player.specs.rule.Progress.{PlayedState}

abbrev pub answer_text : LineAnswer → List ℕ
answer_text NotMade = codes "not made"
answer_text (Refused code) = codes "refused " ++ decimal code
answer_text Open = codes "open"
answer_text (Replied reply) = reply_text reply

-- the number of the refusal of the line of this number, if it was refused
abbrev pub refusal_of : List RefusedLine → ℕ → Option ℕ
refusal_of refused number = option_map (λ r. r.code) (find (λ r. r.line == number) refused)

-- whether the event is a call of this process
abbrev pub is_call_by : ℕ → ℕ → Event → Bool
is_call_by node pid (AtNode n (input.Call p op)) = (n == node) && (p == pid)
is_call_by node pid _ = false

-- the same of the command of a line
abbrev pub calls_by : ℕ → ℕ → ScriptCommand → Bool
calls_by node pid (Call n p op) = (n == node) && (p == pid)
calls_by node pid _ = false

-- whether the command, of a line that was refused so, or was not, is a call of this process that was taken
abbrev pub is_taken : Option ℕ → ℕ → ℕ → ScriptCommand → Bool
is_taken (Some code) node pid command = false
is_taken None node pid command = calls_by node pid command

-- the numbers of the lines that are calls of the process and were taken
abbrev pub taken : List RefusedLine → ℕ → ℕ → List LineFields → List ℕ
taken refused node pid lines = flat_map (λ l. if is_taken (refusal_of refused l.number) node pid l.command then l.number ∷ [] else []) lines

-- the names of the calls of the process, in the order in which they were taken
abbrev pub names : ℕ → ℕ → List EntryFields → List CallId
names node pid entries = flat_map (λ e. if is_call_by node pid e.event then option_to_list e.call else []) entries

-- the reply, if it is to this call
abbrev pub reply_in : CallId → Option (CallId × Reply) → Option Reply
reply_in call None = None
reply_in call (Some told) = if same_call told.0 call then Some told.1 else None

abbrev pub answer_or : Option Reply → LineAnswer → LineAnswer
answer_or None other = other
answer_or (Some reply) other = Replied reply

-- the first reply to the call; without one it is open
abbrev pub reply_answer : CallId → List EntryFields → LineAnswer
reply_answer call [] = Open
reply_answer call (e ∷ es) = answer_or (reply_in call e.reply) (reply_answer call es)

-- what the call of this name comes to; one without a name is open
abbrev pub named_answer : Option CallId → List EntryFields → LineAnswer
named_answer None entries = Open
named_answer (Some call) entries = reply_answer call entries

-- what a call comes to that was refused so, or was not, where so many calls of its process were taken before it: each has the next name
abbrev pub call_answer : Option ℕ → ℕ → List CallId → List EntryFields → LineAnswer
call_answer (Some code) before named entries = Refused code
call_answer None before named entries = named_answer (slice_get named before) entries

-- what a line of this number comes to behind these lines, where these of them are refused and these entries are made
abbrev pub answer_behind : List LineFields → ℕ → ScriptCommand → List RefusedLine → List EntryFields → LineAnswer
answer_behind earlier number (Call node pid op) refused entries = call_answer (refusal_of refused number) (length (taken refused node pid earlier)) (names node pid entries) entries
answer_behind earlier number _ refused entries = NotMade

-- what each line comes to
abbrev pub answers_behind : List LineFields → List LineFields → List RefusedLine → List EntryFields → List LineAnswer
answers_behind earlier [] refused entries = []
answers_behind earlier (l ∷ ls) refused entries = answer_behind earlier l.number l.command refused entries ∷ answers_behind (earlier ++ l ∷ []) ls refused entries

-- the first line of a text, and what stands behind its line feed
abbrev pub split_feed : List ℕ → Option (List ℕ × List ℕ)
split_feed [] = None
split_feed (b ∷ bs) = if b == line_feed then Some ([], bs) else option_map (λ p. (b ∷ p.0, p.1)) (split_feed bs)

-- what stands behind so many lines
abbrev pub behind : ℕ → Option (List ℕ) → Option (List ℕ)
behind zero rest = rest
behind n None = None
behind (suc n) (Some text) = behind n (option_map (λ p. p.1) (split_feed text))

abbrev pub begins : List ℕ → List ℕ → Bool
begins front bytes = starts_with (λ a b. a == b) bytes front

-- how a line begins that says what is expected
abbrev pub expect : List ℕ
expect = codes "# expect "

abbrev pub words_of : List ℕ → Option (List ℕ)
words_of line = if begins expect line then Some (drop (length expect) line) else None

abbrev pub words_in : Option (List ℕ) → Option (List ℕ)
words_in rest = option_and_then (λ p. words_of p.0) (option_and_then split_feed rest)

-- what is expected of a line: the words of the next line of the text, behind a call
abbrev pub expected_of : List ℕ → ℕ → ScriptCommand → Option (List ℕ)
expected_of text number (Call node pid op) = words_in (behind number (Some text))
expected_of text number _ = None

abbrev pub expected : List ℕ → LineFields → Option (List ℕ)
expected text l = expected_of text l.number l.command

-- the answer's text begins otherwise than is expected
abbrev pub is_broken : Option (List ℕ) → LineAnswer → Bool
is_broken None answer = false
is_broken (Some words) answer = not (begins words (answer_text answer))

abbrev pub is_broken_at : Option (List ℕ) → Option LineAnswer → Bool
is_broken_at words None = false
is_broken_at words (Some answer) = is_broken words answer

-- some answer does so, the first of these lines having the answer at this place
abbrev pub breaks_from : List ℕ → List LineAnswer → ℕ → List LineFields → Bool
breaks_from text answers index [] = false
breaks_from text answers index (l ∷ ls) = is_broken_at (expected text l) (slice_get answers index) || breaks_from text answers (index + 1) ls

abbrev pub breaks : List ℕ → List LineFields → List LineAnswer → Bool
breaks text lines answers = breaks_from text answers 0 lines

-- in a run some line of the script comes to what begins otherwise than its text expects
abbrev pub breaks_in_run : List ℕ → List LineFields → List RefusedLine → List EntryFields → Bool
breaks_in_run text lines refused entries = breaks text lines (answers_behind [] lines refused entries)

-- the same of a run of which so many entries were there before the script
abbrev pub breaks_behind : List ℕ → List LineFields → ℕ → PlayedState → Bool
breaks_behind text lines earlier p = breaks_in_run text lines p.refused (drop earlier p.journal.entries)

-- what is told of a run: something where that is so, and else nothing
abbrev pub IsCompared : Bool → Option (List ℕ) → Type 0
IsCompared breaking None = breaking ≡ false
IsCompared breaking (Some told) = breaking ≡ true
