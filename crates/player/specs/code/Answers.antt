-- Lists, one of each process.
use Rattle.std.specs.Prelude.{ℕ, ◌==◌, ◌&&◌, List, [], Option, ◌≡◌, nat_eq, length}
use Rattle.std.specs.Global.{Vec}
use Rattle.std.specs.HashMap.{HashMap, get}
use Rattle.std.specs.Option.{option_map_or}
use Rattle.std.specs.declared.hash.FoldHasher.{FoldHasher}
use Rattle.std.specs.declared.hash.BuildHasherDefault.{BuildHasherDefault}
use Rattle.model.specs.declared.call.CallId.{CallId}
use Rattle.model.specs.declared.reply.Reply.{Reply}
use Rattle.model.specs.contracts.call.CallIdPartialEq.TheImpl as derived
use Rattle.messages.specs.rule.Entries.{EntryFields}
use Rattle.lockscript.specs.declared.refused_line.RefusedLine.{RefusedLine}
use Rattle.lockscript.specs.declared.script_line.ScriptCommand.{ScriptCommand}
use Rattle.lockscript.specs.declared.script_line.ScriptCommand.TheVariants.{Call}
use Rattle.player.specs.declared.answers.LineAnswer.{LineAnswer}
use Rattle.player.specs.declared.answers.LineAnswer.TheVariants.{NotMade, Open}
use Rattle.player.specs.rule.Expectations.{answer_or, call_answer, names, refusal_of, reply_answer}

abbrev pub ByProcess : Type 0 → Type 0
ByProcess T = HashMap (ℕ × ℕ) (Vec T) (BuildHasherDefault FoldHasher)

abbrev pub get_list : {T : Type 0} → ByProcess T → ℕ × ℕ → Option (Vec T)
get_list lists process = get (λ a b. (a.0 == b.0) && (a.1 == b.1)) lists process

-- the list of the process of this node and number
abbrev pub list_in : {T : Type 0} → ByProcess T → ℕ → ℕ → List T
list_in lists node pid = option_map_or (λ list. list.items) (get_list lists (node, pid)) []

abbrev pub CodesByLine : Type 0
CodesByLine = HashMap ℕ ℕ (BuildHasherDefault FoldHasher)

-- the index has the number of each refusal
abbrev pub KnowsRefusals : CodesByLine → List RefusedLine → Type 0
KnowsRefusals codes refused = (number : ℕ) → get nat_eq codes number ≡ refusal_of refused number

-- the index has the names of the calls of each process
abbrev pub KnowsNames : ByProcess CallId → List EntryFields → Type 0
KnowsNames named entries = (node pid : ℕ) → list_in named node pid ≡ names node pid entries

abbrev pub RepliesByCall : Type 0
RepliesByCall = HashMap CallId Reply (BuildHasherDefault FoldHasher)

abbrev pub reply_known : RepliesByCall → CallId → Option Reply
reply_known replies call = get derived.ghosts.eq replies call

-- the index has the first reply to each call
abbrev pub KnowsReplies : RepliesByCall → List EntryFields → Type 0
KnowsReplies replies entries = (call : CallId) → answer_or (reply_known replies call) Open ≡ reply_answer call entries

-- what a command comes to that was refused so, or was not, where the index has the lines of each process that were taken before
abbrev pub answer_by : Option ℕ → ByProcess ℕ → List EntryFields → ScriptCommand → LineAnswer
answer_by refusal taken entries (Call node pid op) = call_answer refusal (length (list_in taken node pid)) (names node pid entries) entries
answer_by refusal taken entries _ = NotMade
