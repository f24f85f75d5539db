-- The listing of what a run gave.
use Rattle.std.specs.Prelude.{ℕ, ◌+◌, List, [], ◌∷◌, ◌++◌, codes, decimal, flat_map, Option, Some, None}
use Rattle.intervals.specs.rule.Bytes.{Range}
use Rattle.model.specs.declared.call.CallId.{CallId}
use Rattle.model.specs.declared.reply.Reply.{Reply}
use Rattle.messages.specs.declared.entry.Entry.{Entry}
use Rattle.cluster_core.specs.declared.held_lock.HeldLock.{HeldLock}
use Rattle.cluster_core.specs.declared.node_token_run.NodeTokenRun.{NodeTokenRun}
use Rattle.cluster_core.specs.declared.item.Item.{Item}
use Rattle.cluster_core.specs.declared.item.Item.TheVariants.{Answered, Gone}
use Rattle.lockscript.specs.declared.refused_line.RefusedLine.{RefusedLine}
use Rattle.lockscript.specs.rule.Layout.{left_in, right_in}
use Rattle.message_text.specs.rule.Texts.{call_text, host_text, owner_text}
use Rattle.lockscript.specs.rule.Texts.{op_text, reply_text}
use Rattle.texts.specs.rule.Words.{level_text, mode_text}

-- the line of a refused line of the script, with the number of its refusal
abbrev pub refused_line : RefusedLine → List ℕ
refused_line r = codes "line " ++ decimal r.line ++ codes " code " ++ decimal r.code ++ codes "\n"

-- the first two columns of a line about an entry: the entry's position and a name
abbrev pub placed : ℕ → List ℕ → List ℕ
placed position name = right_in 7 (decimal position) ++ codes " " ++ left_in 16 name ++ codes " "

-- the line of an entry at this position, if the entry answers a call
abbrev pub replied : ℕ → Option (CallId × Reply) → List ℕ
replied position None = []
replied position (Some answer) = placed position (call_text answer.0) ++ reply_text answer.1 ++ codes "\n"

-- the lines of the entries that answer calls, where the first entry is at this position
abbrev pub reply_lines : ℕ → List Entry → List ℕ
reply_lines position [] = []
reply_lines position (e ∷ es) = replied position e.reply ++ reply_lines (position + 1) es

-- the columns of a file and of the bytes of a span in it
abbrev pub span_columns : ℕ → Range → List ℕ
span_columns file s = right_in 3 (decimal file) ++ codes " " ++ right_in 19 (decimal s.lo) ++ codes " " ++ right_in 19 (decimal s.hi) ++ codes " "

abbrev pub token_line : NodeTokenRun → List ℕ
token_line t = left_in 8 (host_text t.node t.incarnation) ++ codes " " ++ span_columns t.file t.span ++ level_text t.level ++ codes "\n"

abbrev pub lock_line : HeldLock → List ℕ
lock_line h = left_in 16 (owner_text h.lock.owner) ++ codes " " ++ span_columns h.file h.lock.span ++ mode_text h.lock.mode ++ codes "\n"

abbrev pub history_line : Item → List ℕ
history_line (Answered position id pid op reply) = placed position (call_text id) ++ decimal pid ++ codes " " ++ op_text op ++ codes " -> " ++ reply_text reply ++ codes "\n"
history_line (Gone position node incarnation) = placed position (codes "gone") ++ host_text node incarnation ++ codes "\n"

-- the first four sections, each under its heading
abbrev pub listing_start : List RefusedLine → List Entry → List NodeTokenRun → List HeldLock → List ℕ
listing_start refused entries tokens locks =
    codes "refused\n" ++ flat_map refused_line refused
    ++ codes "replies\n" ++ reply_lines 1 entries
    ++ codes "tokens\n" ++ flat_map token_line tokens
    ++ codes "locks\n" ++ flat_map lock_line locks

-- the last section, under its heading
abbrev pub history_text : List Item → List ℕ
history_text history = codes "history\n" ++ flat_map history_line history

-- all five sections, each under its heading
abbrev pub listing_text : List RefusedLine → List Entry → List NodeTokenRun → List HeldLock → List Item → List ℕ
listing_text refused entries tokens locks history =
    codes "refused\n" ++ flat_map refused_line refused
    ++ codes "replies\n" ++ reply_lines 1 entries
    ++ codes "tokens\n" ++ flat_map token_line tokens
    ++ codes "locks\n" ++ flat_map lock_line locks
    ++ codes "history\n" ++ flat_map history_line history
