-- The lines that a seat reads, and what they tell it.
use Rattle.std.specs.Prelude.{ℕ, ◌++◌, ⊤, List, Option, Some, None, codes, decimal, ◌+◌, ◌&&◌, ◌==◌, nat_eq, not, if◌then◌else◌, Bool, [], ◌∷◌, length}
use Rattle.model.specs.rule.Limits.{IsNumber, most_nodes, most_processes}
use Rattle.messages.specs.declared.event.Event.TheVariants.{AtNode, AtServer, Deliver as Comes, Member}
use Rattle.messages.specs.declared.event.NodeInput.TheVariants as input
use Rattle.messages.specs.declared.event.ServerInput.TheVariants as order
use Rattle.messages.specs.declared.event.MemberEvent.TheVariants as change
use Rattle.messages.specs.declared.version.Version.TheVariants.{Second}
use Rattle.messages.specs.rule.Shapes.{most_files}
use Rattle.texts.specs.rule.Reads.{pair_text, has_no_space}
use Rattle.message_text.specs.rule.Texts.{IsServedMessage, message_text}
use Rattle.lockscript.specs.rule.Served.{IsServedOp}
use Rattle.lockscript.specs.rule.Texts.{op_text}
use Rattle.seats.specs.declared.order.Order.{Order}
use Rattle.seats.specs.declared.order.Order.TheVariants.{Happens, Tick as Passes}
use Rattle.seat_text.specs.declared.seat_line.SeatLine.{SeatLine}
use Rattle.seat_text.specs.declared.seat_line.SeatLine.TheVariants.{Call, Tagged, Deliver, Interrupt, Retry, Resend, Declare, Restart, FailServer, StartServer, Tick}
use Rattle.std.specs.List.{list_any}
use Rattle.std.specs.Cmp.Lexicographic.{pointwise}
use Rattle.texts.specs.rule.Layout.{space}

abbrev pub line_text : SeatLine → List ℕ
line_text (Call node pid op) = codes "call " ++ pair_text decimal (pair_text decimal op_text) (node, (pid, op))
line_text (Tagged tag node pid op) = codes "tagged " ++ pair_text decimal (pair_text decimal (pair_text decimal op_text)) (tag, (node, (pid, op)))
line_text (Deliver message) = codes "deliver " ++ message_text Second message
line_text (Interrupt node pid) = codes "interrupt " ++ pair_text decimal decimal (node, pid)
line_text (Retry node pid) = codes "retry " ++ pair_text decimal decimal (node, pid)
line_text (Resend file) = codes "resend " ++ decimal file
line_text (Declare node) = codes "declare " ++ decimal node
line_text (Restart node) = codes "restart " ++ decimal node
line_text (FailServer file) = codes "fail-server " ++ decimal file
line_text (StartServer file) = codes "start-server " ++ decimal file
line_text Tick = codes "tick"

-- the greatest tag
abbrev pub greatest_tag : ℕ
greatest_tag = 18446744073709551615

-- the numbers of the line are within their limits
abbrev pub IsServedLine : SeatLine → Type 0
IsServedLine (Call node pid op) = IsNumber most_nodes node × IsNumber most_processes pid × IsServedOp op
IsServedLine (Tagged tag node pid op) = IsNumber greatest_tag tag × IsNumber most_nodes node × IsNumber most_processes pid × IsServedOp op
IsServedLine (Deliver message) = IsServedMessage Second message
IsServedLine (Interrupt node pid) = IsNumber most_nodes node × IsNumber most_processes pid
IsServedLine (Retry node pid) = IsNumber most_nodes node × IsNumber most_processes pid
IsServedLine (Resend file) = IsNumber most_files file
IsServedLine (Declare node) = IsNumber most_nodes node
IsServedLine (Restart node) = IsNumber most_nodes node
IsServedLine (FailServer file) = IsNumber most_files file
IsServedLine (StartServer file) = IsNumber most_files file
IsServedLine Tick = ⊤

-- what the line tells the seat
abbrev pub order_of : SeatLine → Order
order_of (Call node pid op) = Happens (AtNode node (input.Call pid op))
order_of (Tagged tag node pid op) = Happens (AtNode node (input.Call pid op))
order_of (Deliver message) = Happens (Comes message)
order_of (Interrupt node pid) = Happens (AtNode node (input.Interrupt pid))
order_of (Retry node pid) = Happens (AtNode node (input.Retry pid))
order_of (Resend file) = Happens (AtServer file order.Resend)
order_of (Declare node) = Happens (Member (change.Declare node))
order_of (Restart node) = Happens (Member (change.Restart node))
order_of (FailServer file) = Happens (Member (change.FailServer file))
order_of (StartServer file) = Happens (Member (change.StartServer file))
order_of Tick = Passes

-- the number that comes back with the reply, where the line has one
abbrev pub tag_of : SeatLine → Option ℕ
tag_of (Tagged tag node pid op) = Some tag
tag_of _ = None

-- the words with which lines with operands begin
abbrev pub operand_words : List (List ℕ)
operand_words =
    codes "call" ∷ codes "tagged" ∷ codes "deliver" ∷ codes "interrupt" ∷ codes "retry" ∷ codes "resend" ∷ codes "declare" ∷ codes "restart" ∷ codes "fail-server" ∷ codes "start-server" ∷ []

-- whether lines with operands begin with the word
abbrev pub has_operands : List ℕ → Bool
has_operands word = list_any (pointwise nat_eq word) operand_words

-- the bytes before the first space
abbrev pub first_word : List ℕ → List ℕ
first_word [] = []
first_word (b ∷ bytes) = if b == space then [] else b ∷ first_word bytes

-- the byte of a line, from 1, at which what may not stand there begins: the operands behind its first word, where such a line has some, or else that word
abbrev pub column_of : List ℕ → ℕ
column_of line = if not (has_no_space line) && has_operands (first_word line) then length (first_word line) + 2 else 1
