-- What a planned step changes of the nodes that a token server knows, and the commands to them.
use Rattle.std.specs.Prelude.{ℕ, ◌+◌, nat_lt, if◌then◌else◌, Option, Some, None, is_some, Result, Ok, Err, ◌-◌, Bool, true, false, ◌==◌, max, List, ◌&&◌, [], ◌∷◌, length, ◌≡◌, ◌<◌, slice_get, ◌≤◌, filter}
use Rattle.intervals.specs.rule.Bytes.{Range, greatest}
use Rattle.model.specs.declared.mode.Mode.{Mode}
use Rattle.model.specs.declared.mode.Mode.TheVariants.{Read, Write}
use Rattle.token_set.specs.rule.Tokens.{Token, raised, token_of, lowered}
use Rattle.messages.specs.declared.message.Message.{Message}
use Rattle.messages.specs.declared.message.Message.TheVariants.{Grant}
use Rattle.token_server.specs.rule.Rows.{Commands, Row, empty_row, row_above, awaited_row, row_conflicts_at}
use Rattle.messages.specs.declared.refusal.StepError.{StepError}
use Rattle.messages.specs.declared.refusal.StepError.TheVariants.{Spent}
use Rattle.messages.specs.rule.Messages.{greatest_number, is_within, reported}
use Rattle.std.specs.Option.{option_map}
use Rattle.token_server.specs.declared.known_nodes.known_change.KnownChange.{KnownChange}
use Rattle.token_server.specs.declared.known_nodes.known_change.KnownChange.TheVariants.{Forgotten, Asked, Answered, Relieved, Reported}
use Rattle.token_server.specs.declared.known_nodes.known_change.Changed.{Changed}
use Rattle.intervals.specs.declared.tree_map.TreeMap.{TreeMap}
use Rattle.model.specs.declared.level.Level.{Level}
use Rattle.messages.specs.declared.token_run.TokenRun.{TokenRun}
use Rattle.token_set.specs.code.Edits.{edited as edited_token}
use Rattle.token_set.specs.code.Views.{viewed}
use Rattle.token_server.specs.declared.known_nodes.token_holder.TokenHolder.{TokenHolder}
use Rattle.token_server.specs.declared.known_nodes.token_holder.RowView.{RowView}
use Rattle.token_server.specs.declared.known_nodes.known_node.KnownNode.{KnownNode}
use Rattle.token_server.specs.declared.known_nodes.row_edit.RowAfter.{RowAfter}
use Rattle.token_server.specs.declared.known_nodes.row_edit.RowAfter.TheVariants.{Kept, New}
use Rattle.token_server.specs.declared.known_nodes.row_edit.RowEdit.{RowEdit}
use Rattle.token_server.specs.declared.known_nodes.new_row.NewRow.{NewRow}
use Rattle.token_server.specs.rule.RowParts.{row_in, row_state, rows_of, deaths_of, known_node_at, row_of, dead_of}
use Rattle.model.specs.declared.level.Level.TheVariants.{Shared, Exclusive}
use Rattle.messages.specs.rule.Members.{MembersParts, members_state}
use Rattle.std.specs.List.{range_with_len}
use Rattle.token_set.specs.code.Sets.{ListsRuns}
use Rattle.token_server.specs.declared.shown_row.ShownRow.{ShownRow}
use Rattle.token_server.specs.rule.State.{ServerState}

-- the token that the server notes for a node after it sends the command
abbrev pub promised : Message → Token → Token
promised (Grant file number call mode span) token = raised token span mode
promised _ token = token

-- the commands with that one outstanding, and the same number
abbrev pub awaiting : Message → Commands → Commands
awaiting command c = record { incarnation = c.incarnation; number = c.number; outstanding = Some command }

-- the span that one mode grants, where that mode conflicts with the other
abbrev pub barred_by : Mode → Mode → Range → Option Range
barred_by Write mode span = Some span
barred_by Read Write span = Some span
barred_by Read Read span = None

-- the span that the command grants, if it is a Grant and its mode conflicts with this one
abbrev pub bars : Message → Mode → Option Range
bars (Grant file number call granted span) mode = barred_by granted mode span
bars _ mode = None

-- the number of the next command in the epoch with this base, or none where a command is outstanding
abbrev pub next_number : ℕ → Commands → Result (Option ℕ) StepError
next_number begin c = if is_some c.outstanding then Ok None else (if nat_lt c.number (begin + greatest_number) then Ok (Some (c.number + 1)) else Err Spent)

-- the commands after the outstanding one is answered
abbrev pub answered_commands : Commands → Commands
answered_commands c = record { incarnation = c.incarnation; number = c.number; outstanding = None }

-- the commands after the next one is sent
abbrev pub told_commands : Message → Commands → Commands
told_commands command c = record { incarnation = c.incarnation; number = c.number + 1; outstanding = Some command }

-- the row after its command is answered
abbrev pub answered : Row → Row
answered row = record row { outstanding = None }

-- the row after its command is answered, with that token if there is one
abbrev pub answering : Option (TreeMap Level) → Row → Row
answering None row = answered row
answering (Some token) row = record row { token = token_of token; outstanding = None }

-- the row after its command is answered by giving up the span
abbrev pub relieved : Range → Mode → Row → Row
relieved span mode row = record row { token = lowered row.token span mode; outstanding = None }

-- the row after its Hello is answered: the node reported its token, as those runs
abbrev pub reporting : List TokenRun → Row → Row
reporting runs row = record row { token = reported runs; outstanding = None }

-- the rows, where f changes the row of the node
abbrev pub with_change : ℕ → (Option Row → Option Row) → (ℕ → Option Row) → ℕ → Option Row
with_change node f rows n = if n == node then f (rows n) else rows n

abbrev pub row_or_empty : ℕ → ℕ → Option Row → Option Row
row_or_empty number incarnation None = Some (empty_row number incarnation)
row_or_empty number incarnation (Some row) = Some row

-- the row of a node after the change
abbrev pub row_after : KnownChange → Option Row → Option Row
row_after (Forgotten incarnation) row = row_above incarnation row
row_after (Asked host begin) row = row_or_empty begin host.incarnation (row_above (host.incarnation - 1) row)
row_after Answered row = option_map answered row
row_after (Relieved span mode) row = option_map (relieved span mode) row
row_after (Reported runs) row = option_map (reporting runs) row

-- the greatest dead incarnation of a node after the change
abbrev pub dead_after : KnownChange → ℕ → ℕ
dead_after (Forgotten incarnation) dead = max dead incarnation
dead_after (Asked host begin) dead = max dead (host.incarnation - 1)
dead_after Answered dead = dead
dead_after (Relieved span mode) dead = dead
dead_after (Reported runs) dead = dead

-- the incarnation up to which the change drops the node's requests, if it drops any
abbrev pub dropped_to : KnownChange → Option ℕ
dropped_to (Forgotten incarnation) = Some incarnation
dropped_to (Asked host begin) = Some (host.incarnation - 1)
dropped_to Answered = None
dropped_to (Relieved span mode) = None
dropped_to (Reported runs) = None

abbrev pub rows_after : Option Changed → (ℕ → Option Row) → ℕ → Option Row
rows_after None rows = rows
rows_after (Some c) rows = with_change c.node (row_after c.change) rows

abbrev pub deaths_after : Option Changed → (ℕ → ℕ) → ℕ → ℕ
deaths_after None deaths = deaths
deaths_after (Some c) deaths = λ n. if n == c.node then dead_after c.change (deaths n) else deaths n

-- the change may make the node's row block a request that it did not block before
abbrev pub may_bar : KnownChange → Bool
may_bar (Reported runs) = true
may_bar _ = false

-- the row in the rules that is read
abbrev pub seen : RowView → Row
seen r = row_in r.commands.now (viewed r.token)

abbrev pub seen_row : Option RowView → Option Row
seen_row None = None
seen_row (Some r) = Some (seen r)

-- the row as it will stand, where the node had this one before
abbrev pub row_with : RowAfter → Option TokenHolder → Option Row
row_with (New row) before = Some (row_state row)
row_with (Kept commands token) None = None
row_with (Kept commands token) (Some row) = Some (row_in commands (edited_token token row.token))

abbrev pub row_kept : Option RowAfter → Option TokenHolder → Option Row
row_kept None row = None
row_kept (Some after) row = row_with after row

-- the row after the command is sent: these commands stand in it, and its token is as the command promises
abbrev pub row_promised : Commands → Message → Option Row → Option Row
row_promised commands command None = None
row_promised commands command (Some row) = Some (row_in commands (promised command row.token))

abbrev pub given_to_known_node : NewRow → Option KnownNode → Option Row
given_to_known_node g None = None
given_to_known_node g (Some known_node) = row_kept g.row known_node.row

-- the row of each node after one new row is made
abbrev pub with_given_row : NewRow → List KnownNode → ℕ → Option Row
with_given_row g known_nodes n = if n == g.place + 1 then given_to_known_node g (known_node_at known_nodes n) else rows_of known_nodes n

-- the row of each node after these new rows are made; of several for one node the first counts
abbrev pub given_rows : List NewRow → List KnownNode → ℕ → Option Row
given_rows [] known_nodes n = rows_of known_nodes n
given_rows (g ∷ gs) known_nodes n = if n == g.place + 1 then given_to_known_node g (known_node_at known_nodes n) else given_rows gs known_nodes n

-- the new row that an edit makes, if there is an edit
abbrev pub given_of : Option RowEdit → List NewRow
given_of None = []
given_of (Some e) = e.given ∷ []

-- the row of each node after the edit
abbrev pub rows_overlaid : List KnownNode → Option RowEdit → ℕ → Option Row
rows_overlaid known_nodes edit = given_rows (given_of edit) known_nodes

-- the greatest dead incarnation of each node, with this one for the node at the index, if one stands there
abbrev pub deaths_with : ℕ → ℕ → List KnownNode → ℕ → ℕ
deaths_with place dead known_nodes n = if n == place + 1 && nat_lt place (length known_nodes) then dead else deaths_of known_nodes n

abbrev pub deaths_overlaid : List KnownNode → Option RowEdit → ℕ → ℕ
deaths_overlaid known_nodes None = deaths_of known_nodes
deaths_overlaid known_nodes (Some e) = deaths_with e.given.place e.dead known_nodes

-- the mode that a byte at the level is granted for
abbrev pub mode_of : Level → Mode
mode_of Shared = Read
mode_of Exclusive = Write

-- the row of a node at a server that was rebuilt: if the node is alive, a Hello is outstanding
abbrev pub rebuilt_row : ℕ → ℕ → MembersParts → ℕ → Option Row
rebuilt_row file number members node =
    let nodes = members_state members.nodes in
    if nodes.alive node then Some (awaited_row file number node (nodes.incarnation node)) else None

-- the rows of nodes 1 to n at a server that was rebuilt
abbrev pub rebuilt_rows : ℕ → ℕ → ℕ → MembersParts → ℕ → Option Row
rebuilt_rows n file number members node = if is_within n node then rebuilt_row file number members node else None

-- the greatest incarnation of a node that a server that was rebuilt knows to be dead
abbrev pub rebuilt_dead : MembersParts → ℕ → ℕ
rebuilt_dead members node = (members_state members.nodes).incarnation node - 1

-- the first n known nodes are nodes 1 to n as a server that was rebuilt knows them
abbrev pub AreRebuilt : ℕ → ℕ → MembersParts → ℕ → List KnownNode → Type 0
AreRebuilt file number members n known_nodes =
    (k : ℕ) → k < n → (row_of (slice_get known_nodes k) ≡ rebuilt_row file number members (k + 1)) × (dead_of (slice_get known_nodes k) ≡ rebuilt_dead members (k + 1))

-- no row has an exclusive byte, so that none conflicts with a read lock
abbrev pub NoneExclusive : (ℕ → Option Row) → Type 0
NoneExclusive rows = (node b : ℕ) → b ≤ greatest → row_conflicts_at (rows node) b Read ≡ false

-- the nodes from 1 to n that pass the test, by rising node
abbrev pub nodes_where : (ℕ → Bool) → ℕ → List ℕ
nodes_where passes n = filter passes (range_with_len 1 n)

-- a shown row has the values of the row, and its token as the longest runs of bytes at one level
pub record Shows (row : Row) (shown : ShownRow) : Type 0 where
  pub incarnation : shown.incarnation ≡ row.incarnation
  pub token : ListsRuns row.token shown.token.items
  pub number : shown.number ≡ row.number
  pub command : shown.command ≡ row.outstanding

-- a shown row is that of its node at the server
pub record IsRow (s : ServerState) (shown : ShownRow) : Type 0 where
  pub row : Row
  pub there : s.rows shown.node ≡ Some row
  pub shows : Shows row shown
