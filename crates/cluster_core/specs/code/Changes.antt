-- The change that an event makes in a world, copies of actors in it, and an index of what was sent.
use Rattle.std.specs.Prelude.{ℕ, ◌-◌, slice_set, ◌≡◌, ◌<◌, ◌≤◌, true, false, List, Some, Result, Ok, slice_index_or, ◌%◌, Bool, ◌||◌, nat_eq, length, take, slice_get, All, Option, None}
use Rattle.node_core.specs.rule.Parts.{NodeParts, node_state}
use Rattle.token_server.specs.rule.Parts.{ServerParts, server_state}
use Rattle.cluster_core.specs.rule.Parts.{WorldParts, alive_at, works_at, world_state}
use Rattle.messages.specs.rule.Messages.{is_within, same_message, is_among}
use Rattle.messages.specs.rule.Entries.{NamesItsIncarnation}
use Rattle.messages.specs.declared.refusal.Refused.{Refused}
use Rattle.messages.specs.declared.event.Event.{Event}
use Rattle.messages.specs.declared.message.Message.{Message}
use Rattle.messages.specs.declared.entry.Entry.{Entry}
use Rattle.messages.specs.rule.Members.{incarnation_in}
use Rattle.node_core.specs.declared.change.NodeChange.{NodeChange}
use Rattle.node_core.specs.declared.event.NodeEvent.{NodeEvent}
use Rattle.node_core.specs.rule.Node.{node_rule}
use Rattle.node_core.specs.code.Plans.{Fits, planned as reached}
use Rattle.node_core.specs.rule.State.{first_node}
use Rattle.token_server.specs.declared.change.ServerChange.{ServerChange}
use Rattle.token_server.specs.declared.event.ServerEvent.{ServerEvent}
use Rattle.token_server.specs.code.Edits.{planned, Fits as ServerFits}
use Rattle.token_server.specs.rule.Resends.{outstanding}
use Rattle.token_server.specs.rule.Server.{server_rule}
use Rattle.cluster_core.specs.declared.world.world_change.WorldChange.{WorldChange}
use Rattle.cluster_core.specs.declared.world.world_change.WorldChange.TheVariants.{OfNode, OfServer, Declared, Restarted, Failed, Started}
use Rattle.cluster_core.specs.rule.World.{WorldState, journal_limit, most_incarnations}
use Rattle.cluster_core.specs.rule.Next.{named_incarnation, after_node, after_server, declare_rule, restart_rule, fail_rule, start_rule, next_server, next}
use Rattle.cluster_core.specs.rule.Actors.{node_event, server_event}
use Rattle.std.specs.List.{fold, list_any}
use Rattle.std.specs.Hash.FoldHasher.{initial, write, finish}
use Rattle.std.specs.declared.hash.FoldHasher.{FoldHasher}
use Rattle.std.specs.declared.hash.BuildHasherDefault.{BuildHasherDefault}
use Rattle.std.specs.HashMap.{HashMap, get}
use Rattle.messages.specs.contracts.message.MessageHash.TheImpl as hashed

abbrev pub with_node_copy : WorldParts → ℕ → NodeParts → WorldParts
with_node_copy p n x = record p { nodes = slice_set p.nodes (n - 1) x }

abbrev pub with_server_copy : WorldParts → ℕ → ServerParts → WorldParts
with_server_copy p file x = record p { servers = slice_set p.servers (file - 1) x }

-- the change is the step of the node at the event, and r is what the step makes
pub record IsNodeChange (p : WorldParts) (event : Event) (n incarnation : ℕ) (change : NodeChange) (r : Result (WorldState × Entry) Refused) : Type 0 where
  pub step : NodeEvent
  pub number : is_within p.shape.nodes n ≡ true
  pub alive : alive_at p n ≡ true
  pub takes : node_event n event ≡ Some step
  pub node : NodeParts
  pub there : node ≡ slice_index_or p.nodes (n - 1) node
  pub fits : Fits node change.edit
  pub done : node_rule ((world_state p).nodes n) step ≡ Ok (reached node change.edit, change.outcome)
  pub incarnation_is : incarnation ≡ named_incarnation ((world_state p).nodes n) event
  pub incarnated : NamesItsIncarnation event incarnation
  pub gives : r ≡ after_node (world_state p) event n (node_rule ((world_state p).nodes n) step)

-- the change is the step of the token server at the event, and r is what the step makes
pub record IsServerChange (p : WorldParts) (event : Event) (file : ℕ) (change : ServerChange) (r : Result (WorldState × Entry) Refused) : Type 0 where
  pub step : ServerEvent
  pub number : is_within p.shape.files file ≡ true
  pub takes : server_event file event ≡ Some step
  pub server : ServerParts
  pub there : server ≡ slice_index_or p.servers (file - 1) server
  pub fits : ServerFits server change.edit
  pub done : server_rule ((world_state p).servers file) step ≡ Ok (planned server change.edit, change.outcome)
  pub gives : r ≡ after_server (world_state p) event file (server_rule ((world_state p).servers file) step)

-- the node is alive and may be declared failed
pub record IsDeclaration (p : WorldParts) (n : ℕ) (r : Result (WorldState × Entry) Refused) : Type 0 where
  pub number : is_within p.shape.nodes n ≡ true
  pub alive : alive_at p n ≡ true
  pub gives : r ≡ declare_rule (world_state p) n

-- the node may restart, in this state
pub record IsRestart (p : WorldParts) (n : ℕ) (begun : NodeParts) : Type 0 where
  pub number : is_within p.shape.nodes n ≡ true
  pub dead : alive_at p n ≡ false
  pub few : incarnation_in p.members.nodes n ≤ most_incarnations
  pub begins : node_state begun ≡ first_node p.shape n (incarnation_in p.members.nodes n)

-- the token server of the file works and may be declared failed
pub record IsFailure (p : WorldParts) (file : ℕ) (r : Result (WorldState × Entry) Refused) : Type 0 where
  pub number : is_within p.shape.files file ≡ true
  pub works : works_at p file ≡ true
  pub gives : r ≡ fail_rule (world_state p) file

-- the token server of the file may start again, in this state, with these messages in which it asks the nodes for their tokens
pub record IsStart (p : WorldParts) (file : ℕ) (begun : ServerParts) (sends : List Message) : Type 0 where
  pub number : is_within p.shape.files file ≡ true
  pub failed : works_at p file ≡ false
  pub few : incarnation_in p.members.servers file ≤ most_incarnations
  pub begins : server_state begun ≡ next_server (world_state p) file
  pub asks : sends ≡ outstanding (next_server (world_state p) file)

-- the change is planned for the event, and r is what it makes
abbrev pub Makes : WorldParts → Event → WorldChange → Result (WorldState × Entry) Refused → Type 0
Makes p event (OfNode n incarnation change) r = IsNodeChange p event n incarnation change r
Makes p event (OfServer file change) r = IsServerChange p event file change r
Makes p event (Declared n) r = IsDeclaration p n r
Makes p event (Restarted n begun) r = IsRestart p n begun.value × (r ≡ restart_rule (world_state p) n)
Makes p event (Failed file) r = IsFailure p file r
Makes p event (Started file begun sends) r = IsStart p file begun.value sends × (r ≡ start_rule (world_state p) file)

-- the change is what the event makes in the world
pub record Plans (p : WorldParts) (event : Event) (change : WorldChange) : Type 0 where
  pub room : p.length < journal_limit
  pub made : Makes p event change (next (world_state p) event)

-- the fingerprint of a message: 32 bits of its hash
abbrev pub fingerprint : Message → ℕ
fingerprint m = finish (fold write initial (hashed.ghosts.hash_input m)) % 4294967296

-- from a fingerprint to the place of a message in the order of sending
abbrev pub Places : Type 0
Places = HashMap ℕ ℕ (BuildHasherDefault FoldHasher)

-- the places of messages with a fingerprint that another message has
abbrev pub Others : Type 0
Others = List ℕ

abbrev pub is_this : Message → Option Message → Bool
is_this m None = false
is_this m (Some other) = same_message m other

-- the message at that place is equal to this one
abbrev pub stands_at : List Message → Message → Option ℕ → Bool
stands_at sent m None = false
stands_at sent m (Some k) = is_this m (slice_get sent k)

-- the message at one of these places is equal to this one
abbrev pub stands_among : List Message → Message → Others → Bool
stands_among sent m others = list_any (λ k. stands_at sent m (Some k)) others

-- the index has the message: at the place for its fingerprint, or among the others
abbrev pub has : Places → Others → List Message → Message → Bool
has places others sent m = stands_at sent m (get nat_eq places (fingerprint m)) || stands_among sent m others

-- the index has exactly the first n messages
pub record KnowsFirst (places : Places) (others : Others) (sent : List Message) (n : ℕ) : Type 0 where
  pub finds : (m : Message) → has places others sent m ≡ is_among (take n sent) m
  pub before : (f k : ℕ) → get nat_eq places f ≡ Some k → k < n
  pub others_before : All (λ k. k < n) others

-- the index has exactly these messages
abbrev pub Knows : Places → Others → List Message → Type 0
Knows places others sent = KnowsFirst places others sent (length sent)

-- the index has the same places and the same others as the old one
pub record SaysTheSame (old_places : Places) (old_others : Others) (places : Places) (others : Others) : Type 0 where
  pub at_places : (f : ℕ) → get nat_eq places f ≡ get nat_eq old_places f
  pub of_others : others ≡ old_others
