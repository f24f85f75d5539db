-- The agenda of a round about a file: what its server learns, its resend, and the retries of open calls; then each message about the file that is sent. Older messages, which were under way before, may come too.
use Rattle.std.specs.Prelude.{◌≡◌, ℕ, zero, suc, ◌-◌, ◌==◌, ◌&&◌, not, nat_le, if◌then◌else◌, Bool, List, [], ◌∷◌, ◌++◌, filter, map, All, true, Ok}
use Rattle.messages.specs.rule.Messages.{addressee, file_of, is_among}
use Rattle.messages.specs.declared.message.Message.{Message}
use Rattle.messages.specs.declared.event.Event.{Event}
use Rattle.messages.specs.declared.event.Event.TheVariants.{AtNode, AtServer, Deliver}
use Rattle.messages.specs.declared.event.NodeInput.TheVariants.{Retry}
use Rattle.messages.specs.declared.event.ServerInput.TheVariants.{Resend, Learn}
use Rattle.messages.specs.declared.entry.Entry.{Entry}
use Rattle.node_core.specs.declared.open_call.OpenCall.{OpenCall}
use Rattle.node_core.specs.rule.State.{NodeState}
use Rattle.cluster_core.specs.rule.World.{WorldState}
use Rattle.cluster_core.specs.rule.Next.{is_stopped, next}

-- what the server learns of the n-th node, if the node was declared failed before
abbrev pub learns_of : ℕ → ℕ → ℕ → List Event
learns_of file n incarnation = if nat_le 2 incarnation then AtServer file (Learn n (incarnation - 1)) ∷ [] else []

abbrev pub learns_up_to : ℕ → (ℕ → NodeState) → ℕ → List Event
learns_up_to file nodes zero = []
learns_up_to file nodes (suc n) = learns_up_to file nodes n ++ learns_of file (suc n) (nodes (suc n)).incarnation

-- the retries of the calls about the file
abbrev pub retries_in : ℕ → ℕ → List OpenCall → List Event
retries_in file n [] = []
retries_in file n (c ∷ cs) = if c.file == file then AtNode n (Retry c.pid) ∷ retries_in file n cs else retries_in file n cs

abbrev pub retries_of : ℕ → WorldState → ℕ → List Event
retries_of file w n = if w.alive n then retries_in file n (w.nodes n).pending else []

abbrev pub retries_up_to : ℕ → WorldState → ℕ → List Event
retries_up_to file w zero = []
retries_up_to file w (suc n) = retries_up_to file w n ++ retries_of file w (suc n)

-- the agenda at first
abbrev pub agenda : ℕ → WorldState → List Event
agenda file w = learns_up_to file w.nodes w.shape.nodes ++ AtServer file Resend ∷ retries_up_to file w w.shape.nodes

-- the message is about the file, and its addressee is not stopped
abbrev pub is_due : ℕ → WorldState → Message → Bool
is_due file w m = (file_of m == file) && not (is_stopped w (addressee m))

-- the deliveries of those of the messages that are due
abbrev pub deliveries : ℕ → WorldState → List Message → List Event
deliveries file w ms = map Deliver (filter (is_due file w) ms)

-- the agenda where also these older messages come, which were sent before
abbrev pub agenda_with : ℕ → WorldState → List Message → List Event
agenda_with file w older = agenda file w ++ deliveries file w older

-- each of these messages was sent before
abbrev pub AreOlder : WorldState → List Message → Type 0
AreOlder w older = All (λ m. is_among w.sent m ≡ true) older

-- Each entry is of an event on the agenda, which it takes off, in any order, and puts the deliveries of what it sends on it. So nothing fails and nobody calls; what is left is still to happen
abbrev pub WorksOff : ℕ → WorldState → List Event → List Entry → WorldState → List Event → Type 0
WorksOff file w events [] v left = (w ≡ v) × (events ≡ left)
WorksOff file w events (e ∷ es) v left =
    (front rest : List Event) × (mid : WorldState)
    × (events ≡ front ++ e.event ∷ rest)
    × (next w e.event ≡ Ok (mid, e))
    × WorksOff file mid ((front ++ rest) ++ deliveries file w e.sends) es v left
