-- The members of a cluster: the actors of one kind, which of them are alive, and in which incarnation.
use Rattle.std.specs.Prelude.{◌≡◌, ℕ, ◌+◌, ◌==◌, if◌then◌else◌, List, [], ◌∷◌, Bool, true, false, not, ◌&&◌, nat_le, nat_lt, Option, Some, None, Result, Ok, Err, ◌≤◌, length}
use Rattle.messages.specs.rule.Messages.{is_within}
use Rattle.messages.specs.declared.refusal.Refused.{Refused}
use Rattle.messages.specs.declared.refusal.Refused.TheVariants.{Stranger, NotAlive, NotDead, TooManyRestarts}

-- the value at number n: f of the item there, where the list has the items from number `from` on, and `rest` n where it has none
unfoldable pub numbered : {A B : Type 0} → (A → B) → (ℕ → B) → ℕ → List A → ℕ → B
numbered f rest from [] n = rest n
numbered f rest from (x ∷ xs) n = if n == from then f x else numbered f rest (from + 1) xs n

-- the list's values are the ones of `rest`
abbrev pub IsRest : {A B : Type 0} → (A → B) → (ℕ → B) → List A → Type 0
IsRest f rest xs = (n : ℕ) → numbered f rest 1 xs n ≡ rest n

-- the greatest number of incarnations of a node
abbrev pub most_incarnations : ℕ
most_incarnations = 65535

-- the number of nodes, which of them are alive, and the incarnation of each that is live, or that begins when it restarts
pub record MembersState : Type 0 where
  pub nodes : ℕ
  pub alive : ℕ → Bool
  pub incarnation : ℕ → ℕ

-- each node is alive in its first incarnation
abbrev pub first_members : ℕ → MembersState
first_members nodes = record { nodes = nodes; alive = λ n. true; incarnation = λ n. 1 }

-- whether the cluster has a node with number n
abbrev pub is_member : MembersState → ℕ → Bool
is_member s n = is_within s.nodes n

-- the incarnation of node n, if it is alive
abbrev pub live_incarnation : MembersState → ℕ → Option ℕ
live_incarnation s n = if is_member s n && s.alive n then Some (s.incarnation n) else None

-- whether this incarnation of node n was declared failed
abbrev pub was_declared : MembersState → ℕ → ℕ → Bool
was_declared s n incarnation = is_member s n && (nat_le 1 incarnation && nat_lt incarnation (s.incarnation n))

-- the members after node n fails: it is in its next incarnation, and isn't alive until it restarts
abbrev pub with_declared : MembersState → ℕ → MembersState
with_declared s n = record s { alive = λ m. if m == n then false else s.alive m; incarnation = λ m. if m == n then s.incarnation n + 1 else s.incarnation m }

-- the members after node n restarts: it is alive
abbrev pub with_restarted : MembersState → ℕ → MembersState
with_restarted s n = record s { alive = λ m. if m == n then true else s.alive m }

-- node n, which has to be alive, is declared failed; with the incarnation that was
abbrev pub declared_failed : MembersState → ℕ → Result (MembersState × ℕ) Refused
declared_failed s n =
    if not (is_member s n) then Err Stranger
    else (if s.alive n then Ok (with_declared s n, s.incarnation n) else Err NotAlive)

-- node n, which has to be declared failed, restarts unless it had its last incarnation; with the incarnation in which it begins
abbrev pub restarted : MembersState → ℕ → Result (MembersState × ℕ) Refused
restarted s n =
    if not (is_member s n) then Err Stranger
    else (if s.alive n then Err NotDead
    else (if nat_le (s.incarnation n) most_incarnations then Ok (with_restarted s n, s.incarnation n) else Err TooManyRestarts))

-- whether an actor is alive, and the last incarnation that it began
pub record MemberParts : Type 0 where
  pub alive : Bool
  pub last : ℕ

pub record IsMember (m : MemberParts) : Type 0 where
  pub begun : 1 ≤ m.last
  pub few : m.last ≤ most_incarnations

-- the incarnation of an actor that is live, or that begins when it restarts
abbrev pub incarnation_of : Bool → ℕ → ℕ
incarnation_of true last = last
incarnation_of false last = last + 1

abbrev pub alive_in : List MemberParts → ℕ → Bool
alive_in ms = numbered (λ m. m.alive) (λ n. true) 1 ms

abbrev pub incarnation_in : List MemberParts → ℕ → ℕ
incarnation_in ms = numbered (λ m. incarnation_of m.alive m.last) (λ n. 1) 1 ms

abbrev pub members_state : List MemberParts → MembersState
members_state ms = record { nodes = length ms; alive = alive_in ms; incarnation = incarnation_in ms }

-- the nodes and the token servers of a cluster; the incarnation of a server is its epoch
pub record MembersParts : Type 0 where
  pub nodes : List MemberParts
  pub servers : List MemberParts
