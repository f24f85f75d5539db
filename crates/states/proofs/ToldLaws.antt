-- Of what is told: lists by rising numbers, nodes that are alive or not, servers by their files.
use Rattle.std.specs.Prelude.{◌≡◌, ℕ, ◌+◌, ◌-◌, Bool, true, ◌&&◌, if◌then◌else◌, List, [], ◌∷◌, ◌++◌, map, All, Some, None}
use Rattle.std.proofs.Common.{sym, ap, subst, ◌∙◌}
use Rattle.std.proofs.lemmas.List.{map_push}
use Rattle.std.proofs.lemmas.List.Elements.{All-weaker}
use Rattle.node_core.specs.rule.State.{NodeState}
use Rattle.token_server.specs.rule.State.{ServerState}
use Rattle.token_server.specs.code.Rows.{nodes_where, IsRow}
use Rattle.token_server.specs.declared.shown_row.ShownRow.{ShownRow}
use Rattle.token_server.proofs.ReaderLaws.{nodes_where-passing}
use Rattle.cluster_core.specs.rule.World.{WorldState, is_alive}
use Rattle.cluster_core.specs.rule.Actors.{HasNode}
use Rattle.states.specs.declared.cluster_state.ToldNode.{ToldNode}
use Rattle.states.specs.declared.cluster_state.ToldServer.{ToldServer}
use Rattle.states.specs.rule.States.{IsShown, IsToldNode, IsToldServer}

-- one element more comes last, if its number is the next one and passes
pub numbers-more : {A : Type 0} (number : A → ℕ) (passes : ℕ → Bool) (n k : ℕ) (xs : List A) (x : A) → 1 + n ≡ k → passes k ≡ true → number x ≡ k → map number xs ≡ nodes_where passes n → map number (xs ++ x ∷ []) ≡ nodes_where passes (n + 1)
numbers-more number passes n k xs x e there is so_far =
    map_push number xs x
    ∙ ap (λ (ns : List ℕ). ns ++ number x ∷ []) so_far
    ∙ ap (λ (m : ℕ). nodes_where passes n ++ m ∷ []) is
    ∙ sym (nodes_where-passing passes n k e there)

-- one value more comes last, if its number passes
pub values-more : {A : Type 0} (value : ℕ → A) (passes : ℕ → Bool) (n k : ℕ) (xs : List A) → 1 + n ≡ k → passes k ≡ true → xs ≡ map value (nodes_where passes n) → xs ++ value k ∷ [] ≡ map value (nodes_where passes (n + 1))
values-more value passes n k xs e there so_far =
    ap (λ l. l ++ value k ∷ []) so_far
    ∙ sym (map_push value (nodes_where passes n) k)
    ∙ ap (map value) (sym (nodes_where-passing passes n k e there))

-- a node that is alive is told of with its incarnation and its open calls
pub node-alive : (w : WorldState) (t : ToldNode) (s : NodeState) → HasNode w t.node s → t.live ≡ Some s.incarnation → t.dead ≡ (w.nodes t.node).incarnation - 1 → t.calls.items ≡ s.pending → IsToldNode w t
node-alive w t s has live dead calls =
    let there : is_alive w t.node ≡ true = subst (λ b. (b && w.alive t.node) ≡ true) (sym has.number) has.alive in
    record {
      live = live ∙ ap (λ (q : NodeState). Some q.incarnation) (sym has.state) ∙ ap (λ b. if b then Some (w.nodes t.node).incarnation else None) (sym there);
      dead = dead;
      calls = calls ∙ ap (λ (q : NodeState). q.pending) (sym has.state) ∙ ap (λ b. if b then (w.nodes t.node).pending else []) (sym there);
    }

-- what is told of a server in this state is told of the server of its file
pub server-at : (w : WorldState) (s : ServerState) (t : ToldServer) (file : ℕ) → s ≡ w.servers file → t.file ≡ file → IsToldServer s t → IsToldServer (w.servers t.file) t
server-at w s t file e is told = subst (λ q. IsToldServer q t) (e ∙ ap w.servers (sym is)) told

-- a row of the server, as its reader gives it, is shown as it is
row-shown : (s : ServerState) (shown : ShownRow) → IsRow s shown → IsShown s shown
row-shown s shown is = record {
  row = is.row;
  there = is.there;
  incarnation = is.shows.incarnation;
  token = record { each = is.shows.token.each; complete = λ r run. is.shows.token.complete r.0 r.1 run; rises = is.shows.token.rises };
  number = is.shows.number;
  command = is.shows.command;
}

-- so are all rows
pub rows-shown : (s : ServerState) (rows : List ShownRow) → All (IsRow s) rows → All (IsShown s) rows
rows-shown s rows all = All-weaker (IsRow s) (IsShown s) (row-shown s) rows all
