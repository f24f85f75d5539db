-- The readers of a token server.
use Rattle.std.specs.Prelude.{◌≡◌, ℕ, ◌<◌, ◌≤◌, Bool, false, List, [], length, IfSome, ◌+◌, true, cond, ◌∷◌, ◌++◌, filter, map, is_some, None}
use Rattle.std.proofs.Common.{refl, sym, subst, arith, ap, ◌∙◌, append-nil}
use Rattle.std.proofs.lemmas.List.Elements.{All-nil, filter-append}
use Rattle.intervals.specs.rule.Search.{some_passes}
use Rattle.model.specs.rule.Limits.{IsNumber}
use Rattle.messages.specs.rule.Shapes.{ShapeFields, IsEpoch, before_epoch}
use Rattle.token_server.specs.rule.Requests.{LineParts}
use Rattle.token_server.specs.rule.Actives.{ActiveParts}
use Rattle.token_server.specs.declared.known_nodes.known_node.KnownNode.{KnownNode}
use Rattle.token_server.specs.rule.Rows.{is_awaited}
use Rattle.token_server.specs.rule.State.{ServerState}
use Rattle.token_server.specs.rule.Obstacles.{obstacle, is_idle}
use Rattle.token_server.specs.rule.RowParts.{rows_of}
use Rattle.token_server.specs.rule.Parts.{server_state}
use Rattle.token_server.specs.code.Edits.{IsServer}
use Rattle.std.specs.List.{range_with_len}
use Rattle.std.proofs.lemmas.List.{map-id, map_push}
use Rattle.std.proofs.lemmas.List.FromFn.{map-range_with_len_more}
use Rattle.token_server.specs.declared.shown_row.ShownRow.{ShownRow}
use Rattle.token_server.specs.code.Rows.{nodes_where, IsRow}

-- a server that has no request holds all that a server has to
pub idle-server : (shape : ShapeFields) (file epoch : ℕ) (known_nodes : List KnownNode) (awaiting : Bool) (active : ActiveParts) (queue waiting : LineParts) → length known_nodes ≡ shape.nodes → IsNumber shape.files file → IsEpoch epoch → awaiting ≡ some_passes (λ n. is_awaited (rows_of known_nodes n)) 1 shape.nodes → ((n : ℕ) → IfSome (rows_of known_nodes n) (λ row. before_epoch epoch ≤ row.number)) → active ≡ record { held = []; room = 0 } → queue ≡ record { requests = []; room = 0 } → waiting ≡ record { requests = []; room = 0 } → IsServer (record { shape = shape; file = file; epoch = epoch; known_nodes = known_nodes; active = active; queue = queue; waiting = waiting }) awaiting
idle-server shape file epoch known_nodes awaiting active queue waiting many file_in epoch_in awaited counted no_active no_queue no_waiting =
    subst (λ (x : ActiveParts × LineParts × LineParts). IsServer (record { shape = shape; file = file; epoch = epoch; known_nodes = known_nodes; active = x.0; queue = x.1; waiting = x.2 }) awaiting)
    (λ i. (sym no_active i, sym no_queue i, sym no_waiting i))
    (record {
      each_node = many;
      file_in = file_in;
      epoch_in = epoch_in;
      awaited = awaited;
      ready = record {
        waits = All-nil (λ h. obstacle s h.request ≡ h.at);
        quiet = All-nil (λ h. is_idle (s.rows h.at) ≡ false);
        apart = refl;
        resting = λ is. refl;
        settled = λ is. refl;
        orderly = record { distinct = λ call. omega arith; living = All-nil (λ r. s.dead r.call.node < r.call.incarnation); counted = counted };
      };
    })
  where
    s : ServerState
    s = server_state (record { shape = shape; file = file; epoch = epoch; known_nodes = known_nodes; active = record { held = []; room = 0 }; queue = record { requests = []; room = 0 }; waiting = record { requests = []; room = 0 } })

counting_more : (n node : ℕ) → 1 + n ≡ node → range_with_len 1 (n + 1) ≡ range_with_len 1 n ++ node ∷ []
counting_more n node e = sym (map-id (range_with_len 1 (n + 1))) ∙ map-range_with_len_more (λ k. k) 1 n node e ∙ ap (λ l. l ++ node ∷ []) (map-id (range_with_len 1 n))

-- one node more comes last among those that pass, if it passes
pub nodes_where-more : (passes : ℕ → Bool) (n node : ℕ) → 1 + n ≡ node → nodes_where passes (n + 1) ≡ nodes_where passes n ++ cond (passes node) (node ∷ []) []
nodes_where-more passes n node e = ap (filter passes) (counting_more n node e) ∙ filter-append passes (range_with_len 1 n) (node ∷ [])

pub nodes_where-passing : (passes : ℕ → Bool) (n node : ℕ) → 1 + n ≡ node → passes node ≡ true → nodes_where passes (n + 1) ≡ nodes_where passes n ++ node ∷ []
nodes_where-passing passes n node e there = nodes_where-more passes n node e ∙ ap (λ b. nodes_where passes n ++ cond b (node ∷ []) []) there

pub nodes_where-missing : (passes : ℕ → Bool) (n node : ℕ) → 1 + n ≡ node → passes node ≡ false → nodes_where passes (n + 1) ≡ nodes_where passes n
nodes_where-missing passes n node e gone = nodes_where-more passes n node e ∙ ap (λ b. nodes_where passes n ++ cond b (node ∷ []) []) gone ∙ append-nil (nodes_where passes n)

-- one more row that is shown comes last
pub shown-more : (s : ServerState) (n node : ℕ) (rows : List ShownRow) (r : ShownRow) → 1 + n ≡ node → IsRow s r × (r.node ≡ node) → map (λ q. q.node) rows ≡ nodes_where (λ k. is_some (s.rows k)) n → map (λ q. q.node) (rows ++ r ∷ []) ≡ nodes_where (λ k. is_some (s.rows k)) (n + 1)
shown-more s n node rows r e is so_far =
    let passes : ℕ → Bool = λ k. is_some (s.rows k) in
    let there : passes node ≡ true = ap is_some (ap s.rows (sym is.1) ∙ is.0.there) in
    map_push (λ (q : ShownRow). q.node) rows r
    ∙ ap (λ (ns : List ℕ). ns ++ r.node ∷ []) so_far
    ∙ ap (λ (k : ℕ). nodes_where passes n ++ k ∷ []) is.1
    ∙ sym (nodes_where-passing passes n node e there)

-- a node without a row is not shown
pub shown-same : (s : ServerState) (n node : ℕ) (rows : List ShownRow) → 1 + n ≡ node → s.rows node ≡ None → map (λ q. q.node) rows ≡ nodes_where (λ k. is_some (s.rows k)) n → map (λ q. q.node) rows ≡ nodes_where (λ k. is_some (s.rows k)) (n + 1)
shown-same s n node rows e none so_far = so_far ∙ sym (nodes_where-missing (λ k. is_some (s.rows k)) n node e (ap is_some none))
