-- The tokens of a cluster, file by file and node by node.
use Rattle.std.specs.Prelude.{◌≡◌, ℕ, ◌+◌, ◌≤◌, true, ◌==◌, nat_le, List, [], ◌++◌, map}
use Rattle.std.proofs.Common.{refl, sym, ap, ◌∙◌, subst, inl, inr, arith}
use Rattle.std.proofs.lemmas.Bool.{and_parts, and_from, eqb-true, le-leb}
use Rattle.std.proofs.lemmas.List.Elements.{All-weaker}
use Rattle.intervals.specs.rule.Bytes.{Range, IsRun}
use Rattle.model.specs.declared.level.Level.{Level}
use Rattle.messages.specs.rule.Messages.{is_within}
use Rattle.token_set.specs.code.Sets.{ListsRuns}
use Rattle.node_core.specs.rule.State.{NodeState}
use Rattle.cluster_core.specs.declared.node_token_run.NodeTokenRun.{NodeTokenRun}
use Rattle.cluster_core.specs.rule.World.{WorldState, has_node, has_file}
use Rattle.cluster_core.specs.rule.Listings.{Lists, Adds, IsTokenRun, IsTokenBefore, IsTokenOf, IsTokenOfFile, IsTokenListing, token_run}
use Rattle.cluster_core.proofs.common.Numbered.{within_is}
use Rattle.cluster_core.proofs.history.Unions.{live_at}
use Rattle.cluster_core.proofs.common.Lists.{lists_map, adds_all, IsUpTo, adds_first, adds_next, adds_last}

-- a number from 1 to the greatest is within it
pub is_number : (most n : ℕ) → 1 ≤ n → n ≤ most → is_within most n ≡ true
is_number most n least below = and_from (nat_le 1 n) (nat_le n most) (le-leb 1 n least) (le-leb n most below)

pub live_node : (w : WorldState) (t : NodeTokenRun) → IsTokenRun w t → (1 ≤ t.node) × (t.node ≤ w.shape.nodes)
live_node w t is = within_is w.shape.nodes t.node (and_parts (has_node w t.node) (t.incarnation == (w.nodes t.node).incarnation) is.live).0

-- the runs of a node's token for a file
module _ (w : WorldState) (node file incarnation : ℕ) (runs : List (Range × Level)) (there : has_node w node ≡ true) (within : has_file w file ≡ true) (now : incarnation ≡ (w.nodes node).incarnation) (l : ListsRuns ((w.nodes node).files file).token runs) where
  run_of : (r : Range × Level) → IsRun ((w.nodes node).files file).token r.0 r.1 → IsTokenOfFile w node file (token_run node incarnation file r)
  run_of r run = ((record { live = live_at w node node incarnation there refl now; file_in = within; run = run }, refl), refl)

  run_in : (t : NodeTokenRun) → IsTokenOfFile w node file t → IsRun ((w.nodes node).files file).token t.span t.level
  run_in t is =
      subst (λ (f : ℕ). IsRun ((w.nodes node).files f).token t.span t.level) is.1
      (subst (λ (n : ℕ). IsRun ((w.nodes n).files t.file).token t.span t.level) is.0.1 is.0.0.run)

  run_is : (t : NodeTokenRun) → IsTokenOfFile w node file t → token_run node incarnation file (t.span, t.level) ≡ t
  run_is t is =
      let live = (and_parts (has_node w t.node) (t.incarnation == (w.nodes t.node).incarnation) is.0.0.live).1 in
      let same : incarnation ≡ t.incarnation = now ∙ (ap (λ (n : ℕ). (w.nodes n).incarnation) (sym is.0.1) ∙ sym (eqb-true t.incarnation (w.nodes t.node).incarnation live)) in
      let nodes = sym is.0.1 in
      let files = sym is.1 in
      λ i. record { node = nodes i; incarnation = same i; file = files i; span = t.span; level = t.level }

  pub file_tokens : Lists (IsTokenOfFile w node file) IsTokenBefore (map (token_run node incarnation file) runs)
  file_tokens = lists_map (IsTokenOfFile w node file) IsTokenBefore (token_run node incarnation file) (λ t. (t.span, t.level)) runs
      (All-weaker (λ (r : Range × Level). IsRun ((w.nodes node).files file).token r.0 r.1) (λ r. IsTokenOfFile w node file (token_run node incarnation file r)) run_of runs l.each)
      (λ t is. (l.complete t.span t.level (run_in t is), run_is t is))
      (λ i j d lt inside. inr (refl, inr (refl, l.rises i j d lt inside)))

-- the runs of a node's token for a file are appended to a list
pub adds_file : (w : WorldState) (node file incarnation : ℕ) (s : NodeState) (runs : List (Range × Level)) (old new : List NodeTokenRun) → has_node w node ≡ true → has_file w file ≡ true → s ≡ w.nodes node → incarnation ≡ s.incarnation → ListsRuns (s.files file).token runs → new ≡ old ++ map (token_run node incarnation file) runs → Adds (IsTokenOfFile w node file) IsTokenBefore old new
adds_file w node file incarnation s runs old new there within is now l made =
    let here : incarnation ≡ (w.nodes node).incarnation = now ∙ ap (λ (x : NodeState). x.incarnation) is in
    let lists = subst (λ (x : NodeState). ListsRuns (x.files file).token runs) is l in
    (map (token_run node incarnation file) runs, made, file_tokens w node file incarnation runs there within here lists)

-- a run of the first files of a node
abbrev pub IsOfFirstFiles : WorldState → ℕ → ℕ → NodeTokenRun → Type 0
IsOfFirstFiles w node = IsUpTo (IsTokenOf w node) (λ (t : NodeTokenRun). t.file)

pub no_files : (w : WorldState) (node : ℕ) (old : List NodeTokenRun) → Adds (IsOfFirstFiles w node 0) IsTokenBefore old old
no_files w node old = adds_first (IsTokenOf w node) (λ (t : NodeTokenRun). t.file) IsTokenBefore old (λ t is. (within_is w.shape.files t.file is.0.file_in).0)

pub next_file : (w : WorldState) (node i : ℕ) (old mid new : List NodeTokenRun) → Adds (IsOfFirstFiles w node i) IsTokenBefore old mid → Adds (IsTokenOfFile w node (i + 1)) IsTokenBefore mid new → Adds (IsOfFirstFiles w node (i + 1)) IsTokenBefore old new
next_file w node i old mid new = adds_next (IsTokenOf w node) (λ (t : NodeTokenRun). t.file) IsTokenBefore i old mid new (λ t s is next lt. inr (is.1 ∙ sym next.1, inl lt))

pub all_files : (w : WorldState) (node i : ℕ) (old new : List NodeTokenRun) → w.shape.files ≤ i → Adds (IsOfFirstFiles w node i) IsTokenBefore old new → Adds (IsTokenOf w node) IsTokenBefore old new
all_files w node i old new past = adds_last (IsTokenOf w node) (λ (t : NodeTokenRun). t.file) IsTokenBefore i old new (λ t is. let most = (within_is w.shape.files t.file is.0.file_in).1 in omega arith)

-- a run of the first nodes
abbrev pub IsOfFirstNodes : WorldState → ℕ → NodeTokenRun → Type 0
IsOfFirstNodes w = IsUpTo (IsTokenRun w) (λ (t : NodeTokenRun). t.node)

pub no_nodes : (w : WorldState) (old : List NodeTokenRun) → Adds (IsOfFirstNodes w 0) IsTokenBefore old old
no_nodes w old = adds_first (IsTokenRun w) (λ (t : NodeTokenRun). t.node) IsTokenBefore old (λ t is. (live_node w t is).0)

pub next_node : (w : WorldState) (i : ℕ) (old mid new : List NodeTokenRun) → Adds (IsOfFirstNodes w i) IsTokenBefore old mid → Adds (IsTokenOf w (i + 1)) IsTokenBefore mid new → Adds (IsOfFirstNodes w (i + 1)) IsTokenBefore old new
next_node w i old mid new = adds_next (IsTokenRun w) (λ (t : NodeTokenRun). t.node) IsTokenBefore i old mid new (λ t s is next lt. inl lt)

pub all_nodes : (w : WorldState) (i : ℕ) (tokens : List NodeTokenRun) → w.shape.nodes ≤ i → Adds (IsOfFirstNodes w i) IsTokenBefore [] tokens → IsTokenListing w tokens
all_nodes w i tokens past adds =
    adds_all (IsTokenRun w) IsTokenBefore tokens
    (adds_last (IsTokenRun w) (λ (t : NodeTokenRun). t.node) IsTokenBefore i [] tokens (λ t is. let most = (live_node w t is).1 in omega arith) adds)
