-- No lock of another node blocks what a node answers or holds under its token.
use Rattle.std.proofs.Common.{◌≡◌, ℕ, true, sym, ◌∙◌, subst, Some}
use Rattle.model.specs.declared.op.Op.{Op}
use Rattle.model.specs.declared.reply.Reply.{Reply}
use Rattle.node_core.specs.rule.State.{NodeState, process}
use Rattle.cluster_core.specs.rule.World.{WorldState, has_node}
use Rattle.cluster_core.specs.rule.Safe.{Excludes, AreApart, AreCovered, IsSafe}
use Rattle.cluster_core.proofs.tokens.Covering.{IsCovered, unbarred_byte, unbarred_apart}
use Rattle.cluster_core.proofs.steps.Tries.{IsServed}
use Rattle.cluster_core.proofs.history.Lifting.{IsFreeElsewhere}

-- where tokens are apart and locks are covered, two nodes share each byte that both lock
pub safe_of : (w : WorldState) → AreApart w → AreCovered w → IsSafe w
safe_of w apart covered = record {
  apart = apart;
  covered = covered;
  agree = λ m n file o p b one other m_in n_in differ held also.
      let mine = ((w.nodes m).files file).token in
      let its = ((w.nodes n).files file).token in
      unbarred_byte (its b) (mine b) other (Some one) (apart n m file n_in m_in (λ same. differ (sym same)) b) (apart m n file m_in n_in differ b) (covered n file p b other n_in also) (λ mode is. covered m file o b mode m_in (held ∙ is));
}

-- after the step of a node the world is safe, and the other nodes are as they were
pub safe_free : (w later : WorldState) (n : ℕ) (u : NodeState) (pid : ℕ) (op : Op) (reply : Reply) → later.shape ≡ w.shape → later.nodes n ≡ u → ((m : ℕ) → (m ≡ n → ⊥) → later.nodes m ≡ w.nodes m) → IsSafe later → has_node later n ≡ true → IsServed (w.nodes n).table (process (w.nodes n) pid) op reply u → ((m : ℕ) → has_node w m ≡ true → has_node later m ≡ true) → IsFreeElsewhere w n pid op reply
safe_free w later n u pid op reply shape here others safe there served known mode c unhindered about m o b there_too other above below =
    let f = c.file in
    let mine = (u.files f).token in
    let its = ((w.nodes m).files f).token in
    let stays = others m other in
    let also = known m there_too in
    let P : NodeState → Type 0 = λ x. Excludes (x.files f).token its in
    let Q : NodeState → Type 0 = λ x. Excludes its (x.files f).token in
    let A : NodeState → Type 0 = λ x. Excludes ((later.nodes n).files f).token (x.files f).token in
    let B : NodeState → Type 0 = λ x. Excludes (x.files f).token ((later.nodes n).files f).token in
    let C : NodeState → Type 0 = λ x. IsCovered (x.files f).token (x.table.locks f) in
    let first = subst P here (subst A stays (safe.apart n m f there also (λ same. other (sym same)))) in
    let second = subst Q here (subst B stays (safe.apart m n f also there other)) in
    let covered = subst C stays (λ o b mode held. safe.covered m f o b mode also held) in
    unbarred_apart mine its ((w.nodes m).table.locks f) c.span mode first second covered (served mode c unhindered about) o b above below
