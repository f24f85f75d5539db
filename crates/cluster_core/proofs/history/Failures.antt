-- The union after a node was declared failed is the union before it with all processes of the node exited.
use Rattle.std.specs.Prelude.{◌==◌, ◌&&◌}
use Rattle.std.proofs.Common.{◌≡◌, ℕ, ◌+◌, Bool, true, false, if◌then◌else◌, refl, sym, ◌∙◌, ap, subst, Option}
use Rattle.intervals.specs.rule.Bytes.{nothing}
use Rattle.model.specs.declared.mode.Mode.{Mode}
use Rattle.model.specs.rule.Descriptors.{Processes, no_processes}
use Rattle.model.specs.rule.Table.{gone}
use Rattle.node_core.specs.rule.State.{NodeState, first_node}
use Rattle.cluster_core.specs.rule.World.{WorldState, has_node}
use Rattle.cluster_core.specs.rule.Next.{declared}
use Rattle.messages.specs.rule.Shapes.{most_regions}
use Rattle.cluster_core.specs.rule.Union.{union}
use Rattle.cluster_core.proofs.common.Choices.{at_number}
use Rattle.cluster_core.proofs.history.Unions.{live_at}
use Rattle.cluster_core.proofs.history.Lifting.{union_locks-host}
use Rattle.model.specs.rule.Anchors.{IsAnchored, AreAnchored}
use Rattle.model.proofs.Anchors.{without_host, gone_is}

-- a part that is empty everywhere now was that of the failed incarnation alone
gone_part : {A : Type 0} (c h d e : Bool) (x none : A) → d ≡ e → (if c then none else none) ≡ (if e then none else (if h && d then x else none))
gone_part true h d true x none s = refl
gone_part false h d true x none s = refl
gone_part true true true false x none s = absurd (cc)
gone_part false true true false x none s = absurd (cc)
gone_part true true false false x none s = refl
gone_part false true false false x none s = refl
gone_part true false d false x none s = refl
gone_part false false d false x none s = refl

module _ (w : WorldState) (n : ℕ) where
  abbrev i : ℕ
  i = (w.nodes n).incarnation

  abbrev fresh : NodeState
  fresh = first_node w.shape n (i + 1)

  same_test : (m k : ℕ) → m ≡ n → (k == (w.nodes m).incarnation) ≡ (k == i)
  same_test m k same = ap (λ (j : ℕ). k == (w.nodes j).incarnation) same

  part : {A : Type 0} (F : NodeState → A) (none : A) (m k : ℕ) → F fresh ≡ none → (if has_node w m && (k == (if m == n then fresh else w.nodes m).incarnation) then F (if m == n then fresh else w.nodes m) else none) ≡ (if (m == n) && (k == i) then none else (if has_node w m && (k == (w.nodes m).incarnation) then F (w.nodes m) else none))
  part {A} F none m k empty = at_number m n (λ b. ◌≡◌ {A = A} (if has_node w m && (k == (if b then fresh else w.nodes m).incarnation) then F (if b then fresh else w.nodes m) else none) (if b && (k == i) then none else (if has_node w m && (k == (w.nodes m).incarnation) then F (w.nodes m) else none)))
      (λ same.
      ap (λ (x : A). if has_node w m && (k == (i + 1)) then x else none) empty
      ∙ gone_part (has_node w m && (k == (i + 1))) (has_node w m) (k == (w.nodes m).incarnation) (k == i) (F (w.nodes m)) none (same_test m k same))
      (λ other. refl)

  pub union_without : union (declared w n) ≡ without_host (union w) n i
  union_without = λ j. record {
    limit = most_regions w.shape.version;
    on = λ m k. part (λ s. s.table.on m k) no_processes m k refl j;
    locks = λ file o. part (λ s. s.table.locks file o) nothing o.node o.incarnation refl j;
  }

  -- a lock that hangs on descriptors in the node's own table does so in the union
  pub union_anchored : has_node w n ≡ true → IsAnchored (w.nodes n).table n i → IsAnchored (union w) n i
  union_anchored there a =
      let here : (union w).on n i ≡ (w.nodes n).table.on n i = rw (live_at w n n i there refl refl) refl in
      subst (λ (ps : Processes). AreAnchored ps (union w).locks n i) (sym here) (record {
        numbers = a.numbers;
        descriptors = a.descriptors;
        agree = a.agree;
        locks = λ file owner b mode node incarnation held.
            a.locks file owner b mode node incarnation (ap (λ (f : ℕ → Option Mode). f b) (sym (union_locks-host w n file owner there node incarnation)) ∙ held);
      })

  pub union_gone : has_node w n ≡ true → IsAnchored (w.nodes n).table n i → union (declared w n) ≡ gone (union w) n i
  union_gone there a = union_without ∙ sym (gone_is (union w) n i (union_anchored there a))
