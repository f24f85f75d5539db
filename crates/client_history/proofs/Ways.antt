-- A call that is taken on a way.
use Rattle.std.proofs.Common.{◌≡◌, ℕ, ◌+◌, ◌<◌, ◌⊎◌, inl, inr, ⊎_elim, true, List, [], ◌∷◌, ◌++◌, length, slice_get, Some, refl, sym, subst, append_assoc, arith}
use Rattle.std.proofs.lemmas.Option.{slice_get_within}
use Rattle.model.specs.rule.Locks.{Locks, no_locks}
use Rattle.client_history.specs.declared.act.Act.{Act}
use Rattle.client_history.specs.declared.act.Act.TheVariants.{Locks as Takes, IsDenied, IsFree as FindsFree, Frees, Drops}
use Rattle.client_history.specs.declared.client_call.ClientCall.{ClientCall}
use Rattle.client_history.specs.rule.Explained.{Stands, IsExplainedBy}
use Rattle.client_history.specs.code.Moves.{AsksOnly}
use Rattle.client_history.specs.code.OpenCalls.{Calls, Changes, ComesFirst}
use Rattle.client_history.specs.code.Search.{AreSound, IsWay}
use Rattle.client_history.proofs.Exchange.{get_left, get_right}
use Rattle.client_history.proofs.Places.{stands_left, stands_right, stands_split, stands_apart, stands_first, stands_alone}
use Rattle.client_history.proofs.Steps.{leads_join}

-- no act both only asks and changes locks
pub asks_or_changes : (a : Act) → AsksOnly a → Changes a → ⊥
asks_or_changes (Takes mode span) asks changes = asks
asks_or_changes (IsDenied mode span told) asks changes = changes
asks_or_changes (FindsFree mode span) asks changes = changes
asks_or_changes (Frees span) asks changes = asks
asks_or_changes Drops asks changes = asks

-- an exit changes locks
pub exit_changes : (calls : List ClientCall) → AreSound calls → (e : ℕ) (last : ClientCall) → slice_get calls e ≡ Some last → last.is_last ≡ true → Changes last.act
exit_changes calls sound e last there is_last = subst (λ (a : Act). Changes a) (sym ((sound e last there).drop is_last)) tt

module _ (calls : List ClientCall) (over : List ℕ) (time : ℕ) (taken : List ℕ) (h : Locks) (way rest : List ℕ) (is : IsWay calls over time taken h way rest) where
  -- no call that is over is left
  pub over_is_past : (i : ℕ) → Stands over i → Stands rest i → ⊥
  over_is_past i is_over left = stands_apart way rest is.explains.once i (is.ended i is_over) left

  -- no call of an owner whose exit stands on the way is left
  pub none_past_exit : (e i : ℕ) (last call : ClientCall) → Stands way e → slice_get calls e ≡ Some last → last.is_last ≡ true → Stands rest i → slice_get calls i ≡ Some call → call.owner ≡ last.owner → ⊥
  none_past_exit e i last call s there is_last left there_i own =
      let lt = slice_get_within way s.0 e s.1 in
      let before : s.0 < length way + left.0 = omega arith in
      is.explains.last s.0 (length way + left.0) last call before
      (record { index = e; at = get_left way rest s.0 e s.1; there = there })
      (record { index = i; at = get_right way rest (length way + left.0) left.0 i refl left.1; there = there_i })
      is_last own

  -- an exit that was taken stands on the way
  pub exit_in_way : AreSound calls → (e : ℕ) (last : ClientCall) → slice_get calls e ≡ Some last → last.is_last ≡ true → Stands taken e → Stands way e
  exit_in_way sound e last there is_last s = is.changed e last s there (exit_changes calls sound e last there is_last)

  module _ (Left : Calls) (Set : ℕ → Type 0) (f : ComesFirst calls way rest time h Left Set) (there : slice_get calls f.index ≡ Some f.call) (more : List ℕ) where
    abbrev longer : List ℕ
    longer = way ++ (f.index ∷ [])

    -- a call that comes first leads the way on
    pub way_taken : ((i : ℕ) → Stands more i → (i ≡ f.index) ⊎ Stands taken i) → ((i : ℕ) → Stands taken i → Stands more i) → Stands more f.index → IsWay calls over time more f.next longer f.behind
    way_taken added kept new = record {
      explains = subst (λ (xs : List ℕ). IsExplainedBy time calls xs) (sym (append_assoc way (f.index ∷ []) f.behind)) f.explains;
      leads = leads_join calls no_locks h f.next way (f.index ∷ []) is.leads (f.call, f.next, there, f.step, refl);
      ended = λ i s. stands_left way (f.index ∷ []) i (is.ended i s);
      noted = λ i call s at. ⊎_elim
          (λ old. ⊎_elim (λ was. inl (kept i was)) (λ past. inr past) (is.noted i call old at))
          (λ last. inl (subst (λ (j : ℕ). Stands more j) (sym (stands_alone f.index i last)) new))
          (stands_split way (f.index ∷ []) i s);
      fresh = λ i left s. ⊎_elim
          (λ same. again (subst (λ (j : ℕ). Stands f.behind j) same left))
          (λ was. is.fresh i (f.kept i left) was)
          (added i s);
      changed = λ i call s at changes. ⊎_elim
          (λ same. subst (λ (j : ℕ). Stands longer j) (sym same) (stands_right way (f.index ∷ []) f.index (stands_first f.index [])))
          (λ was. stands_left way (f.index ∷ []) i (is.changed i call was at changes))
          (added i s);
    }
      where
        again : Stands f.behind f.index → ⊥
        again left = stands_apart longer f.behind
            (subst (λ (xs : List ℕ). IsExplainedBy time calls xs) (sym (append_assoc way (f.index ∷ []) f.behind)) f.explains).once
            f.index (stands_right way (f.index ∷ []) f.index (stands_first f.index [])) left
