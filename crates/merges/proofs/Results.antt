-- What comes of a merge that began with nothing put.
use Rattle.std.proofs.Common.{◌≡◌, ℕ, ◌+◌, ◌<◌, sym, subst, ◌∙◌, ap, append-nil, arith, List, [], ◌∷◌, ◌++◌, length, map, Option}
use Rattle.messages.specs.rule.Shapes.{ShapeFields}
use Rattle.messages.specs.declared.actor.Actor.{Actor}
use Rattle.messages.specs.declared.entry.Entry.{Entry}
use Rattle.cluster_core.specs.rule.World.{WorldState, journal_limit}
use Rattle.merges.specs.declared.logged.LoggedEntry.{LoggedEntry}
use Rattle.merges.specs.declared.logged.LoggedChange.{LoggedChange}
use Rattle.merges.specs.rule.Merges.{Logs, IsMerge, AreMerged, NoneMerges, AllAreTooLong}
use Rattle.merges.specs.code.Merging.{Merging, begun, Comes, Leads, IsDone, MergesFrom, MergerFields, PutsOn, NoneFrom, TooLongFrom, merging_of}
use Rattle.merges.proofs.Worlds.{actor_of, patches}
use Rattle.merges.proofs.Swaps.{patched_shape}
use Rattle.merges.proofs.Alike.{step_of}
use Rattle.merges.proofs.Peeling.{done_merges, from_merge, to_merge}
use Rattle.merges.proofs.Greedy.{leads_merge}

comes_shape : (skew : ℕ) (m n : Merging) (list : Option Actor) (x : LoggedEntry) → Comes skew m list x n → n.world.shape ≡ m.world.shape
comes_shape skew m n list x comes =
    let step = step_of skew m list x n comes in
    ap (λ (v : WorldState). v.shape) (patches m.world x.entry.event (n.world, x.entry) step) ∙ patched_shape m.world (actor_of x.entry.event) n.world x.entry.sends

leads_shape : (skew : ℕ) (xs : List LoggedEntry) (m n : Merging) → Leads skew m xs n → n.world.shape ≡ m.world.shape
leads_shape skew [] m n leads = ap (λ (z : Merging). z.world.shape) (sym leads)
leads_shape skew (x ∷ xs) m n leads = leads_shape skew xs leads.1 n leads.3 ∙ comes_shape skew m leads.1 leads.0 x leads.2

module _ (shape : ShapeFields) (skew : ℕ) (logs : Logs) (declared : List LoggedChange) (m : MergerFields) (begins : merging_of m ≡ begun shape logs declared) (same : m.skew ≡ skew) where
  begun_merges : (xs : List LoggedEntry) → MergesFrom m.skew (merging_of m) xs → IsMerge shape skew logs declared xs
  begun_merges xs merges = to_merge shape skew logs declared xs (subst (λ (s : ℕ). MergesFrom s (begun shape logs declared) xs) same (subst (λ (z : Merging). MergesFrom m.skew z xs) begins merges))

  merges_begun : (xs : List LoggedEntry) → IsMerge shape skew logs declared xs → MergesFrom m.skew (merging_of m) xs
  merges_begun xs merge = subst (λ (s : ℕ). MergesFrom s (merging_of m) xs) (sym same) (subst (λ (z : Merging). MergesFrom skew z xs) (sym begins) (from_merge shape skew logs declared xs merge))

  pub none_at_all : NoneFrom m → NoneMerges shape skew logs declared
  none_at_all none xs merge = none xs (merges_begun xs merge)

  module _ (empty : m.run.entries ≡ []) where
    pub all_too_long : TooLongFrom m → AllAreTooLong shape skew logs declared
    all_too_long long xs merge =
        let more : journal_limit < 0 + length xs = subst (λ (es : List Entry). journal_limit < length es + length xs) empty (long xs (merges_begun xs merge)) in
        omega arith

    module _ (n : MergerFields) (p : PutsOn m n) where
      pub merged : IsDone (merging_of n) → AreMerged shape skew logs declared n.run.entries
      merged done =
          let whole : MergesFrom m.skew (merging_of m) (p.put ++ []) = leads_merge m.skew p.put (merging_of m) (merging_of n) [] p.leads (done_merges m.skew (merging_of n) done) in (
            p.put,
            p.entries ∙ ap (λ (es : List Entry). es ++ map (λ (x : LoggedEntry). x.entry) p.put) empty,
            begun_merges p.put (subst (λ (xs : List LoggedEntry). MergesFrom m.skew (merging_of m) xs) (append-nil p.put) whole),
          )

      pub same_shape : n.run.world.shape ≡ shape
      same_shape = leads_shape m.skew p.put (merging_of m) (merging_of n) p.leads ∙ ap (λ (z : Merging). z.world.shape) begins
