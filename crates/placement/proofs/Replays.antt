-- A history replayed, item by item.
use Rattle.std.specs.Prelude.{◌↔◌, IsTrue}
use Rattle.std.proofs.Common.{◌≡◌, ℕ, ◌+◌, ◌<◌, ◌≤◌, true, false, refl, sym, ◌∙◌, subst, List, ◌∷◌, length, drop, get_or, drop-cons, add-one}
use Rattle.std.proofs.lemmas.List.{drop_all}
use Rattle.std.proofs.lemmas.Bool.{false≢true}
use Rattle.model.specs.rule.Table.{Table, empty_table}
use Rattle.model.proofs.ReplayLaws.{tables_are_one}
use Rattle.messages.specs.declared.version.Version.{Version}
use Rattle.messages.specs.rule.Shapes.{most_regions}
use Rattle.cluster_core.specs.declared.item.Item.{Item}
use Rattle.cluster_core.specs.declared.item.Item.TheVariants.{Answered, Gone}
use Rattle.cluster_core.specs.rule.Histories.{caller, ItemStep, Legal, IsLegal}

-- from this table the items lead to some table
abbrev pub LegalFrom : Table → List Item → Type 0
LegalFrom t h = (last : Table) × Legal t h last

-- the whole history is legal exactly if the rest is legal from the table reached
pub record Follows (version : Version) (h rest : List Item) (t : Table) : Type 0 where
  pub onward : LegalFrom t rest → IsLegal version h
  pub back : IsLegal version h → LegalFrom t rest

-- an item leads to one table
item_tables : (t n m : Table) (i : Item) → ItemStep t i n → ItemStep t i m → n ≡ m
item_tables t n m (Answered at id pid op reply) x y = tables_are_one t (caller id pid) op reply n m x.1 y.1
item_tables t n m (Gone at node incarnation) x y = x ∙ sym y

drop_read : (h : List Item) (i : ℕ) (x : Item) → i < length h → x ≡ get_or h i x → drop i h ≡ x ∷ drop (i + 1) h
drop_read h i x lt is = drop-cons h i x lt ∙ rw (← is, add-one) refl

one_more : (version : Version) (h rest : List Item) (t u : Table) (x : Item) → Follows version h (x ∷ rest) t → ItemStep t x u → Follows version h rest u
one_more version h rest t u x f step = record {
  onward = λ l. f.onward (l.0, (u, step, l.1));
  back = λ all.
      let l = f.back all in
      let P : Table → Type 0 = λ m. Legal m rest l.0 in
      (l.0, subst P (item_tables t l.1.0 u x l.1.1 step) l.1.2);
}

pub follows_start : (version : Version) (h xs : List Item) (t : Table) → xs ≡ h → t ≡ empty_table (most_regions version) → Follows version h xs t
follows_start version h xs t same is =
    let P : Table → Type 0 = λ u. Follows version h xs u in
    let Q : List Item → Type 0 = λ ys. Follows version h ys (empty_table (most_regions version)) in
    subst P (sym is) (subst Q (sym same) (record { onward = λ l. l; back = λ l. l }))

pub follows_more : (version : Version) (h xs : List Item) (i : ℕ) (t u : Table) (x : Item) → i < length xs → x ≡ get_or xs i x → Follows version h (drop i xs) t → ItemStep t x u → Follows version h (drop (i + 1) xs) u
follows_more version h xs i t u x lt is f step =
    let P : List Item → Type 0 = λ rest. Follows version h rest t in
    one_more version h (drop (i + 1) xs) t u x (subst P (drop_read xs i x lt is) f) step

-- an item that the table does not allow: the history is not legal
pub follows_stuck : (version : Version) (h xs : List Item) (i : ℕ) (t : Table) (x : Item) → i < length xs → x ≡ get_or xs i x → Follows version h (drop i xs) t → ((new : Table) → ItemStep t x new → ⊥) → IsTrue false ↔ IsLegal version h
follows_stuck version h xs i t x lt is f stuck =
    let P : List Item → Type 0 = λ rest. LegalFrom t rest in
    (λ no. absurd (false≢true no), λ all. let l = subst P (drop_read xs i x lt is) (f.back all) in absurd (stuck l.1.0 l.1.1))

-- after the last item the history is legal
pub follows_whole : (version : Version) (h xs : List Item) (i : ℕ) (t : Table) → length xs ≤ i → Follows version h (drop i xs) t → IsTrue true ↔ IsLegal version h
follows_whole version h xs i t all f =
    let P : List Item → Type 0 = λ rest. LegalFrom t rest in
    (λ yes. f.onward (subst P (sym (drop_all i xs all)) (t, refl)), λ l. refl)
