-- The declarations that are awaited of later lines, as lines are passed.
use Rattle.std.specs.Prelude.{◌≡◌, ◌⊎◌, ℕ, ◌+◌, ◌≤◌, ◌==◌, ◌&&◌, ◌||◌, not, nat_lt, Bool, true, false, if◌then◌else◌, max, List, [], ◌∷◌, Some, None, Option, Result, Ok, Err, IfOk, unwrap_or, get_or, length, ◌<◌}
use Rattle.std.specs.BTreeMap as tree
use Rattle.std.specs.BTreeMap.{BTreeMap}
use Rattle.std.specs.Ordering.{nat_cmp}
use Rattle.std.proofs.Common.{ap, sym, subst, drop, drop-cons, add-one, ◌∙◌, arith, refl, ⊎_elim}
use Rattle.std.proofs.lemmas.Bool.{cases_Bool, eqb-true}
use Rattle.std.proofs.lemmas.Bool.Decides.{nat_tests}
use Rattle.lockscript.specs.declared.script_line.ScriptCommand.{ScriptCommand}
use Rattle.lockscript.specs.declared.script_line.ScriptCommand.TheVariants.{Call, Deliver, Lose, Settle, Interrupt, Retry, Resend, Declare, Restart, Learn, FailServer, StartServer}
use Rattle.thread_runs.specs.declared.line_outcome.LineOutcome.{LineOutcome}
use Rattle.thread_runs.specs.declared.line_outcome.LineOutcome.TheVariants.{Answered, Denied, Made, Refused, Settled, Open, Left}
use Rattle.thread_runs.specs.declared.played_line.PlayedLine.{PlayedLine}
use Rattle.model.specs.declared.op.Op.{Op}
use Rattle.messages.specs.rule.Shapes.{ShapeFields}
use Rattle.thread_runs.specs.code.Awaited.{AreMet}
use Rattle.thread_runs.specs.rule.Runs.{ClusterMembers, MayAllCome, MayCallCome, MayCome, after_line, declares, fails_in}

lt_trans : (a b c : ℕ) → nat_lt b c ≡ true → a ≤ b → nat_lt a c ≡ true
lt_trans a b c h le = grind (arith, nat_tests)

and_then : (a b c : Bool) → (b ≡ true → c ≡ true) → (a && b) ≡ true → (a && c) ≡ true
and_then true b c f h = f h
and_then false b c f h = h

or_then : (a b c d : Bool) → (a ≡ true → b ≡ true) → (c ≡ true → d ≡ true) → (a || c) ≡ true → (b || d) ≡ true
or_then true b c d f g h = ap (λ x. x || d) (f refl)
or_then false true c d f g h = refl
or_then false false c d f g h = g h

or_right : (a b : Bool) → b ≡ true → (a || b) ≡ true
or_right true b h = refl
or_right false b h = h

declares_sooner : (n a b : ℕ) → a ≤ b → (c : ScriptCommand) (o : LineOutcome) → declares n b c o ≡ true → declares n a c o ≡ true
declares_sooner n a b le (Declare m) (Made at) h = and_then (m == n) (nat_lt b at) (nat_lt a at) (λ e. lt_trans a b at e le) h
declares_sooner n a b le (Declare m) (Answered r) h = h
declares_sooner n a b le (Declare m) (Denied e) h = h
declares_sooner n a b le (Declare m) (Refused e) h = h
declares_sooner n a b le (Declare m) Settled h = h
declares_sooner n a b le (Declare m) (Open at) h = h
declares_sooner n a b le (Declare m) Left h = h
declares_sooner n a b le (Call m pid op) o h = h
declares_sooner n a b le (Deliver m) o h = h
declares_sooner n a b le (Lose m) o h = h
declares_sooner n a b le Settle o h = h
declares_sooner n a b le (Interrupt m pid) o h = h
declares_sooner n a b le (Retry m pid) o h = h
declares_sooner n a b le (Resend file) o h = h
declares_sooner n a b le (Restart m) o h = h
declares_sooner n a b le (Learn file m incarnation) o h = h
declares_sooner n a b le (FailServer m) o h = h
declares_sooner n a b le (StartServer m) o h = h

-- a node that is declared failed behind a position is declared failed behind an earlier one
pub fails_sooner : (is_between : ScriptCommand → Bool) (n a b : ℕ) → a ≤ b → (ls : List PlayedLine) → fails_in is_between n b ls ≡ true → fails_in is_between n a ls ≡ true
fails_sooner is_between n a b le [] h = h
fails_sooner is_between n a b le (l ∷ ls) h =
    and_then (not (is_between l.line.command)) _ _
    (or_then (declares n b l.line.command l.outcome) (declares n a l.line.command l.outcome) (fails_in is_between n b ls) (fails_in is_between n a ls)
    (declares_sooner n a b le l.line.command l.outcome) (fails_sooner is_between n a b le ls)) h

here : (n : ℕ) → (n == n) ≡ true
here n = grind (arith, nat_tests)

-- the declarations that are awaited after one more is, if they come, come before as well
pub met_by_one : (is_between : ScriptCommand → Bool) (old new : BTreeMap ℕ ℕ) (node least : ℕ) → ((n : ℕ) → tree.get nat_cmp new n ≡ (if n == node then Some (max least (unwrap_or (tree.get nat_cmp old node) 0)) else tree.get nat_cmp old n)) → (behind : List PlayedLine) → AreMet is_between new behind → (fails_in is_between node least behind ≡ true) × AreMet is_between old behind
met_by_one is_between old new node least step behind met =
    let k = unwrap_or (tree.get nat_cmp old node) 0 in
    let most = met node (max least k) (step node ∙ ap (λ b. if b then Some (max least k) else tree.get nat_cmp old node) (here node)) in (
      fails_sooner is_between node least (max least k) (omega arith) behind most,
      λ n l is. ⊎_elim
          (λ e.
          let same : n ≡ node = eqb-true n node e in
          let known : unwrap_or (tree.get nat_cmp old node) 0 ≡ l = ap (λ o. unwrap_or o 0) (ap (tree.get nat_cmp old) (sym same) ∙ is) in
          fails_sooner is_between n l (max least k) (omega (arith, known)) behind
          (met n (max least k) (step n ∙ ap (λ b. if b then Some (max least k) else tree.get nat_cmp old n) e)))
          (λ e. met n l (step n ∙ (ap (λ b. if b then Some (max least k) else tree.get nat_cmp old n) e ∙ is)))
          (cases_Bool (n == node)),
    )

none_some : {X : Type 0} (o : Option X) (x : X) → o ≡ None → o ≡ Some x → ⊥
none_some o x n s = cc

-- the awaited declarations come before a line, if the line makes its own and the rest come behind it
pub met_past : (is_between : ScriptCommand → Bool) (old new : BTreeMap ℕ ℕ) (l : PlayedLine) (behind : List PlayedLine) → (is_between l.line.command ≡ true → (n : ℕ) → tree.get nat_cmp old n ≡ None) → ((n least : ℕ) → tree.get nat_cmp old n ≡ Some least → (declares n least l.line.command l.outcome ≡ true) ⊎ (tree.get nat_cmp new n ≡ Some least)) → AreMet is_between new behind → AreMet is_between old (l ∷ behind)
met_past is_between old new l behind parted step met = λ n least is. ⊎_elim
    (λ p. absurd (none_some (tree.get nat_cmp old n) least (parted p n) is))
    (λ p. ⊎_elim
    (λ d. ap (λ b. not b && (declares n least l.line.command l.outcome || fails_in is_between n least behind)) p ∙ ap (λ b. b || fails_in is_between n least behind) d)
    (λ g. ap (λ b. not b && (declares n least l.line.command l.outcome || fails_in is_between n least behind)) p ∙ or_right (declares n least l.line.command l.outcome) _ (met n least g))
    (step n least is))
    (cases_Bool (is_between l.line.command))

-- what follows from a fact of a good result holds of the result
pub if_ok : {A E : Type 0} (r : Result A E) (P Q : A → Type 0) → ((a : A) → P a → Q a) → IfOk r P → IfOk r Q
if_ok (Ok a) P Q f p = f a p
if_ok (Err e) P Q f p = p

pub call_may : (is_between : ScriptCommand → Bool) (shape : ShapeFields) (m : ClusterMembers) (command : ScriptCommand) (n pid : ℕ) (op : Op) (o : LineOutcome) (behind : List PlayedLine) → command ≡ Call n pid op → MayCallCome is_between shape m.nodes n pid op o behind → MayCome is_between shape m command o behind
call_may is_between shape m command n pid op o behind e h = subst (λ (k : ScriptCommand). MayCome is_between shape m k o behind) (sym e) h

-- one more line may have its outcome
pub all_past : (is_between : ScriptCommand → Bool) (shape : ShapeFields) (m m' : ClusterMembers) (old new : BTreeMap ℕ ℕ) (lines : List PlayedLine) (i : ℕ) (x : PlayedLine) → i < length lines → x ≡ get_or lines i x → m' ≡ after_line shape m x → ((behind : List PlayedLine) → AreMet is_between new behind → MayCome is_between shape m x.line.command x.outcome behind × AreMet is_between old (x ∷ behind)) → AreMet is_between new (drop (i + 1) lines) → MayAllCome is_between shape m' (drop (i + 1) lines) → AreMet is_between old (drop i lines) × MayAllCome is_between shape m (drop i lines)
all_past is_between shape m m' old new lines i x lt is members may met rest =
    let r = may (drop (i + 1) lines) met in
    let cons : drop i lines ≡ x ∷ drop (i + 1) lines = drop-cons lines i x lt ∙ ap (λ (k : ℕ). get_or lines i x ∷ drop k lines) (sym (add-one i)) ∙ ap (λ (y : PlayedLine). y ∷ drop (i + 1) lines) (sym is) in
    let all : MayAllCome is_between shape m (x ∷ drop (i + 1) lines) = (r.0, subst (λ (k : ClusterMembers). MayAllCome is_between shape k (drop (i + 1) lines)) members rest) in
    (subst (AreMet is_between old) (sym cons) r.1, subst (MayAllCome is_between shape m) (sym cons) all)
