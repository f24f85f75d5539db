-- The agenda of a round about a file: what its server is told and resends, and each open call about the file, which is retried.
use Rattle.std.specs.Prelude.{◌==◌, ◌&&◌, ◌-◌, nat_le, nat_lt, if◌then◌else◌, get_or, length}
use Rattle.std.proofs.Common.{◌≡◌, ℕ, zero, suc, ◌+◌, ◌<◌, ◌≤◌, Bool, true, false, refl, sym, ◌∙◌, ap, subst, arith, List, [], ◌∷◌, ◌++◌, All, Contains, Option, Some, None}
use Rattle.std.proofs.lemmas.Bool.{and_from, and_parts, eq-eqb, le-leb, leb-true, lt-ltb}
use Rattle.std.proofs.lemmas.List.Elements.{All-nil, All-cons, All-head, All-tail, All-append, Contains-append_left, Contains-append_right}
use Rattle.model.specs.declared.call.CallId.{CallId}
use Rattle.model.specs.declared.reply.Reply.{Reply}
use Rattle.model.specs.rule.Limits.{most_processes}
use Rattle.messages.specs.rule.Shapes.{ShapeFields}
use Rattle.messages.specs.rule.Messages.{addressee, is_within}
use Rattle.messages.specs.declared.event.Event.{Event}
use Rattle.messages.specs.declared.event.Event.TheVariants.{AtNode, AtServer}
use Rattle.messages.specs.declared.event.NodeInput.TheVariants.{Retry}
use Rattle.messages.specs.declared.event.ServerInput.TheVariants.{Resend, Learn}
use Rattle.messages.specs.declared.entry.Entry.{Entry}
use Rattle.node_core.specs.declared.open_call.OpenCall.{OpenCall}
use Rattle.node_core.specs.rule.State.{NodeState}
use Rattle.cluster_core.specs.rule.World.{WorldState, has_node, is_alive, was_declared}
use Rattle.cluster_core.specs.rule.Next.{is_stopped}
use Rattle.cluster_core.specs.rule.Runs.{Leads}
use Rattle.cluster_core.specs.rule.Rounds.{IsQuiet, Happens, IsRound}
use Rattle.cluster_core.proofs.common.Choices.{at_number}
use Rattle.cluster_core.proofs.history.Nodes.{IsOpen}
use Rattle.cluster_core.proofs.history.Worlds.{Good}
use Rattle.cluster_core.proofs.rounds.Quiet.{quiet-rest}
use Rattle.cluster_core.proofs.rounds.Stretches.{AllQuiet, members_stay}
use Rattle.progress.specs.rule.Agenda.{learns_of, learns_up_to, retries_in, retries_of, retries_up_to, agenda}
use Rattle.progress.proofs.Agenda.{contains_first, contains_later, Done}
use Rattle.progress.proofs.Possible.{IsPossible}
use Rattle.progress.proofs.Steps.{open_before, step-answers}
use Rattle.progress.proofs.Sums.{not_last}

-- a call that is open at the end of a stretch was open before it
pub open_through : (es : List Entry) (w v : WorldState) (n : ℕ) (c : OpenCall) → Leads w es v → AllQuiet es → Contains (v.nodes n).pending c → Contains (w.nodes n).pending c
open_through [] w v n c leads quiet at = subst (λ (x : WorldState). Contains (x.nodes n).pending c) (sym leads) at
open_through (e ∷ es) w v n c leads quiet at = by e.reply refl (open_through es leads.0 v n c leads.2 (All-tail (λ (x : Entry). IsQuiet x.event) e es quiet) at)
  where
    own : IsQuiet e.event
    own = All-head (λ (x : Entry). IsQuiet x.event) e es quiet

    by : (o : Option (CallId × Reply)) → e.reply ≡ o → Contains (leads.0.nodes n).pending c → Contains (w.nodes n).pending c
    by None said later =
        let alone = All-cons (λ (x : Entry). IsQuiet x.event) e [] own (All-nil (λ (x : Entry). IsQuiet x.event)) in
        let none = All-cons (λ (x : Entry). x.reply ≡ None) e [] said (All-nil (λ (x : Entry). x.reply ≡ None)) in
        subst (λ (cs : List OpenCall). Contains cs c) ((quiet-rest (e ∷ []) w leads.0 (leads.0, leads.1, refl) alone none).nodes n).pending later
    by (Some reply) said later = open_before w leads.0 (step-answers w e leads.0 reply leads.1 own said) n c later

learn_there : (file : ℕ) (nodes : ℕ → NodeState) (k n i : ℕ) → 1 ≤ n → n ≤ k → 1 ≤ i → i + 1 ≡ (nodes n).incarnation → Contains (learns_up_to file nodes k) (AtServer file (Learn n i))
learn_there file nodes zero n i low high from is = absurd (omega arith)
learn_there file nodes (suc k) n i low high from is = at_number n (suc k) (λ b. Contains (learns_up_to file nodes (suc k)) (AtServer file (Learn n i)))
    (λ same.
    let here : Contains (learns_of file (suc k) (nodes (suc k)).incarnation) (AtServer file (Learn (suc k) i)) = one (nodes (suc k)).incarnation (is ∙ ap (λ (j : ℕ). (nodes j).incarnation) same) in
    Contains-append_right (learns_up_to file nodes k) (learns_of file (suc k) (nodes (suc k)).incarnation) (AtServer file (Learn n i)) (subst (λ (j : ℕ). Contains (learns_of file (suc k) (nodes (suc k)).incarnation) (AtServer file (Learn j i))) (sym same) here))
    (λ other. Contains-append_left (learns_up_to file nodes k) (learns_of file (suc k) (nodes (suc k)).incarnation) (AtServer file (Learn n i)) (learn_there file nodes k n i low (not_last n k high other) from is))
  where
    one : (incarnation : ℕ) → i + 1 ≡ incarnation → Contains (learns_of file (suc k) incarnation) (AtServer file (Learn (suc k) i))
    one incarnation same =
        let more : nat_le 2 incarnation ≡ true = le-leb 2 incarnation (omega arith) in
        let back : incarnation - 1 ≡ i = omega arith in
        subst (λ (b : Bool). Contains (if b then AtServer file (Learn (suc k) (incarnation - 1)) ∷ [] else []) (AtServer file (Learn (suc k) i))) (sym more)
        (subst (λ (j : ℕ). Contains (AtServer file (Learn (suc k) j) ∷ []) (AtServer file (Learn (suc k) i))) (sym back) (contains_first (AtServer file (Learn (suc k) i)) []))

retry_in : (file n : ℕ) (cs : List OpenCall) (c : OpenCall) → Contains cs c → c.file ≡ file → Contains (retries_in file n cs) (AtNode n (Retry c.pid))
retry_in file n [] c at of = absurd (let lt = at.1 in omega arith)
retry_in file n (x ∷ xs) c at of = by at.0 at.1 at.2 (λ there. retry_in file n xs c there of)
  where
    later : (b : Bool) → Contains (retries_in file n xs) (AtNode n (Retry c.pid)) → Contains (if b then AtNode n (Retry x.pid) ∷ retries_in file n xs else retries_in file n xs) (AtNode n (Retry c.pid))
    later true rest = contains_later (AtNode n (Retry x.pid)) (retries_in file n xs) (AtNode n (Retry c.pid)) rest
    later false rest = rest

    by : (k : ℕ) → k < length (x ∷ xs) → get_or (x ∷ xs) k c ≡ c → (Contains xs c → Contains (retries_in file n xs) (AtNode n (Retry c.pid))) → Contains (retries_in file n (x ∷ xs)) (AtNode n (Retry c.pid))
    by zero lt is others =
        let own : (x.file == file) ≡ true = eq-eqb x.file file (ap (λ (d : OpenCall). d.file) is ∙ of) in
        subst (λ (b : Bool). Contains (if b then AtNode n (Retry x.pid) ∷ retries_in file n xs else retries_in file n xs) (AtNode n (Retry c.pid))) (sym own)
        (subst (λ (d : OpenCall). Contains (AtNode n (Retry d.pid) ∷ retries_in file n xs) (AtNode n (Retry c.pid))) (sym is) (contains_first (AtNode n (Retry c.pid)) (retries_in file n xs)))
    by (suc k) lt is others = later (x.file == file) (others (k, omega arith, is))

retry_there : (file : ℕ) (w : WorldState) (k n : ℕ) (c : OpenCall) → 1 ≤ n → n ≤ k → w.alive n ≡ true → Contains (w.nodes n).pending c → c.file ≡ file → Contains (retries_up_to file w k) (AtNode n (Retry c.pid))
retry_there file w zero n c low high alive at of = absurd (omega arith)
retry_there file w (suc k) n c low high alive at of = at_number n (suc k) (λ b. Contains (retries_up_to file w (suc k)) (AtNode n (Retry c.pid)))
    (λ same.
    let here : Contains (retries_of file w n) (AtNode n (Retry c.pid)) = subst (λ (b : Bool). Contains (if b then retries_in file n (w.nodes n).pending else []) (AtNode n (Retry c.pid))) (sym alive) (retry_in file n (w.nodes n).pending c at of) in
    Contains-append_right (retries_up_to file w k) (retries_of file w (suc k)) (AtNode n (Retry c.pid)) (subst (λ (j : ℕ). Contains (retries_of file w j) (AtNode n (Retry c.pid))) same here))
    (λ other. Contains-append_left (retries_up_to file w k) (retries_of file w (suc k)) (AtNode n (Retry c.pid)) (retry_there file w k n c low (not_last n k high other) alive at of))

-- when the agenda is done, and what else there is, a round is made
pub is_round : (file : ℕ) (w : WorldState) (more : List Event) (es : List Entry) (v : WorldState) → Done file (agenda file w ++ more) w es v → IsRound file w es v
is_round file w more es v done =
    let same = members_stay es w v done.leads done.quiet in
    let tail : List Event = AtServer file Resend ∷ retries_up_to file w w.shape.nodes in
    let happens : (event : Event) → Contains (agenda file w) event → Happens es event = λ event at. done.happens event (Contains-append_left (agenda file w) more event at) in
    record {
      leads = done.leads;
      quiet = done.quiet;
      learns = λ n i within from is.
          let there : has_node w n ≡ true = ap (λ (s : ShapeFields). is_within s.nodes n) (sym same.shape) ∙ within in
          let parts = and_parts (nat_le 1 n) (nat_le n w.shape.nodes) there in
          happens (AtServer file (Learn n i)) (Contains-append_left (learns_up_to file w.nodes w.shape.nodes) tail (AtServer file (Learn n i)) (learn_there file w.nodes w.shape.nodes n i (leb-true 1 n parts.0) (leb-true n w.shape.nodes parts.1) from (is ∙ same.incarnation n)));
      resends = happens (AtServer file Resend) (Contains-append_right (learns_up_to file w.nodes w.shape.nodes) tail (AtServer file Resend) (contains_first (AtServer file Resend) (retries_up_to file w w.shape.nodes)));
      retries = λ n c alive at of.
          let live : is_alive w n ≡ true = (λ i. is_within (sym same.shape i).nodes n && sym same.alive i n) ∙ alive in
          let both = and_parts (has_node w n) (w.alive n) live in
          let parts = and_parts (nat_le 1 n) (nat_le n w.shape.nodes) both.0 in
          let there = retry_there file w w.shape.nodes n c (leb-true 1 n parts.0) (leb-true n w.shape.nodes parts.1) both.1 (open_through es w v n c done.leads done.quiet at) of in
          happens (AtNode n (Retry c.pid)) (Contains-append_right (learns_up_to file w.nodes w.shape.nodes) tail (AtNode n (Retry c.pid)) (contains_later (AtServer file Resend) (retries_up_to file w w.shape.nodes) (AtNode n (Retry c.pid)) there));
      delivers = λ before after e m split among of free. done.delivers before after e m split among of ((λ i. is_stopped (record w { alive = sym same.alive i; working = sym same.working i }) (addressee m)) ∙ free);
    }

-- all on the agenda may happen
learns_possible : (file : ℕ) (w : WorldState) (k : ℕ) → k ≤ w.shape.nodes → All (IsPossible file w) (learns_up_to file w.nodes k)
learns_possible file w zero few = All-nil (IsPossible file w)
learns_possible file w (suc k) few = All-append (IsPossible file w) (learns_up_to file w.nodes k) (learns_of file (suc k) (w.nodes (suc k)).incarnation) (learns_possible file w k (omega arith)) (by (nat_le 2 (w.nodes (suc k)).incarnation) refl)
  where
    i : ℕ
    i = (w.nodes (suc k)).incarnation

    by : (b : Bool) → nat_le 2 i ≡ b → All (IsPossible file w) (if b then AtServer file (Learn (suc k) (i - 1)) ∷ [] else [])
    by false less = All-nil (IsPossible file w)
    by true more =
        let two = leb-true 2 i more in
        let within : has_node w (suc k) ≡ true = and_from (nat_le 1 (suc k)) (nat_le (suc k) w.shape.nodes) (le-leb 1 (suc k) (omega arith)) (le-leb (suc k) w.shape.nodes few) in
        let declared : was_declared w (suc k) (i - 1) ≡ true = and_from (nat_le 1 (i - 1)) (nat_lt (i - 1) i) (le-leb 1 (i - 1) (omega arith)) (lt-ltb (i - 1) i (omega arith)) in
        All-cons (IsPossible file w) (AtServer file (Learn (suc k) (i - 1))) [] (refl, and_from (has_node w (suc k)) (was_declared w (suc k) (i - 1)) within declared) (All-nil (IsPossible file w))

module _ (shape : ShapeFields) (past : List Entry) (w : WorldState) (good : Good shape past w) (file : ℕ) where
  retries_in_possible : (n : ℕ) → is_alive w n ≡ true → (cs : List OpenCall) → All (IsOpen past (w.nodes n)) cs → All (IsPossible file w) (retries_in file n cs)
  retries_in_possible n alive [] open_calls = All-nil (IsPossible file w)
  retries_in_possible n alive (c ∷ cs) open_calls = by (c.file == file) (retries_in_possible n alive cs (All-tail (IsOpen past (w.nodes n)) c cs open_calls))
    where
      by : (b : Bool) → All (IsPossible file w) (retries_in file n cs) → All (IsPossible file w) (if b then AtNode n (Retry c.pid) ∷ retries_in file n cs else retries_in file n cs)
      by true rest =
          let pid = (All-head (IsOpen past (w.nodes n)) c cs open_calls).is_process.pid_in in
          All-cons (IsPossible file w) (AtNode n (Retry c.pid)) (retries_in file n cs) (alive, and_from (nat_le 1 c.pid) (nat_le c.pid most_processes) (le-leb 1 c.pid pid.0) (le-leb c.pid most_processes pid.1)) rest
      by false rest = rest

  retries_possible : (k : ℕ) → k ≤ w.shape.nodes → All (IsPossible file w) (retries_up_to file w k)
  retries_possible zero few = All-nil (IsPossible file w)
  retries_possible (suc k) few = All-append (IsPossible file w) (retries_up_to file w k) (retries_of file w (suc k)) (retries_possible k (omega arith)) (by (w.alive (suc k)) refl)
    where
      by : (b : Bool) → w.alive (suc k) ≡ b → All (IsPossible file w) (if b then retries_in file (suc k) (w.nodes (suc k)).pending else [])
      by false dead = All-nil (IsPossible file w)
      by true alive =
          let within : has_node w (suc k) ≡ true = and_from (nat_le 1 (suc k)) (nat_le (suc k) w.shape.nodes) (le-leb 1 (suc k) (omega arith)) (le-leb (suc k) w.shape.nodes few) in
          retries_in_possible (suc k) (and_from (has_node w (suc k)) (w.alive (suc k)) within alive) (w.nodes (suc k)).pending (good.holds (suc k)).waiting

  pub agenda_possible : All (IsPossible file w) (agenda file w)
  agenda_possible = All-append (IsPossible file w) (learns_up_to file w.nodes w.shape.nodes) (AtServer file Resend ∷ retries_up_to file w w.shape.nodes) (learns_possible file w w.shape.nodes (omega arith))
      (All-cons (IsPossible file w) (AtServer file Resend) (retries_up_to file w w.shape.nodes) (refl, refl) (retries_possible w.shape.nodes (omega arith)))
