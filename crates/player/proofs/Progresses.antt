-- The entries of a run lead from its first world to its last.
use Rattle.std.proofs.Common.{◌≡◌, ℕ, zero, suc, ◌<◌, arith, Bool, true, false, if◌then◌else◌, Option, Some, None, refl, sym, subst, List, [], ◌∷◌, ◌++◌, length, reverse}
use Rattle.std.specs.Prelude.{nat_le, nat_lt, slice_get, IfSome}
use Rattle.std.specs.declared.result.Result.{Result}
use Rattle.std.specs.declared.result.Result.TheVariants.{Ok, Err}
use Rattle.std.proofs.lemmas.List.{reverse-append}
use Rattle.messages.specs.declared.refusal.Refused.{Refused}
use Rattle.messages.specs.declared.refusal.Refused.TheVariants.{NoMemory, Stranger, JournalFull, Fenced}
use Rattle.messages.specs.declared.event.Event.{Event}
use Rattle.messages.specs.declared.event.Event.TheVariants as event
use Rattle.messages.specs.declared.event.NodeInput.TheVariants as input
use Rattle.messages.specs.declared.event.ServerInput.TheVariants as order
use Rattle.messages.specs.declared.event.MemberEvent.TheVariants as change
use Rattle.messages.specs.declared.message.Message.{Message}
use Rattle.messages.specs.declared.entry.Entry.{Entry}
use Rattle.cluster_core.specs.rule.World.{WorldState, journal_limit}
use Rattle.cluster_core.specs.rule.Next.{next, kept_next}
use Rattle.cluster_core.specs.rule.Journals.{delivery}
use Rattle.cluster_core.specs.rule.Runs.{Leads}
use Rattle.cluster_core.proofs.runs.JournalRuns.{leads_push, entry_event}
use Rattle.cluster_core.proofs.steps.Steps.{kept_taken}
use Rattle.lockscript.specs.declared.script_line.ScriptCommand.{ScriptCommand}
use Rattle.lockscript.specs.declared.script_line.ScriptCommand.TheVariants.{Call, Deliver, Lose, Settle, Interrupt, Retry, Resend, Declare, Restart, Learn, FailServer, StartServer}
use Rattle.lockscript.specs.rule.Scripts.{LineFields}
use Rattle.player.specs.rule.Progress.{Progress, End, after_entry, after_refusal, index_of, lost, settling, Comes, Ends, Happens, InTurn, Passes, IsLeastUnsettled, IsNextMessage, Delivers, Does, RunsTo}

-- the entries of a run lead from its first world to its world so far
abbrev pub LeadsFrom : WorldState → Progress → Type 0
LeadsFrom w p = Leads w p.entries p.world

-- if a run comes to a progress, its entries lead there
abbrev pub EndLeads : WorldState → End → Type 0
EndLeads w end = IfSome end (LeadsFrom w)

end_leads : (w : WorldState) (end its : End) → its ≡ end → EndLeads w end → EndLeads w its
end_leads w end its is leads = subst (EndLeads w) (sym is) leads

ends_leads : (w : WorldState) (line : ℕ) (ev : Event) (p : Progress) (end : End) (r : Result (WorldState × Entry) Refused) → kept_next p.world ev ≡ r → LeadsFrom w p → Ends line p r end → EndLeads w end
ends_leads w line ev p end (Ok made) is leads ends =
    let step = (kept_taken p.world ev made is).1 in
    let of = entry_event p.world made.0 ev made.1 step in
    let P : Event → Type 0 = λ x. next p.world x ≡ Ok made in
    end_leads w (Some (after_entry p made)) end ends (leads_push w p.world made.0 p.entries made.1 leads (subst P (sym of) step))
ends_leads w line ev p end (Err NoMemory) is leads ends = absurd ends
ends_leads w line ev p end (Err JournalFull) is leads ends = end_leads w None end ends tt
ends_leads w line ev p end (Err refusal) is leads ends = end_leads w (Some (after_refusal p line refusal)) end ends leads

happens_leads : (w : WorldState) (line : ℕ) (ev : Event) (p : Progress) (end : End) → LeadsFrom w p → Happens line ev p end → EndLeads w end
happens_leads w line ev p end leads happens = ends_leads w line ev p end (kept_next p.world ev) refl leads happens

passes_leads : (w : WorldState) (line : ℕ) (ev : Event) (p : Progress) (end : End) (r : Result (WorldState × Entry) Refused) → kept_next p.world ev ≡ r → LeadsFrom w p → Passes line p r end → EndLeads w end
passes_leads w line ev p end (Err Fenced) is leads passes = end_leads w (Some p) end passes leads
passes_leads w line ev p end r is leads passes = ends_leads w line ev p end r is leads passes

delivers_leads : (w : WorldState) (line : ℕ) (m : Message) (p : Progress) (end : End) → LeadsFrom w p → Delivers line m p end → EndLeads w end
delivers_leads w line m p end leads delivers = passes_leads w line (event.Deliver m) (settling delivers.0 p) end (kept_next p.world (event.Deliver m)) refl leads delivers.2

-- a statement that each step keeps is kept by all steps in turn
turns_lead : {A : Type 0} (Is : A → Progress → End → Type 0) (w : WorldState) → ((x : A) (p : Progress) (end : End) → LeadsFrom w p → Is x p end → EndLeads w end) → (from : End) (xs : List A) (end : End) → EndLeads w from → InTurn Is from xs end → EndLeads w end
turns_lead Is w each None xs end leads is = end_leads w None end is leads
turns_lead Is w each (Some p) [] end leads is = end_leads w (Some p) end is leads
turns_lead Is w each (Some p) (x ∷ xs) end leads turns = turns_lead Is w each turns.0 xs end (each x p turns.0 leads turns.1) turns.2

deliver_leads : (w : WorldState) (line index : ℕ) (m : Message) (p : Progress) (end : End) (r : Result (WorldState × Entry) Refused) → kept_next p.world (event.Deliver m) ≡ r → LeadsFrom w p → Comes line index p r end → EndLeads w end
deliver_leads w line index m p end (Ok made) is leads comes = ends_leads w line (event.Deliver m) (settling index p) end (Ok made) is leads comes
deliver_leads w line index m p end (Err refusal) is leads comes = ends_leads w line (event.Deliver m) p end (Err refusal) is leads comes

unsent_leads : (w : WorldState) (line : ℕ) (p : Progress) (end : End) (full : Bool) → LeadsFrom w p → Ends line p (Err (if full then JournalFull else Stranger)) end → EndLeads w end
unsent_leads w line p end true leads ends = end_leads w None end ends tt
unsent_leads w line p end false leads ends = end_leads w (Some (after_refusal p line Stranger)) end ends leads

comes_leads : (w : WorldState) (line index : ℕ) (p : Progress) (end : End) (o : Option Message) → LeadsFrom w p → Comes line index p (delivery p.world o) end → EndLeads w end
comes_leads w line index p end (Some m) leads comes = deliver_leads w line index m p end (kept_next p.world (event.Deliver m)) refl leads comes
comes_leads w line index p end None leads comes = unsent_leads w line p end (nat_le journal_limit p.world.length) leads comes

lost_leads : (w : WorldState) (line index : ℕ) (p : Progress) (b : Bool) → LeadsFrom w p → LeadsFrom w (if b then settling index p else after_refusal p line Stranger)
lost_leads w line index p true leads = leads
lost_leads w line index p false leads = leads

does_leads : (w : WorldState) (line : ℕ) (c : ScriptCommand) (p : Progress) (end : End) → LeadsFrom w p → Does line c p end → EndLeads w end
does_leads w line (Call node pid op) p end leads does = happens_leads w line (event.AtNode node (input.Call pid op)) p end leads does
does_leads w line (Deliver number) p end leads does = comes_leads w line (index_of number) p end (slice_get p.world.sent (index_of number)) leads does
does_leads w line (Lose number) p end leads does = end_leads w (Some (lost line (index_of number) p)) end does (lost_leads w line (index_of number) p (nat_lt (index_of number) (length p.world.sent)) leads)
does_leads w line (Interrupt node pid) p end leads does = happens_leads w line (event.AtNode node (input.Interrupt pid)) p end leads does
does_leads w line (Retry node pid) p end leads does = happens_leads w line (event.AtNode node (input.Retry pid)) p end leads does
does_leads w line (Resend file) p end leads does = happens_leads w line (event.AtServer file order.Resend) p end leads does
does_leads w line (Declare node) p end leads does = happens_leads w line (event.Member (change.Declare node)) p end leads does
does_leads w line (Restart node) p end leads does = happens_leads w line (event.Member (change.Restart node)) p end leads does
does_leads w line (Learn file node incarnation) p end leads does = happens_leads w line (event.AtServer file (order.Learn node incarnation)) p end leads does
does_leads w line (FailServer file) p end leads does = happens_leads w line (event.Member (change.FailServer file)) p end leads does
does_leads w line (StartServer file) p end leads does = happens_leads w line (event.Member (change.StartServer file)) p end leads does
does_leads w line Settle p end leads does = turns_lead (Delivers line) w (delivers_leads w line) (Some p) does.0 end leads does.1

-- the entries that the lines make lead on from the world before them
pub lines_lead : (w : WorldState) (from : Progress) (ls : List LineFields) (q : Progress) → LeadsFrom w from → RunsTo from ls (Some q) → LeadsFrom w q
lines_lead w from ls q leads runs = turns_lead (λ (l : LineFields). Does l.number l.command) w (λ l. does_leads w l.number l.command) (Some from) ls (Some q) leads runs

-- things that are done after other ones
pub turns_append : {A : Type 0} (Is : A → Progress → End → Type 0) (from mid end : End) (xs ys : List A) → InTurn Is from xs mid → InTurn Is mid ys end → InTurn Is from (xs ++ ys) end
turns_append Is None mid end xs ys is more = let P : End → Type 0 = λ x. InTurn Is x ys end in subst P is more
turns_append Is (Some p) mid end [] ys is more = let P : End → Type 0 = λ x. InTurn Is x ys end in subst P is more
turns_append Is (Some p) mid end (x ∷ xs) ys turns more = (turns.0, turns.1, turns_append Is turns.0 mid end xs ys turns.2 more)

-- an end stays where nothing more is done
turns_none : {A : Type 0} (Is : A → Progress → End → Type 0) (end : End) → InTurn Is end [] end
turns_none Is None = refl
turns_none Is (Some p) = refl

-- one more thing is done, with which the run may end
pub turns_push : {A : Type 0} (Is : A → Progress → End → Type 0) (from : End) (mid : Progress) (end : End) (xs : List A) (x : A) → InTurn Is from xs (Some mid) → Is x mid end → InTurn Is from (xs ++ x ∷ []) end
turns_push Is from mid end xs x turns is = turns_append Is from (Some mid) end xs (x ∷ []) turns (end, is, turns_none Is end)

-- one more message of a line is settled
pub settles_push : (line : ℕ) (p q s : Progress) (end : End) (ms : List Message) (m : Message) → InTurn (Delivers line) (Some p) ms (Some q) → s ≡ q → Delivers line m s end → InTurn (Delivers line) (Some p) (ms ++ m ∷ []) end
settles_push line p q s end ms m turns same delivers =
    let P : Progress → Type 0 = λ x. Delivers line m x end in
    turns_push (Delivers line) (Some p) q end ms m turns (subst P same delivers)

-- the message at an index below the number of messages that were sent
sent_there : (ms : List Message) (index : ℕ) → index < length ms → (m : Message) × (slice_get ms index ≡ Some m)
sent_there [] index lt = absurd (omega arith)
sent_there (m ∷ ms) zero lt = (m, refl)
sent_there (m ∷ ms) (suc index) lt = sent_there ms index (omega arith)

pub next_there : (p : Progress) (index : ℕ) → IsLeastUnsettled p.settled index → index < length p.world.sent → (m : Message) × IsNextMessage p index m
next_there p index least lt =
    let there = sent_there p.world.sent index lt in
    (there.0, record { least = least; sent = there.1 })

-- a line that is done, in front of the remaining lines, which are stored in reverse order
pub runs_first : (p q : Progress) (left ls : List LineFields) (l : LineFields) (end : End) → ls ≡ left ++ l ∷ [] → Does l.number l.command p (Some q) → RunsTo q (reverse left) end → RunsTo p (reverse ls) end
runs_first p q left ls l end is does rest =
    let P : List LineFields → Type 0 = λ ks. RunsTo p (reverse ks) end in
    let Q : List LineFields → Type 0 = λ ks. RunsTo p ks end in
    subst P (sym is) (subst Q (sym (reverse-append left (l ∷ []))) (Some q, does, rest))

-- a line finds the journal full, and so the lines from it on
pub fills : (p : Progress) (left ls : List LineFields) (l : LineFields) → ls ≡ left ++ l ∷ [] → Does l.number l.command p None → RunsTo p (reverse ls) None
fills p left ls l is full =
    let P : List LineFields → Type 0 = λ ks. RunsTo p (reverse ks) None in
    let Q : List LineFields → Type 0 = λ ks. RunsTo p ks None in
    subst P (sym is) (subst Q (sym (reverse-append left (l ∷ []))) (None, full, refl))

-- where no line is left, the lines come to this
pub runs_out : (p : Progress) (ls : List LineFields) → length ls ≡ 0 → RunsTo p (reverse ls) (Some p)
runs_out p [] none = refl
runs_out p (l ∷ ls) none = absurd (cc)
