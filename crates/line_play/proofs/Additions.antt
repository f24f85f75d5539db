-- A line adds entries and refusals to a run, and takes nothing away.
use Rattle.std.proofs.Common.{◌≡◌, ℕ, Bool, true, false, if◌then◌else◌, Some, None, refl, sym, ap, subst, ◌∙◌, List, [], ◌∷◌, ◌++◌, length, append-nil, append_assoc}
use Rattle.std.specs.Prelude.{nat_lt, slice_get, IfSome}
use Rattle.std.specs.declared.result.Result.{Result}
use Rattle.std.specs.declared.result.Result.TheVariants.{Ok, Err}
use Rattle.messages.specs.declared.entry.Entry.{Entry}
use Rattle.messages.specs.declared.event.Event.{Event}
use Rattle.messages.specs.declared.event.Event.TheVariants as event
use Rattle.messages.specs.declared.event.MemberEvent.TheVariants as change
use Rattle.messages.specs.declared.event.NodeInput.TheVariants as input
use Rattle.messages.specs.declared.event.ServerInput.TheVariants as order
use Rattle.messages.specs.declared.message.Message.{Message}
use Rattle.messages.specs.declared.refusal.Refused.{Refused}
use Rattle.messages.specs.declared.refusal.Refused.TheVariants.{Fenced, JournalFull, NoMemory, Stranger}
use Rattle.messages.specs.rule.Entries.{number_of}
use Rattle.cluster_core.specs.rule.Journals.{delivery}
use Rattle.cluster_core.specs.rule.Next.{kept_next}
use Rattle.cluster_core.specs.rule.World.{WorldState}
use Rattle.lockscript.specs.declared.refused_line.RefusedLine.{RefusedLine}
use Rattle.lockscript.specs.declared.script_line.ScriptCommand.{ScriptCommand}
use Rattle.lockscript.specs.declared.script_line.ScriptCommand.TheVariants.{Call, Deliver, Lose, Settle, Interrupt, Retry, Resend, Declare, Restart, Learn, FailServer, StartServer}
use Rattle.player.specs.rule.Progress.{Progress, End, after_entry, after_refusal, index_of, lost, settling, Comes, Delivers, Does, Ends, Happens, InTurn, Passes}
use Rattle.line_play.specs.rule.Answers.{Adds}

-- where a run comes to a progress, something was added
abbrev pub EndAdds : Progress → End → Type 0
EndAdds p end = IfSome end (Adds p)

-- nothing was added
adds_none : (p : Progress) → Adds p p
adds_none p = record { entries = []; refused = []; entries_are = sym (append-nil p.entries); refused_are = sym (append-nil p.refused) }

adds_on : (p q s : Progress) → Adds p q → Adds q s → Adds p s
adds_on p q s a b = record {
  entries = a.entries ++ b.entries;
  refused = a.refused ++ b.refused;
  entries_are = b.entries_are ∙ ap (λ (l : List Entry). l ++ b.entries) a.entries_are ∙ append_assoc p.entries a.entries b.entries;
  refused_are = b.refused_are ∙ ap (λ (l : List RefusedLine). l ++ b.refused) a.refused_are ∙ append_assoc p.refused a.refused b.refused;
}

end_adds : (p : Progress) (end its : End) → its ≡ end → EndAdds p end → EndAdds p its
end_adds p end its is adds = subst (EndAdds p) (sym is) adds

end_adds_on : (p q : Progress) (end : End) → Adds p q → EndAdds q end → EndAdds p end
end_adds_on p q None a b = tt
end_adds_on p q (Some s) a b = adds_on p q s a b

-- a message that is settled adds nothing
settled_adds : (p : Progress) (index : ℕ) → Adds p (settling index p)
settled_adds p index = record { entries = []; refused = []; entries_are = sym (append-nil p.entries); refused_are = sym (append-nil p.refused) }

refusal_adds : (p : Progress) (line : ℕ) (refusal : Refused) → Adds p (after_refusal p line refusal)
refusal_adds p line refusal = record {
  entries = [];
  refused = record { line = line; code = number_of refusal } ∷ [];
  entries_are = sym (append-nil p.entries);
  refused_are = refl;
}

entry_adds : (p : Progress) (made : WorldState × Entry) → Adds p (after_entry p made)
entry_adds p made = record { entries = made.1 ∷ []; refused = []; entries_are = refl; refused_are = sym (append-nil p.refused) }

ends_add : (line : ℕ) (p : Progress) (end : End) (r : Result (WorldState × Entry) Refused) → Ends line p r end → EndAdds p end
ends_add line p end (Ok made) ends = end_adds p (Some (after_entry p made)) end ends (entry_adds p made)
ends_add line p end (Err NoMemory) ends = absurd ends
ends_add line p end (Err JournalFull) ends = end_adds p None end ends tt
ends_add line p end (Err refusal) ends = end_adds p (Some (after_refusal p line refusal)) end ends (refusal_adds p line refusal)

passes_add : (line : ℕ) (p : Progress) (end : End) (r : Result (WorldState × Entry) Refused) → Passes line p r end → EndAdds p end
passes_add line p end (Err Fenced) passes = end_adds p (Some p) end passes (adds_none p)
passes_add line p end r passes = ends_add line p end r passes

delivers_add : (line : ℕ) (m : Message) (p : Progress) (end : End) → Delivers line m p end → EndAdds p end
delivers_add line m p end delivers =
    let q = settling delivers.0 p in
    end_adds_on p q end (settled_adds p delivers.0) (passes_add line q end (kept_next p.world (event.Deliver m)) delivers.2)

-- what each step adds, all steps in turn add
turns_add : {A : Type 0} (Is : A → Progress → End → Type 0) (p : Progress) → ((x : A) (q : Progress) (end : End) → Is x q end → EndAdds q end) → (from : End) (xs : List A) (end : End) → EndAdds p from → InTurn Is from xs end → EndAdds p end
turns_add Is p each None xs end adds is = end_adds p None end is adds
turns_add Is p each (Some q) [] end adds is = end_adds p (Some q) end is adds
turns_add Is p each (Some q) (x ∷ xs) end adds turns = turns_add Is p each turns.0 xs end (end_adds_on p q turns.0 adds (each x q turns.0 turns.1)) turns.2

comes_add : (line index : ℕ) (p : Progress) (end : End) (r : Result (WorldState × Entry) Refused) → Comes line index p r end → EndAdds p end
comes_add line index p end (Ok made) comes =
    let q = settling index p in
    end_adds_on p q end (settled_adds p index) (ends_add line q end (Ok made) comes)
comes_add line index p end (Err refusal) comes = ends_add line p end (Err refusal) comes

lost_adds : (line index : ℕ) (p : Progress) (b : Bool) → Adds p (if b then settling index p else after_refusal p line Stranger)
lost_adds line index p true = settled_adds p index
lost_adds line index p false = refusal_adds p line Stranger

happens_add : (line : ℕ) (ev : Event) (p : Progress) (end : End) → Happens line ev p end → EndAdds p end
happens_add line ev p end happens = ends_add line p end (kept_next p.world ev) happens

does_end : (line : ℕ) (c : ScriptCommand) (p : Progress) (end : End) → Does line c p end → EndAdds p end
does_end line (Call node pid op) p end does = happens_add line (event.AtNode node (input.Call pid op)) p end does
does_end line (Deliver number) p end does = comes_add line (index_of number) p end (delivery p.world (slice_get p.world.sent (index_of number))) does
does_end line (Lose number) p end does = end_adds p (Some (lost line (index_of number) p)) end does (lost_adds line (index_of number) p (nat_lt (index_of number) (length p.world.sent)))
does_end line (Interrupt node pid) p end does = happens_add line (event.AtNode node (input.Interrupt pid)) p end does
does_end line (Retry node pid) p end does = happens_add line (event.AtNode node (input.Retry pid)) p end does
does_end line (Resend file) p end does = happens_add line (event.AtServer file order.Resend) p end does
does_end line (Declare node) p end does = happens_add line (event.Member (change.Declare node)) p end does
does_end line (Restart node) p end does = happens_add line (event.Member (change.Restart node)) p end does
does_end line (Learn file node incarnation) p end does = happens_add line (event.AtServer file (order.Learn node incarnation)) p end does
does_end line (FailServer file) p end does = happens_add line (event.Member (change.FailServer file)) p end does
does_end line (StartServer file) p end does = happens_add line (event.Member (change.StartServer file)) p end does
does_end line Settle p end does = turns_add (Delivers line) p (delivers_add line) (Some p) does.0 end (adds_none p) does.1

-- what a command adds to a run
pub does_add : (line : ℕ) (c : ScriptCommand) (p q : Progress) → Does line c p (Some q) → Adds p q
does_add line c p q does = does_end line c p (Some q) does
