-- Every run is safe and has a history and a plain one, each denial its evidence, and no call that waits is denied.
use Rattle.std.proofs.Common.{◌≡◌, ℕ, refl, List, take, Ok}
use Rattle.messages.specs.rule.Shapes.{ShapeFields, IsShape}
use Rattle.messages.specs.declared.message.Message.TheVariants.{Grant, Conflict}
use Rattle.messages.specs.declared.event.Event.{Event}
use Rattle.messages.specs.declared.entry.Entry.{Entry}
use Rattle.node_core.specs.rule.State.{host}
use Rattle.cluster_core.specs.rule.World.{WorldState, first_world}
use Rattle.cluster_core.specs.rule.Next.{next}
use Rattle.cluster_core.specs.rule.Runs.{Leads}
use Rattle.cluster_core.specs.rule.Safe.{IsSafe}
use Rattle.cluster_core.specs.rule.Histories.{HasHistory, EachAtItsPlace, EveryRunHasAHistory}
use Rattle.cluster_core.specs.rule.Evidence.{EveryDenialHasEvidence, EveryGrantServes, NoWaitIsDenied}
use Rattle.cluster_core.specs.code.Calls.{slots_of, items_in, history_of}
use Rattle.cluster_core.specs.rule.Plain.{EveryRunHasAPlainHistory}
use Rattle.cluster_core.proofs.tokens.Covering.{Covered, first_covered}
use Rattle.cluster_core.proofs.tokens.Served.{all_covered, next_covered}
use Rattle.cluster_core.proofs.tokens.Unbarred.{safe_of}
use Rattle.cluster_core.proofs.tokens.Present.{Present}
use Rattle.cluster_core.proofs.tokens.Apart.{next_present, present_first, present_apart, numbers_tell, answers_counted, remembered_sent}
use Rattle.cluster_core.proofs.tokens.Epochs.{EndsOf}
use Rattle.cluster_core.specs.rule.Numbers.{NoNumberIsUsedTwice}
use Rattle.cluster_core.proofs.tokens.Heard.{IsHeard}
use Rattle.cluster_core.proofs.history.Plain.{plain_slots}
use Rattle.cluster_core.proofs.steps.NodeTokens.{all_among}
use Rattle.cluster_core.proofs.history.Witnesses.{Backed}
use Rattle.cluster_core.proofs.history.Worlds.{Good}
use Rattle.cluster_core.proofs.history.Pasts.{AllOwn, good_after, kept_after, safe_after, history_after, plain_after, evidence_after, no_wait_after}

-- tokens, rows and messages fit, and locks are covered
pub record IsCovered (w : WorldState) : Type 0 where
  pub present : Present w
  pub covered : (n : ℕ) → Covered (w.nodes n)

covered_first : (shape : ShapeFields) → IsCovered (first_world shape)
covered_first shape = record { present = present_first shape; covered = λ n. first_covered shape n 1 }

covered_next : (w : WorldState) → AllOwn w → ((n : ℕ) → EndsOf (w.nodes n)) → IsCovered w → (event : Event) (p : WorldState × Entry) → next w event ≡ Ok p → IsCovered p.0
covered_next w own ends c event p h = record { present = next_present w c.present ends event p h; covered = next_covered w event p (λ n. (own n).locks) c.covered h }

covered_heard : (w : WorldState) → IsCovered w → IsHeard w
covered_heard w c = record {
  safe = safe_of w (present_apart w c.present) (all_covered w c.covered);
  answers = λ n file m there h. (remembered_sent w c.present file n m h).0;
  counted = λ n file number call lock there sent. (answers_counted w c.present file n number (Conflict file number (host (w.nodes n)) call lock) sent (refl, refl, c.present.named n, refl)).0;
}

pub safe_run : (shape : ShapeFields) (es : List Entry) (w : WorldState) → IsShape shape → Leads (first_world shape) es w → IsSafe w
safe_run shape es w is l = safe_after shape is IsCovered (covered_first shape) covered_next covered_heard es w l

-- the history of a run has each call at its place
pub has_history : (shape : ShapeFields) (es : List Entry) (w : WorldState) → IsShape shape → Leads (first_world shape) es w → HasHistory shape es (history_of es) × EachAtItsPlace es (history_of es)
has_history shape es w is l = history_after shape is IsCovered (covered_first shape) covered_next covered_heard es w l

pub every_run : EveryRunHasAHistory
every_run shape es w is l =
    let h = has_history shape es w is l in
    (history_of es, h.0, h.1)

pub every_plain : EveryRunHasAPlainHistory
every_plain shape es w is l = (items_in (plain_slots (slots_of es)), plain_after shape is IsCovered (covered_first shape) covered_next covered_heard es w l)

pub every_denial : EveryDenialHasEvidence
every_denial shape es is at w file call holder number lock l told = evidence_after shape is IsCovered (covered_first shape) covered_next covered_heard (take at es) w file call holder number lock l told

pub no_wait : NoWaitIsDenied
no_wait shape es w file call holder number lock pid op at is l sent called = no_wait_after shape is IsCovered (covered_first shape) covered_next covered_heard es w file call holder number lock pid op at l sent called

-- no number is used for two commands about one file to one incarnation of a node
pub no_number : NoNumberIsUsedTwice
no_number shape es is w l = numbers_tell w (kept_after shape is IsCovered (covered_first shape) covered_next covered_heard es w l).present

-- the facts of the past and of the tokens after each run
pub good_run : (shape : ShapeFields) (es : List Entry) (w : WorldState) → IsShape shape → Leads (first_world shape) es w → Good shape es w × Present w
good_run shape es w is l = (good_after shape is IsCovered (covered_first shape) covered_next covered_heard es w l, (kept_after shape is IsCovered (covered_first shape) covered_next covered_heard es w l).present)

pub every_grant : EveryGrantServes
every_grant shape es w file number call mode span is l sent =
    (all_among (Backed shape es w) w.sent (Grant file number call mode span) (good_run shape es w is l).0.backed sent).1
