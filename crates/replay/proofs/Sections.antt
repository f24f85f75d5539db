-- The sections of a listing, one after the other.
use Rattle.std.proofs.Common.{◌≡◌, ◌<◌, ◌≤◌, ◌+◌, ℕ, refl, sym, ◌∙◌, ap, List, [], ◌++◌, append_assoc, get_or, length, take, Option}
use Rattle.std.specs.Prelude.{flat_map}
use Rattle.std.specs.List.{cons_option}
use Rattle.std.proofs.lemmas.List.{take_all}
use Rattle.std.proofs.lemmas.List.Concat.{flat_map-append}
use Rattle.messages.specs.declared.entry.Entry.{Entry}
use Rattle.cluster_core.specs.declared.held_lock.HeldLock.{HeldLock}
use Rattle.cluster_core.specs.declared.item.Item.{Item}
use Rattle.cluster_core.specs.declared.node_token_run.NodeTokenRun.{NodeTokenRun}
use Rattle.cluster_core.specs.code.Calls.{items_in}
use Rattle.lockscript.specs.declared.refused_line.RefusedLine.{RefusedLine}
use Rattle.lockscript.specs.rule.Listing.{listing_text, listing_start, history_line, history_text}
use Rattle.placement.specs.declared.slot.Slot.{Slot}
use Rattle.placement.specs.code.Indexes.{stands, standing}
use Rattle.placement.proofs.Placing.{items_more}
use Rattle.player.specs.rule.Progress.{PlayedState}
use Rattle.replay.specs.rule.Audits.{IsHistoryText}
use Rattle.replay.specs.rule.Scripts.{IsListing, IsListingBegun}

-- what begins as a listing does, and goes on with the history, is the listing
whole_listing : (refused : List RefusedLine) (entries : List Entry) (tokens : List NodeTokenRun) (locks : List HeldLock) (history : List Item) (start text : List ℕ) → start ≡ listing_start refused entries tokens locks → text ≡ start ++ history_text history → text ≡ listing_text refused entries tokens locks history
whole_listing refused entries tokens locks history start text begun whole =
    whole ∙ (ap (λ (bytes : List ℕ). bytes ++ history_text history) begun ∙ simp append_assoc refl)

-- a listing that is begun, with the history of the run behind it, is the listing of the run
pub listing_goes_on : (played : PlayedState) (start told text : List ℕ) → IsListingBegun played start → IsHistoryText played.journal told → text ≡ start ++ told → IsListing played text
listing_goes_on played start told text begun h is = record {
  tokens = begun.tokens;
  locks = begun.locks;
  history = h.0;
  lists = record { tokens_at_end = begun.tokens_at_end; locks_at_end = begun.locks_at_end; safe_at_end = begun.safe_at_end; one_table = h.1; at_places = h.2 };
  sections = whole_listing played.refused played.journal.entries begun.tokens begun.locks h.0 start text begun.start (is ∙ ap (λ (bytes : List ℕ). start ++ bytes) h.3);
}

-- what stands at one more entry is told
pub item_told : (all : List Entry) (slots : List Slot) (i : ℕ) (d : Slot) (start out more : List ℕ) (o : Option Item) → i < length slots → o ≡ stands all i (get_or slots i d) → out ≡ start ++ flat_map history_line (items_in (standing all 0 (take i slots))) → more ≡ out ++ flat_map history_line (cons_option o []) → more ≡ start ++ flat_map history_line (items_in (standing all 0 (take (i + 1) slots)))
item_told all slots i d start out more o lt stood so_far told =
    let past = items_in (standing all 0 (take i slots)) in
    let lines : List Item → List ℕ = λ items. flat_map history_line items in
    told
    ∙ (ap (λ (bytes : List ℕ). bytes ++ lines (cons_option o [])) so_far
    ∙ (append_assoc start (lines past) (lines (cons_option o []))
    ∙ ap (λ (bytes : List ℕ). start ++ bytes) (sym (flat_map-append history_line past (cons_option o [])) ∙ ap lines (items_more all slots i d past o lt stood refl))))

pub items_told : (all : List Entry) (slots : List Slot) (i : ℕ) (start out : List ℕ) → length slots ≤ i → out ≡ start ++ flat_map history_line (items_in (standing all 0 (take i slots))) → out ≡ start ++ flat_map history_line (items_in (standing all 0 slots))
items_told all slots i start out past so_far = so_far ∙ ap (λ (ss : List Slot). start ++ flat_map history_line (items_in (standing all 0 ss))) (take_all i slots past)
