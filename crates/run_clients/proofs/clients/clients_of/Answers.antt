use Rattle.std.proofs.Common.{◌≡◌, ◌+◌, refl, sym, ◌∙◌, ap, subst, List, length}
use Rattle.std.proofs.lemmas.Option.{slice_get_read}
use Rattle.model.specs.rule.Table.{empty_table}
use Rattle.messages.specs.rule.Shapes.{most_regions}
use Rattle.messages.specs.declared.entry.Entry.{Entry}
use Rattle.cluster_core.specs.rule.Union.{union}
use Rattle.cluster_core.specs.rule.Histories.{HasHistory, EachAtItsPlace}
use Rattle.fcntl_table.specs.rule.Tables.{table_of}
use Rattle.placement.proofs.Replays.{follows_start, follows_more}
use Rattle.run_clients.specs.code.Times.{AreAnchored, AreTimes}
use Rattle.run_clients.specs.rule.Seen.{HasOpened, IsSeen}
use Rattle.run_clients.proofs.EachOpen.{may_follow, seen_start, seen_more, seen_whole}
use Rattle.run_clients.proofs.Drops.{empty_anchored}
use Rattle.run_clients.proofs.LastCalls.{item_known, item_timed, each_open}
use Rattle.run_clients.proofs.Runs.{item_keeps, seen_is_explained}
use Rattle.run_clients.proofs.clients.clients_of.Goals as goal

pub loop-item-init : goal.loop-item-init
loop-item-init c =
    let version = c.args.journal.now.shape.version in
    let items = c.items-item-items.result.now in
    let first = empty_table (most_regions version) in
    let is : table_of c.new-table.result ≡ first = c.new-table.ensures ∙ ap empty_table (c.most_regions.ensures ∙ ap most_regions (c.version.ensures ∙ c.in_ok-history.ensures.version)) in
    record {
      follows = follows_start version items items (table_of c.new-table.result) refl is;
      anchored = subst AreAnchored (sym is) (empty_anchored (most_regions version));
      seen = seen_start c.args.journal.now.entries first (table_of c.new-table.result) items items c.new-seen.result.items is refl c.new-seen.ensures.items;
    }

pub see-requires-clause-may : goal.see-requires-clause-may
see-requires-clause-may c =
    let items = c.items-item-items.result.now in
    let history = subst (HasHistory c.args.journal.now.shape c.args.journal.now.entries) (sym c.items-item-items.ensures.value) c.in_ok-history.ensures.history in
    may_follow c.args.journal.now.shape.version items c.loop-item.item-index c.item-item.result (table_of c.loop-item.table) c.loop-item-test.true c.item-item.is (union history.world, history.legal) c.loop-item.invariant.follows

pub see-requires-clause-known : goal.see-requires-clause-known
see-requires-clause-known c =
    let items = c.items-item-items.result.now in
    let history = subst (HasHistory c.args.journal.now.shape c.args.journal.now.entries) (sym c.items-item-items.ensures.value) c.in_ok-history.ensures.history in
    let i = c.loop-item.item-index in
    item_known c.args.journal.now.entries c.in_ok-times.times (subst (λ (xs : List Entry). AreTimes xs c.in_ok-times.times (length xs)) c.entries.ensures.value c.in_ok-times.ensures) c.item-item.result (history.fits.placed i c.item-item.result (slice_get_read items _ i c.item-item.result refl c.loop-item-test.true c.item-item.is))

pub loop-item-preserved : goal.loop-item-preserved
loop-item-preserved c =
    let version = c.args.journal.now.shape.version in
    let es = c.args.journal.now.entries in
    let items = c.items-item-items.result.now in
    let first = empty_table (most_regions version) in
    let history = subst (HasHistory c.args.journal.now.shape es) (sym c.items-item-items.ensures.value) c.in_ok-history.ensures.history in
    let i = c.loop-item.item-index in
    let item = c.item-item.result in
    let t = table_of c.loop-item.table in
    let u = table_of c.see.new.table in
    let lt = c.loop-item-test.true in
    let step = c.in_ok-see.ensures.step in
    let seen = c.in_ok-see.ensures.seen in
    let placed = history.fits.placed i item (slice_get_read items _ i item refl lt c.item-item.is) in
    record {
      follows = follows_more version items items i t u item lt c.item-item.is c.loop-item.invariant.follows step;
      anchored = item_keeps t u item c.loop-item.invariant.anchored step;
      seen = seen_more es first t u items i item seen.0 seen.1 c.loop-item.seen.items c.see.new.seen.items lt c.item-item.is step (item_timed es c.in_ok-times.times (subst (λ (xs : List Entry). AreTimes xs c.in_ok-times.times (length xs)) c.entries.ensures.value c.in_ok-times.ensures) history.one_call history.one_reply item seen.0 seen.1 placed seen.2) seen.3 c.loop-item.invariant.seen;
    }

pub returns-clause-seen : goal.returns-clause-seen
returns-clause-seen c =
    let es = c.args.journal.now.entries in
    let items = c.items-item-items.result.now in
    let last = table_of c.loop-item.table in
    let opened = subst (λ (xs : List Entry). HasOpened xs last 0 (length xs + 1) c.loop-item.seen.items c.push_open_calls.new.seen.items) c.entries-2.ensures.value c.in_ok-push_open_calls.ensures in
    let seen : IsSeen c.args.journal.now.shape es c.push_open_calls.new.seen.items = record {
      history = items;
      is_history = subst (HasHistory c.args.journal.now.shape es) (sym c.items-item-items.ensures.value) c.in_ok-history.ensures.history;
      at_places = subst (EachAtItsPlace es) (sym c.items-item-items.ensures.value) c.in_ok-history.ensures.at_places;
      answered = c.loop-item.seen.items;
      last = last;
      calls = seen_whole es (empty_table (most_regions c.args.journal.now.shape.version)) (table_of c.loop-item.table) items c.loop-item.item-index c.loop-item.seen.items c.loop-item-test.false c.loop-item.invariant.seen;
      unanswered = opened.0;
      open_calls = each_open es last 0 (length es + 1) opened.0 opened.2;
      are = opened.1;
    } in
    (seen, opened.2)

pub returns-clause-explained : goal.returns-clause-explained
returns-clause-explained c = seen_is_explained c.args.journal.now.shape c.args.journal.now.entries c.push_open_calls.new.seen.items c.entries.ensures.few (returns-clause-seen c).0
