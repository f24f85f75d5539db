use Rattle.std.proofs.Common.{◌∙◌, length, rules, sym, string_bytes}
use Rattle.cluster_core.specs.rule.Parts.{world_state}
use Rattle.journal_text.specs.rule.Journals.{journal_text}
use Rattle.replay.proofs.threads.shown_on_threads.Goals as goal

pub returns : goal.returns
returns c =
    let journal = c.args.run.journal in
    let text = journal_text journal.shape journal.entries in (
      record { listing = string_bytes c.in_ok-listing.listing; journal = text; answered = length c.receipts-receipts.result.now; held = c.held_in-held.result; stuck = string_bytes c.in_ok-stuck.stuck; may_go_on = c.in_ok-may_go_on.may_go_on },
      record {
        world = world_state c.args.world;
        leads = c.requires.leads;
        listed = search rules;
        printed = search rules;
        read = search rules;
        answered = search rules;
        held = search rules;
        stuck = search rules;
        none_stuck = λ some. c.in_ok-may_go_on.ensures (λ none. some (sym c.open_calls.ensures ∙ none));
      },
      (c.in_ok-shown.ensures text, search rules),
    )
