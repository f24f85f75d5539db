use Rattle.std.proofs.Common.{string_bytes}
use Rattle.player.specs.code.Rounds.{state_of}
use Rattle.replay.proofs.Sections.{listing_goes_on}
use Rattle.replay.proofs.run.listing_of.Goals as goal

pub returns : goal.returns
returns c =
    let told = c.in_ok-push_history_of.ensures in
    listing_goes_on (state_of (record { journal = c.args.journal.now; world = c.args.world; refused = c.args.refused.now })) (string_bytes c.in_ok-text.text) told.0 (string_bytes c.push_history_of.new.out) c.in_ok-text.ensures told.1 told.2
