use Rattle.std.proofs.Common.{arith}
use Rattle.history_text.proofs.known_names.KnownNames.told.Goals as goal

pub owner_of-requires : goal.owner_of-requires
owner_of-requires c =
    let sound = (c.in_ok-number-in-Some.ensures.learns 0).sound in
    omega (arith, c.in_ok-number-in-Some.ensures.within, sound.owners.paired, sound.owners.few)
