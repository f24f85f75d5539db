use Rattle.history_text.specs.declared.known_names.KnownNames.{KnownNames}
use Rattle.history_text.specs.code.Readings.{Learns}
use Rattle.history_text.proofs.OwnerLaws.{learns_both}
use Rattle.history_text.proofs.known_names.KnownNames.caller.Goals as goal

pub begin_call-requires-clause-owners : goal.begin_call-requires-clause-owners
begin_call-requires-clause-owners c = (c.in_ok-owner.ensures.learns 0).sound.owners

pub returns-in-Ok-clause-learns : goal.returns-in-Ok-clause-learns
returns-in-Ok-clause-learns c = λ line.
    let mid : KnownNames = c.named_owner.new.self in
    let end : KnownNames = record { owners = c.begin_call.new.self; files = mid.files } in
    let first : Learns line c.args.self.now mid = c.in_ok-owner.ensures.learns line in
    let second : Learns line mid end = record {
      sound = record { owners = c.in-Ok.ensures.owners; files = first.sound.files };
      extends = c.in-Ok.ensures.extends;
      lives = λ lines within all. c.in-Ok.ensures.lives lines all;
    } in
    learns_both line c.args.self.now mid end first second
