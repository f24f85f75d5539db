use Rattle.history_text.specs.declared.known_names.KnownNames.{KnownNames}
use Rattle.history_text.specs.code.Readings.{Learns}
use Rattle.history_text.proofs.OwnerLaws.{extends_none, learns_both}
use Rattle.history_text.proofs.known_names.KnownNames.asks.Goals as goal

pub returns-in-Ok-clause-learns : goal.returns-in-Ok-clause-learns
returns-in-Ok-clause-learns c = λ line.
    let old : KnownNames = c.args.self.now in
    let mid : KnownNames = record { owners = old.owners; files = c.number_of.new.self } in
    let first : Learns line old mid = record {
      sound = record { owners = c.requires.owners; files = c.in_ok-file.ensures.distinct };
      extends = extends_none old.owners.lives.items;
      lives = λ lines within all. all;
    } in
    learns_both line old mid c.told.new.self first (c.in-Ok.ensures.learns line)
