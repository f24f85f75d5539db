use Rattle.std.proofs.Common.{rules, refl}
use Rattle.seat_text.specs.declared.parts.Parts.{Parts}
use Rattle.seat_text.proofs.Taking.{closes}
use Rattle.seat_text.proofs.parts.Parts.close.Goals as goal

pub returns : goal.returns
returns c =
    let was = c.args.self.now in
    let b : Parts = record { alloc = was.alloc; actor = was.actor; current = c.take.new.self; entries = c.replace-entries.new.dest; last = was.last; logs = c.push.new.self; changes = was.changes; moment = was.moment } in
    closes was b c.in-Some.incarnation c.in-Some-new.log c.requires (search rules) (search rules) refl (search rules) (search rules) refl refl (search rules)
