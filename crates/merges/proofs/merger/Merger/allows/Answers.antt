use Rattle.std.proofs.Common.{◌<◌, ◌-◌, arith}
use Rattle.std.proofs.lemmas.Bool.Decides.{nat_tests}
use Rattle.merges.specs.code.Merging.{fields_of}
use Rattle.merges.proofs.Floors.{allows_no}
use Rattle.merges.proofs.merger.Merger.allows.Goals as goal

pub returns-clause-no : goal.returns-clause-no
returns-clause-no c refused exact =
    let above : c.args.self.now.floor < c.args.began - c.args.self.now.skew = grind (arith, nat_tests, refused, c.saturating_sub.ensures) in
    allows_no (fields_of c.args.self.now) c.args.began (omega (arith, c.ranges.began)) above exact
