use Rattle.std.proofs.Common.{rules, ◌≡◌, ◌+◌, ◌++◌, ◌∷◌, [], codes, length}
use Rattle.journal_text.specs.rule.Journals.{end_text}
use Rattle.journal_text.specs.rule.Texts.{member_text}
use Rattle.seat_text.specs.rule.Logs.{ListedChange, listed_changes}
use Rattle.seat_text.proofs.Reading.{listed_one}
use Rattle.seat_text.proofs.read.next_change.Goals as goal

pub returns-clause-change : goal.returns-clause-change
returns-clause-change c =
    let listed : ListedChange = record { clock = c.clock-clock.result; event = c.in-Some.event; incarnation = c.in-Some.field-0-1 } in
    let number = length c.args.changes.now.items + 1 in
    let member : c.clock-clock.new.self.text.now ≡ codes "member " ++ (member_text listed.event listed.incarnation ++ (codes "\n" ++ c.member.new.self.text.now)) = search rules in
    let ends : c.member.new.self.text.now ≡ end_text number ++ (codes "\n" ++ c.ends.new.self.text.now) = search rules in
    let items : c.push.new.self.items ≡ c.args.changes.now.items ++ listed_changes (listed ∷ []) = search rules in
    (listed, listed_one c.args.reader.now.text.now c.clock-clock.new.self.text.now c.member.new.self.text.now c.ends.new.self.text.now number listed c.clock-clock.ensures member ends, items)
