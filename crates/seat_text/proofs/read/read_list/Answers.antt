use Rattle.std.proofs.Common.{sym, ◌∙◌, append_assoc}
use Rattle.seat_text.specs.rule.Logs.{list_head, listed_texts}
use Rattle.seat_text.proofs.Reading.{ends_so}
use Rattle.seat_text.proofs.read.read_list.Goals as goal

pub returns : goal.returns
returns c =
    let made = c.in_ok-read_changes.ensures in
    let torn = c.torn_end-torn.ensures in
    record {
      listed = made.0;
      torn = c.torn_end-torn.result.now;
      parts =
          ends_so c.args.text.now torn.whole c.torn_end-torn.result.now (list_head c.in-Some.nodes c.in-Some.files) c.list_head.new.self.text.now (listed_texts 0 made.0) c.read_changes.new.reader.text.now
          torn.parts (sym c.new-reader.ensures ∙ c.in-Some.ensures) made.1 made.2
          ∙ sym (append_assoc (list_head c.in-Some.nodes c.in-Some.files) (listed_texts 0 made.0) c.torn_end-torn.result.now);
      is_torn = torn.is_torn;
      told = made.3;
    }
