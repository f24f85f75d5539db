use Rattle.std.proofs.Common.{[], refl}
use Rattle.std.proofs.lemmas.List.Elements.{All-nil}
use Rattle.texts.specs.rule.LineFeeds.{line_feed}
use Rattle.texts.specs.rule.Reads.{Lacks}
use Rattle.history_text.specs.declared.written_history.WrittenHistory.{WrittenHistory}
use Rattle.history_text.specs.declared.history_reader.HistoryReader.{HistoryReader}
use Rattle.history_text.proofs.HistoryLaws.{is_history}
use Rattle.history_text.proofs.reading.read.Goals as goal

pub read_lines-requires : goal.read_lines-requires
read_lines-requires c = record {
  lines = [];
  parts = refl;
  single = All-nil (Lacks line_feed);
  count_is = refl;
  read = c.new-reader.ensures.read c.args.allowed;
  paired = c.new-reader.ensures.paired;
  counted_is = c.new-reader.ensures.counted;
}

pub returns : goal.returns
returns c =
    let reader : HistoryReader = c.read_lines.new.reader in
    let allowed = c.args.allowed in
    let was = c.in_ok-count.ensures in
    let ended = c.in_ok-end_files.ensures in
    let made : WrittenHistory = record {
      machines = reader.head.machines;
      owners = reader.known.owners.names;
      names = reader.known.files;
      files = c.end_files.new.files;
      counts = reader.counts;
    } in
    is_history allowed c.args.text.now c.in_ok-count.count reader was made refl refl refl ended.count (ended.ended allowed c.in_ok-count.count was.read.lives was.read.losses was.read.files)
