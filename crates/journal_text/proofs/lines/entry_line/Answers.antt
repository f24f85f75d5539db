use Rattle.std.proofs.Common.{Some, None}
use Rattle.std.specs.Fmt.{decimal}
use Rattle.texts.proofs.Pairs.{reads-first_none, reads-pair, reads-pair_none}
use Rattle.message_text.proofs.NameTexts.{none-of}
use Rattle.journal_text.specs.rule.Events.{IsServedEvent, named_text}
use Rattle.journal_text.specs.rule.Lines.{IsPosition}
use Rattle.journal_text.proofs.LineKinds.{entries, position}
use Rattle.journal_text.proofs.lines.entry_line.Goals as goal

pub returns-in_err-word : goal.returns-in_err-word
returns-in_err-word g c =
    let version = g.V.Edition.version in
    rw c.from_residual.ensures (none-of (entries version) c.args.text.now (reads-pair_none decimal (named_text version) IsPosition (IsServedEvent version) c.args.text.now position.words c.in_err-word.ensures))

pub returns-in_err-position : goal.returns-in_err-position
returns-in_err-position g c =
    let version = g.V.Edition.version in
    let split = c.in_ok-word in
    rw c.from_residual-in_err-position.ensures
    (none-of (entries version) c.args.text.now (reads-first_none decimal (named_text version) IsPosition (IsServedEvent version) c.args.text.now split.word.now split.rest.now position.words split.ensures.0 split.ensures.1 c.in_err-position.ensures))

pub returns-in_err-event : goal.returns-in_err-event
returns-in_err-event g c =
    let version = g.V.Edition.version in
    let split = c.in_ok-word in
    rw c.from_residual-in_err-event.ensures
    (none-of (entries version) c.args.text.now (reads-pair decimal (named_text version) IsPosition (IsServedEvent version) c.args.text.now split.word.now split.rest.now position.words split.ensures.0 split.ensures.1 (Some c.in_ok-position.position) None c.in_ok-position.ensures c.in_err-event.ensures))
