use Rattle.std.proofs.Common.{rules, ◌≡◌, ◌∙◌, inr, refl}
use Rattle.seat_text.specs.declared.talk.TalkEnd.TheVariants.{NoMemory}
use Rattle.seat_commands.proofs.Talks.{keeps_list}
use Rattle.seat_commands.proofs.members_command.keep_members.Goals as goal

pub returns-then-has_failed-clause-failed : goal.returns-then-has_failed-clause-failed
returns-then-has_failed-clause-failed g c =
    let ends : c.talk-end.result ≡ NoMemory = search rules in
    let register = c.new-register.ensures ∙ (λ i. record { list = c.in_ok-file-2.read.list; last = c.watch_of-watch.ensures i; keeper = c.in_ok-file-2.file }) in
    inr (keeps_list g.R.File.Write.contents g.R.File.Read.remaining c.args.line.now c.talk-end.result NoMemory c.in_ok-file.file c.in_ok-file-2.file c.in_ok-file-2.read _ c.talk-end.new.who _ _ _ _ _ _ c.in_ok-file-2.ensures.taken register ends c.talk-end.ensures)

pub returns-clause-kept : goal.returns-clause-kept
returns-clause-kept g c =
    let register = c.new-register.ensures ∙ (λ i. record { list = c.in_ok-file-2.read.list; last = c.watch_of-watch.ensures i; keeper = c.in_ok-file-2.file }) in
    keeps_list g.R.File.Write.contents g.R.File.Read.remaining c.args.line.now c.talk-end.result c.talk-end.result c.in_ok-file.file c.in_ok-file-2.file c.in_ok-file-2.read _ c.talk-end.new.who _ _ _ _ _ _ c.in_ok-file-2.ensures.taken register refl c.talk-end.ensures
