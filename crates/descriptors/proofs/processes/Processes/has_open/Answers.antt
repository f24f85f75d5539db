use Rattle.std.proofs.Common.{◌≡◌, ◌∙◌, ap, sym, arith}
use Rattle.model.specs.rule.Descriptors.{is_of_file}
use Rattle.model.proofs.SearchLaws.{failed-start, failed-more, some_passes-found, some_passes-none}
use Rattle.descriptors.specs.rule.Rows.{processes}
use Rattle.descriptors.proofs.processes.Processes.has_open.Goals as goal

pub loop-fd-init : goal.loop-fd-init
loop-fd-init c = failed-start _ _

pub loop-fd-preserved : goal.loop-fd-preserved
loop-fd-preserved c =
    let here : c.is_of_file.result ≡ is_of_file c.args.file ((processes c.args.self.now).opened c.args.pid c.loop-fd.fd) = c.is_of_file.ensures ∙ ap (is_of_file c.args.file) c.opened.ensures.value in
    failed-more _ _ _ c.loop-fd.invariant (sym here ∙ c.if-is_of_file.false)

pub returns-then-is_of_file : goal.returns-then-is_of_file
returns-then-is_of_file c =
    let here : c.is_of_file.result ≡ is_of_file c.args.file ((processes c.args.self.now).opened c.args.pid c.loop-fd.fd) = c.is_of_file.ensures ∙ ap (is_of_file c.args.file) c.opened.ensures.value in
    sym (some_passes-found _ 0 64 c.loop-fd.fd (omega arith) (omega arith) (sym here ∙ c.if-is_of_file.true))

pub returns : goal.returns
returns c = sym (some_passes-none _ 0 64 c.loop-fd.fd c.loop-fd.invariant (omega arith))
