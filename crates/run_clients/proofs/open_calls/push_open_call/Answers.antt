use Rattle.std.proofs.Common.{◌≡◌, sym, ◌∙◌, ap, List, ◌++◌, None}
use Rattle.std.proofs.lemmas.Result.{on_ok_weaker}
use Rattle.model.specs.declared.reply.Reply.TheVariants.{Done}
use Rattle.cluster_core.specs.rule.Histories.{caller}
use Rattle.fcntl_table.specs.rule.Tables.{table_of}
use Rattle.run_clients.specs.code.Times.{last_of, name_of}
use Rattle.run_clients.specs.declared.deed.Deed.{Deed}
use Rattle.run_clients.specs.rule.Seen.{listed, lock_deed}
use Rattle.run_clients.proofs.LastCalls.{opened, opened_answered, opened_followed, opened_unnoted}
use Rattle.run_clients.proofs.open_calls.push_open_call.Goals as goal

pub returns-then-is_answered : goal.returns-then-is_answered
returns-then-is_answered c = λ es before there next are.
    opened_answered es (table_of c.args.table.now) c.args.times.now c.args.position before c.args.entry.now there next are c.in-Some.made (sym c.made_by.ensures.made ∙ c.in-Some.is) (sym c.is_answered.ensures ∙ c.if-is_answered.true) c.args.seen.now.items

pub returns-in_default-last_call : goal.returns-in_default-last_call
returns-in_default-last_call c = λ es before there next are.
    let made = c.in-Some.made in
    let none : last_of c.args.times.now.lasts (name_of (caller made.id made.pid)) ≡ None = cc in
    opened_unnoted es (table_of c.args.table.now) c.args.times.now c.args.position before c.args.entry.now there next are made (sym c.made_by.ensures.made ∙ c.in-Some.is) none c.args.seen.now.items

pub returns-then-position-last : goal.returns-then-position-last
returns-then-position-last c = λ es before there next are.
    opened_followed es (table_of c.args.table.now) c.args.times.now c.args.position before c.args.entry.now there next are c.in-Some.made (sym c.made_by.ensures.made ∙ c.in-Some.is) c.in-Some-last_call.last (sym c.last_call.ensures ∙ c.in-Some-last_call.is) c.if-position-last.true c.args.seen.now.items

pub returns : goal.returns
returns c = on_ok_weaker c.push_calls.result (λ added es before there next are.
    let made = c.in-Some.made in
    opened es (table_of c.args.table.now) c.args.times.now c.args.position before c.args.entry.now there next are made (sym c.made_by.ensures.made ∙ c.in-Some.is) c.made_by.ensures.named (sym c.is_answered.ensures ∙ c.if-is_answered.false)
    c.in-Some-last_call.last (sym c.last_call.ensures ∙ c.in-Some-last_call.is) c.if-position-last.false c.in-Some-process_of.ensures.process
    c.in-Some-process_of.process c.as_slice.result.now c.args.seen.now.items c.push_calls.new.seen.items c.in-Some-process_of.ensures.value
    (c.as_slice.ensures.value ∙ (c.in_ok-push_lock_deed.ensures ∙ ap (λ (ds : List Deed). ds ++ listed (lock_deed (table_of c.args.table.now) c.in-Some-process_of.process made.op Done)) c.new-deeds.ensures.items)) added) c.push_calls.ensures
