use Rattle.std.proofs.Common.{◌∙◌, sym, ap, subst, Bool, if◌then◌else◌, Option}
use Rattle.model.specs.declared.opened.Opened.{Opened}
use Rattle.model.specs.rule.Owners.{process_owner, description_owner}
use Rattle.model.specs.rule.Locks.{without_owner, without_owner_anywhere}
use Rattle.lock_table.specs.rule.Tables.{held}
use Rattle.descriptors.specs.rule.Rows.{processes}
use Rattle.fcntl_table.specs.rule.Hosts.{Closes, process_at}
use Rattle.fcntl_table.proofs.ExitLaws.{closed-none, closed-some}
use Rattle.fcntl_table.proofs.shut.close_at.Goals as goal

pub returns-in_default : goal.returns-in_default
returns-in_default c = λ on.
    let P : Option (Opened × Bool) → Type 0 = λ closed. Closes (processes c.args.processes.now) c.args.pid c.args.fd closed (processes c.close_in.new.node) in
    closed-none on c.args.host c.args.processes.now c.close_in.new.node c.args.locks.now c.args.pid c.args.fd (subst P c.in_default.is c.close_in.ensures.closes) c.requires.runs

pub returns-then-went : goal.returns-then-went
returns-then-went c = λ on.
    let locks = held c.args.locks.now in
    let dropped = without_owner locks c.in-Some.opened.file (process_owner (process_at c.args.host c.args.pid)) in
    let anywhere = without_owner_anywhere dropped (description_owner (process_at c.args.host c.args.pid) c.in-Some.opened.description) in
    let by_owner = c.drop_owner.ensures.locks ∙ ap (without_owner locks c.in-Some.opened.file) c.owner.ensures in
    let all = c.drop_owner_anywhere.ensures.locks ∙ (λ i. without_owner_anywhere (by_owner i) (c.owner-then-went.ensures i)) in
    closed-some on c.args.host c.args.processes.now c.close_in.new.node c.args.locks.now c.drop_owner_anywhere.new.self c.args.pid c.args.fd c.in-Some.opened c.in-Some.went c.in-Some.ensures.closes (c.drop_owner_anywhere.ensures.limit ∙ c.drop_owner.ensures.limit) (all ∙ ap (λ (b : Bool). if b then anywhere else dropped) (sym c.if-went.true))

pub returns-else-went : goal.returns-else-went
returns-else-went c = λ on.
    let locks = held c.args.locks.now in
    let dropped = without_owner locks c.in-Some.opened.file (process_owner (process_at c.args.host c.args.pid)) in
    let anywhere = without_owner_anywhere dropped (description_owner (process_at c.args.host c.args.pid) c.in-Some.opened.description) in
    let by_owner = c.drop_owner.ensures.locks ∙ ap (without_owner locks c.in-Some.opened.file) c.owner.ensures in
    closed-some on c.args.host c.args.processes.now c.close_in.new.node c.args.locks.now c.drop_owner.new.self c.args.pid c.args.fd c.in-Some.opened c.in-Some.went c.in-Some.ensures.closes c.drop_owner.ensures.limit (by_owner ∙ ap (λ (b : Bool). if b then anywhere else dropped) (sym c.if-went.false))
