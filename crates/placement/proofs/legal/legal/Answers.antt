use Rattle.std.proofs.Common.{◌∙◌, ap}
use Rattle.model.specs.rule.Table.{empty_table}
use Rattle.messages.specs.rule.Shapes.{most_regions}
use Rattle.fcntl_table.specs.rule.Tables.{table_of}
use Rattle.placement.proofs.Replays.{follows_start, follows_more, follows_stuck, follows_whole}
use Rattle.placement.proofs.legal.legal.Goals as goal

pub loop-item-init : goal.loop-item-init
loop-item-init c = follows_start c.args.history.now.version c.args.history.now.items c.items-item-items.result.now (table_of c.new-table.result) c.items-item-items.ensures.value (c.new-table.ensures ∙ ap empty_table (c.most_regions.ensures ∙ ap most_regions c.version.ensures))

pub loop-item-preserved : goal.loop-item-preserved
loop-item-preserved c =
    follows_more c.args.history.now.version c.args.history.now.items c.items-item-items.result.now c.loop-item.item-index (table_of c.loop-item.table) (table_of c.follow.new.table) c.item-item.result c.loop-item-test.true c.item-item.is c.loop-item.invariant (c.in_ok-follow.ensures.leads c.if-not-branch.false)

pub returns : goal.returns
returns c = follows_whole c.args.history.now.version c.args.history.now.items c.items-item-items.result.now c.loop-item.item-index (table_of c.loop-item.table) c.loop-item-test.false c.loop-item.invariant

pub returns-then-not-branch : goal.returns-then-not-branch
returns-then-not-branch c =
    follows_stuck c.args.history.now.version c.args.history.now.items c.items-item-items.result.now c.loop-item.item-index (table_of c.loop-item.table) c.item-item.result c.loop-item-test.true c.item-item.is c.loop-item.invariant (c.in_ok-follow.ensures.stuck c.if-not-branch.true)
