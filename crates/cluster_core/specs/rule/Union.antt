-- The live nodes together as one table.
use Rattle.std.specs.Prelude.{◌&&◌, if◌then◌else◌}
use Rattle.intervals.specs.rule.Bytes.{nothing}
use Rattle.model.specs.rule.Descriptors.{no_processes}
use Rattle.model.specs.rule.Table.{Table}
use Rattle.messages.specs.rule.Shapes.{most_regions}
use Rattle.cluster_core.specs.rule.World.{WorldState, is_alive, is_live}

-- the processes, descriptors and locks of all nodes in one table, where a node that is not alive has none
abbrev pub union : WorldState → Table
union w = record {
  limit = most_regions w.shape.version;
  on = λ node incarnation. if is_live w node incarnation then (w.nodes node).table.on node incarnation else no_processes;
  locks = λ file owner. if is_live w owner.node owner.incarnation then (w.nodes owner.node).table.locks file owner else nothing;
}

-- the processes, descriptors and locks of the nodes that are alive alone in one table
abbrev pub live_union : WorldState → Table
live_union w = record {
  limit = most_regions w.shape.version;
  on = λ node incarnation. if is_alive w node && is_live w node incarnation then (w.nodes node).table.on node incarnation else no_processes;
  locks = λ file owner. if is_alive w owner.node && is_live w owner.node owner.incarnation then (w.nodes owner.node).table.locks file owner else nothing;
}
