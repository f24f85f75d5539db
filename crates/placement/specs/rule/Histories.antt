-- Histories as values.
use Rattle.std.specs.Prelude.{List}
use Rattle.messages.specs.declared.version.Version.{Version}
use Rattle.cluster_core.specs.declared.item.Item.{Item}

-- a history: the version of its cluster, and its items in their order
pub record HistoryParts : Type 0 where
  pub version : Version
  pub items : List Item
