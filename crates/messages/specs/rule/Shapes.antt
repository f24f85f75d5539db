-- The shapes and versions of clusters, and the numbers of commands through all epochs.
use Rattle.std.specs.Prelude.{ℕ, Bool, true, false, ◌≡◌, ◌+◌, ◌-◌, ◌*◌, ◌/◌, ◌<◌, ◌≤◌}
use Rattle.messages.specs.declared.version.Version.{Version}
use Rattle.messages.specs.declared.version.Version.TheVariants.{First, Second}
use Rattle.model.specs.declared.policy.Policy.{Policy}
use Rattle.model.specs.rule.Limits.{IsNumber, most_nodes}

-- the greatest number of regions of an owner in a file
abbrev pub most_regions : Version → ℕ
most_regions First = 1024
most_regions Second = 16384

-- whether token servers may fail and be rebuilt
abbrev pub may_rebuild : Version → Bool
may_rebuild First = false
may_rebuild Second = true

pub record ShapeFields : Type 0 where
  pub version : Version
  pub nodes : ℕ
  pub files : ℕ
  pub policy : Policy

-- the greatest number of files in a cluster
abbrev pub most_files : ℕ
most_files = 256

pub record IsShape (s : ShapeFields) : Type 0 where
  pub nodes_in : IsNumber most_nodes s.nodes
  pub files_in : IsNumber most_files s.files

-- a cluster may have that many nodes and that many files
abbrev pub IsServed : ℕ → ℕ → Type 0
IsServed nodes files = IsNumber most_nodes nodes × IsNumber most_files files

-- the greatest epoch of a token server; the first is 1
abbrev pub most_epochs : ℕ
most_epochs = 65535

abbrev pub IsEpoch : ℕ → Type 0
IsEpoch epoch = IsNumber most_epochs epoch

-- the count after which the commands of an epoch begin: each epoch, from 1, has 4294967296 counts
abbrev pub before_epoch : ℕ → ℕ
before_epoch epoch = (epoch - 1) * 4294967296

-- the epoch of a count
abbrev pub epoch_of : ℕ → ℕ
epoch_of number = number / 4294967296 + 1

-- the count after which the epoch of a given count begins
abbrev pub begin_of : ℕ → ℕ
begin_of number = before_epoch (epoch_of number)

-- the count of a command: it isn't the first one of an epoch, and its epoch is at most the greatest
pub record IsCommand (number : ℕ) : Type 0 where
  pub begun : begin_of number < number
  pub within : number < before_epoch (most_epochs + 1)

-- the count after which the commands of a rebuilt server's epoch begin: the epoch is from 2 to the greatest
pub record IsRebuilt (number : ℕ) : Type 0 where
  pub begins : begin_of number ≡ number
  pub rebuilt : 2 ≤ epoch_of number
  pub within : epoch_of number ≤ most_epochs
