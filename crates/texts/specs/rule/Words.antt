-- The words for modes, access modes, kinds of owners, policies and levels.
use Rattle.std.specs.Prelude.{ℕ, List, codes}
use Rattle.model.specs.declared.mode.Mode.{Mode}
use Rattle.model.specs.declared.mode.Mode.TheVariants.{Read, Write}
use Rattle.model.specs.declared.access.Access.{Access}
use Rattle.model.specs.declared.access.Access.TheVariants.{ReadOnly, WriteOnly, ReadWrite}
use Rattle.model.specs.declared.owner.Kind.{Kind}
use Rattle.model.specs.declared.owner.Kind.TheVariants.{OfProcess, OfDescription}
use Rattle.model.specs.declared.policy.Policy.{Policy}
use Rattle.model.specs.declared.policy.Policy.TheVariants.{Wide, Exact}
use Rattle.model.specs.declared.level.Level.{Level}
use Rattle.model.specs.declared.level.Level.TheVariants.{Shared, Exclusive}

abbrev pub mode_text : Mode → List ℕ
mode_text Read = codes "read"
mode_text Write = codes "write"

abbrev pub access_text : Access → List ℕ
access_text ReadOnly = codes "r"
access_text WriteOnly = codes "w"
access_text ReadWrite = codes "rw"

abbrev pub kind_text : Kind → List ℕ
kind_text OfProcess = codes "proc"
kind_text OfDescription = codes "desc"

abbrev pub policy_text : Policy → List ℕ
policy_text Wide = codes "wide"
policy_text Exact = codes "exact"

abbrev pub level_text : Level → List ℕ
level_text Shared = codes "shared"
level_text Exclusive = codes "exclusive"
