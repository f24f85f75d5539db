-- The limits of the operations of scripts.
use Rattle.std.specs.Prelude.{ℕ, FitsSigned, ⊤}
use Rattle.std.specs.Int.{w64}
use Rattle.model.specs.declared.op.Op.{Op}
use Rattle.model.specs.declared.op.Op.TheVariants.{Process, Close, Exit, Lock, Unlock}
use Rattle.model.specs.declared.op.ProcessCall.TheVariants.{Spawn, Fork, Open, Dup}
use Rattle.model.specs.rule.Limits.{IsNumber, most_processes}
use Rattle.messages.specs.rule.Shapes.{most_files}
use Rattle.texts.specs.rule.Reads.{IsWithin}

-- a descriptor that a script may name, open or not
abbrev pub IsDescriptor : ℕ → Type 0
IsDescriptor = IsWithin 0 255

-- the numbers of the operation are within their limits and types
abbrev pub IsServedOp : Op → Type 0
IsServedOp (Process Spawn) = ⊤
IsServedOp (Process (Fork child)) = IsNumber most_processes child
IsServedOp (Process (Open file access)) = IsNumber most_files file
IsServedOp (Process (Dup fd)) = IsDescriptor fd
IsServedOp (Close fd) = IsDescriptor fd
IsServedOp Exit = ⊤
IsServedOp (Lock call) = IsDescriptor call.fd × FitsSigned w64 call.start × FitsSigned w64 call.len
IsServedOp (Unlock fd kind start len) = IsDescriptor fd × FitsSigned w64 start × FitsSigned w64 len
