-- The texts of replies and operations, in scripts and listings.
use Rattle.std.specs.Prelude.{ℕ, ℤ, List, ◌++◌, codes, decimal}
use Rattle.std.specs.Fmt.{signed_decimal}
use Rattle.model.specs.declared.mode.Mode.{Mode}
use Rattle.model.specs.declared.owner.Kind.{Kind}
use Rattle.model.specs.declared.op.Op.{Op}
use Rattle.model.specs.declared.op.Op.TheVariants.{Process, Close, Exit, Lock, Unlock}
use Rattle.model.specs.declared.op.ProcessCall.TheVariants.{Spawn, Fork, Open, Dup}
use Rattle.model.specs.declared.op.LockCommand.{LockCommand}
use Rattle.model.specs.declared.op.LockCommand.TheVariants.{Set, Wait, Query}
use Rattle.texts.specs.rule.Reads.{pair_text}
use Rattle.message_text.specs.rule.Texts.{lock_text}
use Rattle.texts.specs.rule.Words.{access_text, kind_text, mode_text}
use Rattle.model.specs.declared.reply.Reply.{Reply}
use Rattle.model.specs.declared.reply.Reply.TheVariants.{Done, Fd, Again, Free, Blocked, Interrupted, NoProcess, Exists, BadFd, TooManyFiles, NoLocks, Invalid, Overflow}

abbrev pub reply_text : Reply → List ℕ
reply_text Done = codes "done"
reply_text (Fd fd) = codes "fd " ++ decimal fd
reply_text (Again lock) = codes "again " ++ lock_text lock
reply_text Free = codes "free"
reply_text (Blocked lock) = codes "blocked " ++ lock_text lock
reply_text Interrupted = codes "interrupted"
reply_text NoProcess = codes "no-process"
reply_text Exists = codes "exists"
reply_text BadFd = codes "bad-fd"
reply_text TooManyFiles = codes "too-many-files"
reply_text NoLocks = codes "no-locks"
reply_text Invalid = codes "invalid"
reply_text Overflow = codes "overflow"

-- a segment: its start and its length
abbrev pub segment_text : ℤ × ℤ → List ℕ
segment_text = pair_text signed_decimal signed_decimal

-- the operands of a call for a lock or about one: `FD KIND MODE START LEN`
abbrev pub asked_lock_text : ℕ × (Kind × (Mode × (ℤ × ℤ))) → List ℕ
asked_lock_text = pair_text decimal (pair_text kind_text (pair_text mode_text segment_text))

-- the call of a command about this lock
abbrev pub lock_of : LockCommand → ℕ × (Kind × (Mode × (ℤ × ℤ))) → Op
lock_of command f = Lock (record { command = command; fd = f.0; kind = f.1.0; mode = f.1.1.0; start = f.1.1.1.0; len = f.1.1.1.1 })

-- what it begins with
abbrev pub command_front : LockCommand → List ℕ
command_front Set = codes "set "
command_front Wait = codes "wait "
command_front Query = codes "query "

abbrev pub op_text : Op → List ℕ
op_text (Process Spawn) = codes "spawn"
op_text (Process (Fork child)) = codes "fork " ++ decimal child
op_text (Process (Open file access)) = codes "open " ++ pair_text decimal access_text (file, access)
op_text (Process (Dup fd)) = codes "dup " ++ decimal fd
op_text (Close fd) = codes "close " ++ decimal fd
op_text Exit = codes "exit"
op_text (Lock call) = command_front call.command ++ asked_lock_text (call.fd, (call.kind, (call.mode, (call.start, call.len))))
op_text (Unlock fd kind start len) = codes "unlock " ++ pair_text decimal (pair_text kind_text segment_text) (fd, (kind, (start, len)))
