-- The processes of one node, their descriptors, and the calls that change only these.
use Rattle.std.specs.Prelude.{ℕ, Bool, true, false, not, ◌&&◌, ◌==◌, nat_lt, if◌then◌else◌, Option, Some, None, is_none, Result, Ok, Err}
use Rattle.intervals.specs.rule.Search.{first, some_passes}
use Rattle.model.specs.declared.access.Access.{Access}
use Rattle.model.specs.declared.op.ProcessCall.{ProcessCall}
use Rattle.model.specs.declared.op.ProcessCall.TheVariants.{Spawn, Fork, Open, Dup}
use Rattle.model.specs.declared.opened.Opened.{Opened}
use Rattle.model.specs.declared.reply.Reply.{Reply}
use Rattle.model.specs.declared.reply.Reply.TheVariants.{Done, Fd, NoProcess, Exists, BadFd, TooManyFiles}
use Rattle.model.specs.rule.Limits.{most_processes, most_descriptors, most_descriptions}

-- the processes that run on a node in one incarnation, and what each of their descriptors refers to
pub record Processes : Type 0 where
  pub runs : ℕ → Bool
  pub opened : ℕ → ℕ → Option Opened

abbrev pub no_processes : Processes
no_processes = record { runs = λ pid. false; opened = λ pid fd. None }

-- the processes after one of them is set to run or not, with the given descriptors
abbrev pub with_process : Processes → ℕ → Bool → (ℕ → Option Opened) → Processes
with_process ps pid runs fds = record {
  runs = λ q. if q == pid then runs else ps.runs q;
  opened = λ q fd. if q == pid then fds fd else ps.opened q fd;
}

-- the processes after one descriptor of one of them is set to refer to the given description, or to nothing
abbrev pub with_descriptor : Processes → ℕ → ℕ → Option Opened → Processes
with_descriptor ps pid fd o = record ps { opened = λ q k. if (q == pid) && (k == fd) then o else ps.opened q k }

-- POSIX.1-2017 open(): the lowest free descriptor of a process, or 64 where none is free
abbrev pub lowest_fd : Processes → ℕ → ℕ
lowest_fd ps pid = first (λ fd. is_none (ps.opened pid fd)) 0 most_descriptors

-- whether a descriptor's content is a reference to description d
abbrev pub is_of : ℕ → Option Opened → Bool
is_of d None = false
is_of d (Some o) = o.description == d

-- whether a descriptor's content is a reference to the file
abbrev pub is_of_file : ℕ → Option Opened → Bool
is_of_file file None = false
is_of_file file (Some o) = o.file == file

-- whether the process has a descriptor of the file
abbrev pub has_open : Processes → ℕ → ℕ → Bool
has_open ps pid file = some_passes (λ fd. is_of_file file (ps.opened pid fd)) 0 most_descriptors

-- whether some process of the node has a descriptor of description d
abbrev pub is_open : Processes → ℕ → Bool
is_open ps d = some_passes (λ pid. some_passes (λ fd. is_of d (ps.opened pid fd)) 0 most_descriptors) 1 most_processes

-- the lowest number, from 1, that no open description of the node has: at most 16,384 while some process has a free descriptor
abbrev pub lowest_description : Processes → ℕ
lowest_description ps = first (λ d. not (is_open ps d)) 1 most_descriptions

-- spawn: the process begins, with no descriptors
abbrev pub after_spawn : Processes → ℕ → Result (Processes × Reply) Reply
after_spawn ps pid = if ps.runs pid then Err Exists else Ok (with_process ps pid true (λ fd. None), Done)

-- POSIX.1-2017 fork(): the child begins with the caller's descriptors, each on the same description as in the caller
abbrev pub after_fork : Processes → ℕ → ℕ → Result (Processes × Reply) Reply
after_fork ps pid child =
    if ps.runs pid
    then (if ps.runs child then Err Exists else Ok (with_process ps child true (ps.opened pid), Done))
    else Err NoProcess

-- the descriptor fd, the lowest free one, gets to refer to o; where none is free the call is refused
abbrev pub on_lowest_fd : Processes → ℕ → Opened → ℕ → Result (Processes × Reply) Reply
on_lowest_fd ps pid o fd = if nat_lt fd most_descriptors then Ok (with_descriptor ps pid fd (Some o), Fd fd) else Err TooManyFiles

-- POSIX.1-2017 open(): a new description, on the lowest free descriptor
abbrev pub after_open : Processes → ℕ → ℕ → Access → Result (Processes × Reply) Reply
after_open ps pid file access =
    if ps.runs pid
    then on_lowest_fd ps pid (record { file = file; description = lowest_description ps; access = access }) (lowest_fd ps pid)
    else Err NoProcess

-- the lowest free descriptor gets to refer to what another descriptor refers to, if that one is open
abbrev pub again_on : Processes → ℕ → Option Opened → Result (Processes × Reply) Reply
again_on ps pid None = Err BadFd
again_on ps pid (Some o) = on_lowest_fd ps pid o (lowest_fd ps pid)

-- POSIX.1-2017 dup(): the lowest free descriptor gets to refer to the same description as fd
abbrev pub after_dup : Processes → ℕ → ℕ → Result (Processes × Reply) Reply
after_dup ps pid fd = if ps.runs pid then again_on ps pid (ps.opened pid fd) else Err NoProcess

-- what the call of the process makes of the processes, and its reply; or the reply that refuses it
abbrev pub after : Processes → ℕ → ProcessCall → Result (Processes × Reply) Reply
after ps pid Spawn = after_spawn ps pid
after ps pid (Fork child) = after_fork ps pid child
after ps pid (Open file access) = after_open ps pid file access
after ps pid (Dup fd) = after_dup ps pid fd
