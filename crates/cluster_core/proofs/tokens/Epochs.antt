-- Numbers of commands by the epochs of their servers.
use Rattle.std.specs.Prelude.{nat_lt}
use Rattle.std.proofs.Common.{◌≡◌, ℕ, zero, ◌+◌, ◌-◌, ◌*◌, ◌/◌, ◌<◌, ◌≤◌, if◌then◌else◌, arith, le-div_iff_mul-le, None}
use Rattle.std.proofs.Math.Nat.{div-lt_iff_lt-mul}
use Rattle.messages.specs.rule.Shapes.{before_epoch, begin_of}
use Rattle.messages.proofs.Reports.{Ends}
use Rattle.cluster_core.proofs.common.Choices.{if_either, at_number}
use Rattle.node_core.specs.rule.State.{FileState, NodeState}
use Rattle.node_core.specs.rule.Commands.{renewed, in_epoch as entered}
use Rattle.cluster_core.proofs.tokens.Talks.{in_epoch}

-- the epoch of a number begins no later than the one that the number is below the end of
pub begin_of_upto : (number epoch : ℕ) → number < before_epoch epoch + in_epoch → begin_of number ≤ before_epoch epoch
begin_of_upto number epoch under =
    let some : zero < 4294967296 = omega arith in
    let under_all : number < (epoch - 1 + 1) * 4294967296 = omega arith in
    let below : number / 4294967296 < epoch - 1 + 1 = (div-lt_iff_lt-mul some).1 under_all in
    omega arith

-- the epoch of a number begins no earlier than the one that begins at the number or before it
pub begin_of_from : (number epoch : ℕ) → before_epoch epoch ≤ number → before_epoch epoch ≤ begin_of number
begin_of_from number epoch from =
    let some : zero < 4294967296 = omega arith in
    let above : epoch - 1 ≤ number / 4294967296 = (le-div_iff_mul-le some).1 from in
    omega arith

-- the next epoch begins where this one ends
pub next_epoch : (epoch : ℕ) → 1 ≤ epoch → before_epoch (epoch + 1) ≡ before_epoch epoch + in_epoch
next_epoch epoch from = omega arith

-- no token of the node has a byte after the last of a file
abbrev pub EndsOf : NodeState → Type 0
EndsOf s = (file : ℕ) → Ends (s.files file).token

-- hearing of an epoch changes no token
pub entered_ends : (s : NodeState) (file number : ℕ) → EndsOf s → EndsOf (entered s file number)
entered_ends s file number ends f =
    let x = s.files file in
    at_number f file (λ b. Ends (if b then renewed x number else s.files f).token)
    (λ same. if_either (λ (y : FileState). Ends y.token) (nat_lt x.last (begin_of number)) (record x { last = begin_of number; answer = None }) x (ends file) (ends file))
    (λ other. ends f)
