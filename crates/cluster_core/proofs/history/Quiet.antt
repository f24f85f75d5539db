-- Items that leave the table as it was, and the replies of calls that are denied.
use Rattle.std.proofs.Common.{◌≡◌, sym, subst, List, [], ◌∷◌, ◌++◌, Some}
use Rattle.std.proofs.lemmas.Option.{none-some, same_Some}
use Rattle.model.specs.declared.lock_info.LockInfo.{LockInfo}
use Rattle.model.specs.declared.process.Process.{Process}
use Rattle.model.specs.declared.op.Op.{Op}
use Rattle.model.specs.declared.reply.Reply.{Reply}
use Rattle.model.specs.declared.reply.Reply.TheVariants.{Again, Blocked}
use Rattle.model.specs.rule.Replay.{NamesNoLock}
use Rattle.model.specs.rule.Table.{Table}
use Rattle.model.specs.rule.Step.{Step}
use Rattle.model.proofs.ReadOnly.{only_done_change}
use Rattle.model.specs.declared.op.LockCommand.{LockCommand}
use Rattle.model.specs.declared.op.LockCommand.TheVariants as lock_command
use Rattle.node_core.specs.rule.Try.{refusal_of}
use Rattle.cluster_core.specs.declared.item.Item.{Item}
use Rattle.cluster_core.specs.rule.Histories.{caller, ItemStep, Legal, IsReadOnly, moved, QuietItemsMayStandEarlier}

-- the reply to a call that is denied names a lock
pub refusal_names : (i : LockCommand) (lock : LockInfo) (reply : Reply) → refusal_of i lock ≡ Some reply → NamesNoLock reply → ⊥
refusal_names lock_command.Set lock reply is none = (none lock).0 (same_Some (Again lock) reply is)
refusal_names lock_command.Wait lock reply is none = none-some reply is
refusal_names lock_command.Query lock reply is none = (none lock).1 (same_Some (Blocked lock) reply is)

-- a call that names a lock leaves the table as it was
pub again_stays : (t u : Table) (p : Process) (op : Op) (lock : LockInfo) → Step t p op (Again lock) u → u ≡ t
again_stays t u p op lock h = only_done_change t u p op (Again lock) tt h

pub blocked_stays : (t u : Table) (p : Process) (op : Op) (lock : LockInfo) → Step t p op (Blocked lock) u → u ≡ t
blocked_stays t u p op lock h = only_done_change t u p op (Blocked lock) tt h

-- items with one more, which the table there allows and which leaves it
put_in : (t m u : Table) (xs ys : List Item) (i : Item) → Legal t xs m → Legal m ys u → ItemStep m i m → Legal t (xs ++ i ∷ ys) u
put_in t m u [] ys i before after quiet = (m, subst (λ (x : Table). ItemStep x i m) (sym before) quiet, after)
put_in t m u (x ∷ xs) ys i before after quiet = (before.0, before.1, put_in before.0 m u xs ys i before.2 after quiet)

-- items without one that leaves the table as it was
taken_out : (m u : Table) (ys zs : List Item) (i : Item) → Legal m (ys ++ i ∷ zs) u → IsReadOnly i → Legal m (ys ++ zs) u
taken_out m u [] zs i legal quiet = subst (λ (x : Table). Legal x zs u) (quiet m legal.0 legal.1) legal.2
taken_out m u (y ∷ ys) zs i legal quiet = (legal.0, legal.1, taken_out legal.0 u ys zs i legal.2 quiet)

pub quiet_earlier : QuietItemsMayStandEarlier
quiet_earlier = record {
  moves = λ t m u xs ys zs i to before after quiet here. put_in t m u xs (ys ++ zs) (moved to i) before (taken_out m u ys zs i after quiet) here;
  again = λ at id pid op lock old new step. again_stays old new (caller id pid) op lock step.1;
  blocked = λ at id pid op lock old new step. blocked_stays old new (caller id pid) op lock step.1;
}
