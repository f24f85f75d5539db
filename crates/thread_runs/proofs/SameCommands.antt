-- The derived `==` of commands, of lines and of what was asked for.
use Rattle.std.specs.Prelude.{ℕ, ◌&&◌, ◌==◌}
use Rattle.std.proofs.Common.{◌≡◌, Decides, rules, arith, refl}
use Rattle.std.proofs.lemmas.Bool.{false≢true}
use Rattle.std.proofs.lemmas.Bool.Decides.{Decides-at, Decides-eqb, Decides-like}
use Rattle.std.proofs.lemmas.Grind.{common_steps}
use Rattle.model.specs.declared.op.Op.{Op}
use Rattle.model.specs.contracts.op.OpPartialEq.TheImpl as derived_of_ops
use Rattle.messages.proofs.SameMessages.{both, op_eq-Decides}
use Rattle.lockscript.specs.declared.script_line.ScriptCommand.{ScriptCommand}
use Rattle.lockscript.specs.declared.script_line.ScriptCommand.TheVariants.{Call, Deliver, Lose, Settle, Interrupt, Retry, Resend, Declare, Restart, Learn, FailServer, StartServer}
use Rattle.lockscript.specs.contracts.script_line.ScriptCommandPartialEq.TheImpl as derived
use Rattle.lockscript.specs.contracts.script_line.ScriptLinePartialEq.TheImpl as derived_of_lines
use Rattle.lockscript.specs.rule.Scripts.{LineFields}
use Rattle.thread_runs.specs.declared.indexed_command.IndexedCommand.{IndexedCommand}
use Rattle.thread_runs.specs.contracts.indexed_command.IndexedCommandPartialEq.TheImpl as derived_of_asked

call_parts : (node pid n p : ℕ) (op o : Op) → derived.ghosts.eq (Call node pid op) (Call n p o) ≡ ((node == n) && ((pid == p) && derived_of_ops.ghosts.eq op o))
call_parts node pid n p op o = search rules

-- the derived `==` of commands is equality
pub command_eq-Decides : (a b : ScriptCommand) → Decides (derived.ghosts.eq a b) (a ≡ b)
command_eq-Decides (Call node pid op) (Call n p o) =
    Decides-at _ _ (call_parts node pid n p op o)
    (Decides-like _ (λ (nodes, (pids, ops)) i. Call (nodes i) (pids i) (ops i)) (λ e. (cc, (cc, cc)))
    (both (Decides-eqb node n) (both (Decides-eqb pid p) (op_eq-Decides op o))))
command_eq-Decides (Deliver message) (Deliver m) = grind (arith, common_steps)
command_eq-Decides (Lose message) (Lose m) = grind (arith, common_steps)
command_eq-Decides Settle Settle = (λ h. refl, λ e. refl)
command_eq-Decides (Interrupt node pid) (Interrupt n p) = grind (arith, common_steps)
command_eq-Decides (Retry node pid) (Retry n p) = grind (arith, common_steps)
command_eq-Decides (Resend file) (Resend f) = grind (arith, common_steps)
command_eq-Decides (Declare node) (Declare n) = grind (arith, common_steps)
command_eq-Decides (Restart node) (Restart n) = grind (arith, common_steps)
command_eq-Decides (Learn file node incarnation) (Learn f n i) = grind (arith, common_steps)
command_eq-Decides (FailServer file) (FailServer f) = grind (arith, common_steps)
command_eq-Decides (StartServer file) (StartServer f) = grind (arith, common_steps)
command_eq-Decides _ _ = (λ h. absurd (false≢true h), λ e. cc)

asked_parts : (a b : IndexedCommand) → derived_of_asked.ghosts.eq a b ≡ ((a.index == b.index) && derived.ghosts.eq a.command b.command)
asked_parts a b = search rules

-- the derived `==` of commands with indexes is equality
pub asked_eq-Decides : (a b : IndexedCommand) → Decides (derived_of_asked.ghosts.eq a b) (a ≡ b)
asked_eq-Decides a b =
    Decides-at _ _ (asked_parts a b)
    (Decides-like _ (λ (indices, commands) i. record { index = indices i; command = commands i }) (λ e. (cc, cc))
    (both (Decides-eqb a.index b.index) (command_eq-Decides a.command b.command)))

line_parts : (a b : LineFields) → derived_of_lines.ghosts.eq a b ≡ ((a.number == b.number) && derived.ghosts.eq a.command b.command)
line_parts a b = search rules

-- the derived `==` of lines is equality
pub line_eq-Decides : (a b : LineFields) → Decides (derived_of_lines.ghosts.eq a b) (a ≡ b)
line_eq-Decides a b =
    Decides-at _ _ (line_parts a b)
    (Decides-like _ (λ (numbers, commands) i. record { number = numbers i; command = commands i }) (λ e. (cc, cc))
    (both (Decides-eqb a.number b.number) (command_eq-Decides a.command b.command)))
