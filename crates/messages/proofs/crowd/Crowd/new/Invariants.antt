use Rattle.std.proofs.Common.{true}
use Rattle.messages.specs.rule.Members.{incarnation_of}
use Rattle.messages.proofs.Rules.{Begun}
use Rattle.messages.proofs.crowd.Crowd.new.Given as goal

abbrev pub invariant-loop-index : goal.invariant-loop-index
invariant-loop-index l = record {
  alive : Begun (λ m. m.alive) (λ n. true) l.nodes.items l.index;
  first : Begun (λ m. incarnation_of m.alive m.last) (λ n. 1) l.nodes.items l.index;
}
