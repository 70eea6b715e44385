use Rattle.std.proofs.Common.{◌≡◌}
use Rattle.std.specs.Arc.{arc_value}
use Rattle.mt_examples.specs.Sending.{IsNext}
use Rattle.mt_examples.proofs.queues.send_all.Given as goal

abbrev pub invariant-turns : goal.invariant-turns
invariant-turns g l = record {
  next : IsNext l.number l.sender;
  space : (arc_value l.held).space ≡ 1;
  number : (arc_value l.held).number ≡ l.number;
}
