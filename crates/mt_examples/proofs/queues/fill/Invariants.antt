use Rattle.std.proofs.Common.{◌≡◌}
use Rattle.mt_examples.specs.Sending.{IsNext}
use Rattle.mt_examples.proofs.queues.fill.Given as goal

abbrev pub invariant-posts : goal.invariant-posts
invariant-posts g l = record {
  next : IsNext l.number l.sender;
  line : l.sender.line ≡ l.initial.sender.line;
}
