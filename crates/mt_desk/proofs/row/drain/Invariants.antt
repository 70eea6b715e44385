use Rattle.std.proofs.Common.{◌≡◌, ◌≤◌, ◌+◌, ◌++◌, List, length}
use Rattle.std.specs.Prelude.{vec_capacity}
use Rattle.mt_events.specs.Posts.{PostView}
use Rattle.mt_queue.specs.PassViews.{values}
use Rattle.mt_desk.proofs.row.drain.Given as goal

-- what was taken out so far, and room for the rest
abbrev pub invariant-left : goal.invariant-left
invariant-left g l = record {
  line : l.tail.line ≡ l.initial.tail.line;
  capacity : l.tail.capacity ≡ l.initial.tail.capacity;
  sent : l.tail.sent ≡ l.initial.tail.sent;
  out : l.initial.tail.taken ++ values l.left.items ≡ l.tail.taken;
  room : (rest : List PostView) × (l.tail.sent ≡ l.tail.taken ++ rest) × (length l.left.items + length rest ≤ vec_capacity l.left);
}
