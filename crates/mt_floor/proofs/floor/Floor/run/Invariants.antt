use Rattle.std.proofs.Common.{◌≡◌, ◌≤◌, ◌++◌, length, vec_capacity}
use Rattle.std.specs.Vec.Iter.{into_iter_items, into_iter_len}
use Rattle.mt_floor.specs.Schedule.{run, done_events, done_answers}
use Rattle.mt_floor.proofs.floor.Floor.run.Given as goal

-- the events passed were answered, and there is room for the other answers
abbrev pub invariant-events : goal.invariant-events
invariant-events l = record {
  order : l.yielded ++ into_iter_items l.event-iterator ≡ into_iter_items l.initial.event-iterator;
  left : into_iter_len l.event-iterator ≡ length (into_iter_items l.event-iterator);
  run : run l.initial.self (done_events l.yielded l.answers.items) ≡ (l.self, done_answers l.yielded l.answers.items);
  room : length (into_iter_items l.initial.event-iterator) ≤ vec_capacity l.answers;
  count : length l.answers.items ≡ length l.yielded;
}
