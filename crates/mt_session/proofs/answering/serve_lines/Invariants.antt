use Rattle.std.proofs.Common.{◌≡◌, IsTrue, [], None, ◌≤◌}
use Rattle.mt_lines.specs.Reading.{known_left, failed_calls, last_faults, limit_of, fault_of}
use Rattle.mt_session.specs.Session.{line_limit}
use Rattle.mt_session.specs.Answering.{ServesLines}
use Rattle.mt_session.proofs.answering.serve_lines.Given as goal

-- so many lines were served, and the session goes on
abbrev pub invariant-lines : goal.invariant-lines
invariant-lines g l = record {
  read : IsTrue g.I.Input.counts → failed_calls l.initial.lines ≤ failed_calls l.lines;
  read_run : IsTrue g.I.Input.counts → last_faults l.initial.lines ≡ [] → last_faults l.lines ≡ [];
  failed : IsTrue g.W.Output.counts → g.W.Output.failed l.initial.writer ≤ g.W.Output.failed l.writer;
  cut_run : IsTrue g.W.Output.counts → g.W.Output.faults l.initial.writer ≡ [] → g.W.Output.faults l.writer ≡ [];
  ready : g.A.Answers.is_ready l.place;
  fresh : fault_of l.lines ≡ None;
  limit : limit_of l.lines ≡ line_limit;
  served : ServesLines g.A.Answers.answers l._count (known_left l.initial.lines) (l.initial.place, l.initial.session) (g.W.Output.contents l.initial.writer) (known_left l.lines) (l.place, l.session) (g.W.Output.contents l.writer);
}
