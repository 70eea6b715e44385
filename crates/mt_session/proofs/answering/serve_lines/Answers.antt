use Rattle.std.proofs.Common.{◌+◌, refl, inl, inr, arith}
use Rattle.mt_session.specs.Answering.{ServesAll}
use Rattle.mt_session.proofs.EndLaws.{read_more, cut_more}
use Rattle.mt_session.proofs.LoopLaws.{lines_none, lines_more}
use Rattle.mt_session.proofs.answering.serve_lines.Goals as goal

pub lines-init : goal.lines-init
lines-init g c = record {
  read = λ t. omega arith;
  read_run = λ t none. none;
  failed = λ t. omega arith;
  cut_run = λ t none. none;
  ready = c.requires.ready;
  fresh = c.requires.fresh;
  limit = c.requires.limit;
  served = lines_none g.A.Answers.answers _ _ _;
}

pub lines-preserved : goal.lines-preserved
lines-preserved g c =
    let i = c.lines.invariant in
    let n = c.in_default.ensures in record {
      read = λ t. omega (arith, i.read t, n.read t);
      read_run = λ t none. n.read_run t (i.read_run t none);
      failed = λ t. omega (arith, i.failed t, n.cut t);
      cut_run = λ t none. n.cut_run t (i.cut_run t none);
      ready = n.ready;
      fresh = n.fresh refl;
      limit = n.limit;
      served = lines_more g.A.Answers.answers c.lines._count (c.lines._count + 1) _ _ _ _ _ _ _ _ _ (omega arith) i.served n.served;
    }

pub returns-in-Some-clause-served : goal.returns-in-Some-clause-served
unfolding ServesAll
returns-in-Some-clause-served g c = inl (c.lines._count, _, _, _, omega (arith, c.lines-test.true), c.lines.invariant.served, c.in-Some.ensures.served)

pub returns-in-Some-clause-read : goal.returns-in-Some-clause-read
returns-in-Some-clause-read g c t = read_more c.in-Some.end _ _ _ (c.lines.invariant.read t) (c.in-Some.ensures.read t)

pub returns-in-Some-clause-read_run : goal.returns-in-Some-clause-read_run
returns-in-Some-clause-read_run g c t none = c.in-Some.ensures.read_run t (c.lines.invariant.read_run t none)

pub returns-in-Some-clause-cut : goal.returns-in-Some-clause-cut
returns-in-Some-clause-cut g c t = cut_more c.in-Some.end _ _ _ (c.lines.invariant.failed t) (c.in-Some.ensures.cut t)

pub returns-in-Some-clause-cut_run : goal.returns-in-Some-clause-cut_run
returns-in-Some-clause-cut_run g c t none = c.in-Some.ensures.cut_run t (c.lines.invariant.cut_run t none)

pub returns-clause-served : goal.returns-clause-served
unfolding ServesAll
returns-clause-served g c = inr (c.lines._count, omega (arith, c.lines.auto._count-end, c.lines-test.false), refl, c.lines.invariant.served)
