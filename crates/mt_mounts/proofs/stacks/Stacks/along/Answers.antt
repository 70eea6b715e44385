use Rattle.std.proofs.Common.{sym, ◌∙◌}
use Rattle.indexmap.specs.IndexMap.{get}
use Rattle.mt_mounts.specs.Forest.{place_eq}
use Rattle.mt_mounts.proofs.StackLaws.{leads-follow}
use Rattle.mt_mounts.proofs.stacks.Stacks.along.Goals as goal

pub returns-then-end-most-clause-follows : goal.returns-then-end-most-clause-follows
returns-then-end-most-clause-follows c =
    let end = c.in-Some.end in
    λ next n m x step e. leads-follow next (get place_eq c.args.self.now.starts) c.args.place 0 end.steps n m c.args.place end.place e (x c.args.place end (sym c.reach_at.ensures ∙ c.in-Some.is))
