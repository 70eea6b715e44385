use Rattle.std.proofs.Common.{ap, ◌∙◌}
use Rattle.std.specs.List.{list_all}
use Rattle.mt_info.specs.Steps.{is_step}
use Rattle.mt_info.proofs.PointLaws.{reversed_pass}
use Rattle.mt_info.proofs.points.Points.way_down.Goals as goal

pub returns-clause-steps : goal.returns-clause-steps
returns-clause-steps c =
    let there = is_step c.args.self.now.skel in
    ap (list_all there) c.reverse.ensures.items ∙ reversed_pass there c.way_up.new.way.items c.in_ok-above.ensures.steps
