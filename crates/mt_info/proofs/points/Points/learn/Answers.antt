use Rattle.std.proofs.Common.{◌≡◌, ◌∙◌, Some, sym, ap}
use Rattle.mt_mounts.specs.Forest.{mount_at}
use Rattle.mt_mounts.proofs.KeptLaws.{mount_fits}
use Rattle.mt_propagate.specs.declared.world.World.{World}
use Rattle.mt_propagate.specs.World.{world_view}
use Rattle.mt_info.specs.Table.{mount_point}
use Rattle.mt_info.proofs.PointLaws.{known_more}
use Rattle.mt_info.proofs.points.Points.learn.Goals.{In-Some}
use Rattle.mt_info.proofs.points.Points.learn.Goals as goal

-- a mount that is found has the ID that was sought
found : (c : In-Some) → mount_at c.args.self.now.forest.mounts c.args.id ≡ Some c.in-Some.mount
found c = sym (ap (λ (w : World). mount_at w.forest.mounts c.args.id) c.self.view_is) ∙ sym c.get.ensures ∙ c.in-Some.is

pub made-requires-clause-there : goal.made-requires-clause-there
made-requires-clause-there c =
    let ms = c.args.self.now.forest.mounts in
    let here = found (goal.at.made-requires-clause-there c).In-Some in
    ap (mount_at ms) (mount_fits ms c.args.id c.in-Some.mount here) ∙ here

pub invariant_of-self-2 : goal.invariant_of-self-2
invariant_of-self-2 c =
    known_more (world_view c.self.inside.world.now) c.self.inside.known c.insert.new.self c.args.id c.in_ok-point.point c.self.invariant
    (c.in_ok-point.ensures.point
    ∙ ap (mount_point (world_view c.args.self.now)) (mount_fits c.args.self.now.forest.mounts c.args.id c.in-Some.mount (found (goal.at.invariant_of-self-2 c).In-Some))
    ∙ ap (λ (w : World). mount_point (world_view w) c.args.id) (sym c.self.view_is))
    c.in_ok-insert.ensures.updates.0
