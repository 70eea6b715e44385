use Rattle.std.proofs.Common.{ap, ◌∙◌}
use Rattle.mt_propagate.specs.World.{world_view}
use Rattle.mt_propagate.specs.Planned.{stands, groups_at, needed_at, with_keys}
use Rattle.mt_propagate.proofs.PlansLaws.{keys-step}
use Rattle.mt_propagate.proofs.groups.new_keys.Goals as goal

pub loop-target-preserved : goal.loop-target-preserved
loop-target-preserved c =
    let w = world_view c.args.world.now in
    let home = c.args.standing.now.home in
    let p = stands c.args.standing.now in
    let ms = c.args.mounts.now in
    record {
      keys = keys-step w home (λ t. needed_at w home (groups_at w home p t) ms) c.args.targets.now c.loop-target.target-index 0 c.loop-target.keys c.add_keys_at.new.keys _ c.loop-target-test.true
          c.loop-target.invariant.keys (c.in_ok-add_keys_at.ensures.keys ∙ ap (λ g. with_keys w home c.loop-target.keys (needed_at w home g ms)) c.in_ok-groups.ensures.groups);
      found = c.in_ok-groups.ensures.found;
    }
