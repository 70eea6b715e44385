use Rattle.std.proofs.Common.{◌<◌, ap, ◌∙◌, sym, arith, length, ◌+◌, ◌-◌}
use Rattle.mt_skel.specs.Keyed.{among}
use Rattle.mt_skel.specs.Chain.{follow}
use Rattle.mt_skel.proofs.ChainLaws.{follow-step}
use Rattle.mt_mounts.proofs.Walks.{fuel_step}
use Rattle.mt_propagate.specs.World.{world_view}
use Rattle.mt_unmount.specs.Sliding.{slide}
use Rattle.mt_unmount.proofs.taking.slid.Goals as goal

pub sliding-preserved : goal.sliding-preserved
sliding-preserved c =
    let w = world_view c.args.world.now in
    let goes = among c.args.gone.now in
    let n = length w.forest in
    let more : c.sliding._step < n = omega (arith, c.sliding-test.true, c.len-step-end.ensures) in
    let next = sym c.slide.ensures ∙ c.in-Some.is in
    record {
      within = omega arith;
      leads = sym (follow-step (slide w goes) (n - (c.sliding._step + 1)) c.sliding.here c.in-Some.next next)
          ∙ ap (λ k. follow (slide w goes) k c.sliding.here) (sym (fuel_step n c.sliding._step more))
          ∙ c.sliding.invariant.leads;
    }
