use Rattle.std.proofs.Common.{◌<◌, ap, ◌∙◌, sym, arith, length, ◌+◌, ◌-◌}
use Rattle.mt_skel.specs.Chain.{ends}
use Rattle.mt_mounts.specs.Forest.{parent}
use Rattle.mt_mounts.proofs.Walks.{fuel_step}
use Rattle.mt_propagate.specs.World.{world_view}
use Rattle.mt_bind.proofs.MemberLaws.{taken, ends_up, taken_before, taken_here, taken_unbindable, taken_step}
use Rattle.mt_bind.proofs.members.is_bound_along.Goals as goal

pub parents-preserved : goal.parents-preserved
parents-preserved c =
    let w = world_view c.args.world.now in
    let n = length w.forest in
    let more : c.parents._step < n = omega (arith, c.parents-test.true, c.len-step-end.ensures) in
    record {
      within = omega arith;
      ends = ends_up w c.args.from (n - (c.parents._step + 1)) c.parents.here c.in-Some-parent.parent (sym c.parent.ensures ∙ c.in-Some-parent.is)
          (ap (λ k. ends (parent w.forest) k c.parents.here) (sym (fuel_step n c.parents._step more)) ∙ c.parents.invariant.ends);
      answers = sym (taken_step w c.args.from (n - (c.parents._step + 1)) _ _ _ c.if-here-from.false (sym c.is_unbindable.ensures ∙ c.if-is_unbindable.false) (sym c.parent.ensures ∙ c.in-Some-parent.is))
          ∙ ap (λ k. taken w c.args.from k c.parents.passed c.parents.here) (sym (fuel_step n c.parents._step more))
          ∙ c.parents.invariant.answers;
    }

pub returns-then-here-from : goal.returns-then-here-from
returns-then-here-from c = c.leads_within.ensures ∙ sym (taken_here (world_view c.args.world.now) c.args.from _ _ _ c.if-here-from.true) ∙ c.parents.invariant.answers

pub returns-then-is_unbindable : goal.returns-then-is_unbindable
returns-then-is_unbindable c = sym (taken_unbindable (world_view c.args.world.now) c.args.from _ _ _ c.if-here-from.false (sym c.is_unbindable.ensures ∙ c.if-is_unbindable.true)) ∙ c.parents.invariant.answers

pub returns-then-here-from-2 : goal.returns-then-here-from-2
returns-then-here-from-2 c = c.leads_within-then-here-from-2.ensures ∙ sym (taken_here (world_view c.args.world.now) c.args.from _ _ _ c.if-here-from-2.true) ∙ c.parents.invariant.answers

pub returns-in-Some : goal.returns-in-Some
returns-in-Some c =
    let w = world_view c.args.world.now in
    c.requires.judged _ _ (sym c.get.ensures.value ∙ sym c.copied.ensures ∙ c.in-Some.is)
    ∙ sym (taken_before w c.args.from _ _ _ c.if-here-from.false (omega arith) c.parents.invariant.ends)
    ∙ c.parents.invariant.answers
