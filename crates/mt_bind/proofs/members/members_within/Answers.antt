use Rattle.std.proofs.Common.{◌++◌, ◌∙◌, sym, ap}
use Rattle.std.specs.List.{filter}
use Rattle.mt_propagate.specs.World.{world_view}
use Rattle.mt_bind.specs.Sources.{is_bound_along}
use Rattle.mt_bind.proofs.MemberLaws.{judged_none, bound_below, passes, fails}
use Rattle.mt_bind.proofs.members.members_within.Goals.{then-bound+in_ok-push, else-bound}
use Rattle.mt_bind.proofs.members.members_within.Goals as goal

pub loop-id-init : goal.loop-id-init
loop-id-init c =
    let w = world_view c.args.world.now in
    let taken = is_bound_along w c.args.from in
    record {
      kept = ap (λ t. t ++ filter taken c.deref-id-items.result.now) c.in_ok-members.ensures.items
          ∙ ap (filter taken) (c.deref-id-items.ensures.value ∙ c.in_ok-below.ensures.subtree)
          ∙ bound_below w c.args.from;
      judged = judged_none w c.args.from c.in_ok-found.found c.in_ok-found.ensures.empty;
    }

pub loop-id-preserved : goal.loop-id-preserved
loop-id-preserved c =
    let w = world_view c.args.world.now in
    let taken = is_bound_along w c.args.from in
    let ids = c.deref-id-items.result.now in
    let bound = sym c.in_ok-bound.ensures.bound in
    record {
      kept = elim c.if-bound.branch [
        | then-bound+in_ok-push b ↦
            passes taken ids c.loop-id.id-index _ c.loop-id-test.true c.loop-id.members.items c.if-bound.members.items _ c.loop-id.invariant.kept (bound ∙ b.if-bound.true)
            (ap (λ v. v.items) b.members-is ∙ b.in_ok-push.ensures.items)
        | else-bound b ↦
            fails taken ids c.loop-id.id-index _ c.loop-id-test.true c.loop-id.members.items c.if-bound.members.items _ c.loop-id.invariant.kept (bound ∙ b.if-bound.false)
            (ap (λ v. v.items) b.members-is)
      ];
      judged = c.in_ok-bound.ensures.judged;
    }
