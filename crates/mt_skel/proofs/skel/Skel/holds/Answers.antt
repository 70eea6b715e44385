use Rattle.std.proofs.Common.{ap, sym, ◌∙◌, arith}
use Rattle.mt_skel.specs.Skeleton.{holds}
use Rattle.mt_skel.proofs.SkeletonLaws.{holds_self, holds_absent}
use Rattle.mt_skel.proofs.NodeLaws.{IsBelow, counted, root_read, below_read}
use Rattle.mt_skel.proofs.skel.Skel.holds.Goals as goal

pub returns-then-inner-len : goal.returns-then-inner-len
returns-then-inner-len c = sym (holds_absent c.args.self.now c.args.outer c.args.inner (omega (arith, c.if-inner-len.true, c.len.ensures, c.self.inside.nodes.ok, counted _ _ _ c.self.view_is)))

pub returns-in-None : goal.returns-in-None
returns-in-None c =
    let root = root_read c.self.invariant.laid_out _ c.self.view_is _ _ c.up.invariant.there c.index.ensures c.in-None.is in
    sym (root.alone _ c.up-test.true) ∙ c.up.invariant.same

below : (c : goal.In-Some) → IsBelow c.args.self.now c.up.here c.in-Some.link
below c = below_read c.self.invariant.laid_out _ c.self.view_is _ _ c.up.invariant.there c.index.ensures _ c.in-Some.is

pub up-smaller : goal.up-smaller
up-smaller c = (below c).low

pub up-preserved : goal.up-preserved
up-preserved c = record {
  there = omega (arith, c.up.invariant.there, (below c).low);
  same = (below c).held _ c.up-test.true ∙ c.up.invariant.same;
}

pub returns : goal.returns
returns c =
    let self = holds_self c.args.self.now c.up.here (omega (arith, c.up.invariant.there, counted _ _ _ c.self.view_is)) in
    sym self ∙ ap (λ o. holds c.args.self.now o c.up.here) c.up-test.false ∙ c.up.invariant.same
