use Rattle.std.proofs.Common.{length, ap, ◌∙◌, arith}
use Rattle.std.proofs.lemmas.List.{length_push}
use Rattle.mt_skel.proofs.NodeLaws.{IsBelow, dir_within, root_read, below_read}
use Rattle.mt_skel.proofs.skel.Skel.depth.Goals as goal

pub up-init : goal.up-init
up-init c = record {
  there = dir_within _ _ c.args.self.now c.args.dir c.self.view_is c.requires;
  low = omega arith;
  counted = omega arith;
}

below : (c : goal.In-Some) → IsBelow c.args.self.now c.up.here c.in-Some.link
below c = below_read c.self.invariant.laid_out _ c.self.view_is _ _ c.up.invariant.there c.index.ensures _ c.in-Some.is

pub overflow_add-depth : goal.overflow_add-depth
overflow_add-depth c = omega (arith, (below c).low, c.up.invariant.low, c.ranges.dir.fits)

pub up-smaller : goal.up-smaller
up-smaller c = (below c).low

pub up-preserved : goal.up-preserved
up-preserved c =
    let longer = ap length (below c).path ∙ length_push _ c.in-Some.link.name in
    record {
      there = omega (arith, c.up.invariant.there, (below c).low);
      low = omega (arith, c.up.invariant.low, (below c).low);
      counted = omega (arith, longer, c.up.invariant.counted);
    }

pub returns : goal.returns
returns c =
    let root = root_read c.self.invariant.laid_out _ c.self.view_is _ _ c.up.invariant.there c.index.ensures c.in_default.is in
    omega (arith, ap length root.path, c.up.invariant.counted)
