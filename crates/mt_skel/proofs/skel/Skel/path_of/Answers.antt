use Rattle.std.proofs.Common.{◌++◌, reverse, ap, sym, ◌∙◌, arith, append-nil}
use Rattle.mt_skel.specs.Skeleton.{directory}
use Rattle.mt_skel.proofs.ListLaws.{walked_more}
use Rattle.mt_skel.proofs.NodeLaws.{IsBelow, dir_within, root_read, below_read}
use Rattle.mt_skel.proofs.skel.Skel.path_of.Goals as goal

pub up-init : goal.up-init
up-init c = record {
  there = dir_within _ _ c.args.self.now c.args.dir c.self.view_is c.requires;
  joined = ap (λ p. (directory c.args.self.now c.args.dir).path ++ reverse p) c.new-path.ensures.items ∙ append-nil _;
}

below : (c : goal.In_ok-push) → IsBelow c.args.self.now c.up.here c.in-Some.link
below c = below_read c.self.invariant.laid_out _ c.self.view_is _ _ c.up.invariant.there c.index.ensures _ c.in-Some.is

pub up-smaller : goal.up-smaller
up-smaller c = (below c).low

pub up-preserved : goal.up-preserved
up-preserved c = record {
  there = omega (arith, c.up.invariant.there, (below c).low);
  joined = walked_more _ _ _ _ _ _ _ (below c).path c.up.invariant.joined c.in_ok-push.ensures.items c.in_ok-copy.ensures.copy;
}

pub returns-clause-path : goal.returns-clause-path
returns-clause-path c =
    let root = root_read c.self.invariant.laid_out _ c.self.view_is _ _ c.up.invariant.there c.index.ensures c.in_default.is in
    c.reverse.ensures.items ∙ ap (λ p. p ++ reverse c.up.path.items) (sym root.path) ∙ c.up.invariant.joined
