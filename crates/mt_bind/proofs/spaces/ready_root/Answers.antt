use Rattle.std.proofs.Common.{◌≡◌, ℕ, Option, Some, None, sym, ap, ◌∙◌}
use Rattle.std.specs.Option.{unwrap_or}
use Rattle.std.proofs.lemmas.Bool.{or_parts}
use Rattle.mt_skel.specs.Skeleton.{fs_named, root_of}
use Rattle.mt_skel.proofs.SkeletonLaws.{directory_within}
use Rattle.mt_propagate.specs.World.{world_view}
use Rattle.mt_propagate.specs.Limits.{too_many_spaces, too_many_mounts}
use Rattle.mt_bind.proofs.spaces.ready_root.Goals as goal

pub returns-clause-root : goal.returns-clause-root
returns-clause-root c =
    let s = c.args.world.now.skel in
    let named : fs_named s c.args.fs.now ≡ Some c.in-Some.fs = sym c.fs.ensures.number ∙ c.in-Some.is in
    λ i. record {
      id = c.args.world.now.next_mount;
      space = c.args.world.now.next_space;
      place = None;
      root = (c.root.ensures.root ∙ ap (λ (o : Option ℕ). root_of s (unwrap_or o 0)) (sym named)) i;
      attrs = c.new.ensures i;
    }

pub returns-clause-passed : goal.returns-clause-passed
returns-clause-passed c =
    let w = world_view c.args.world.now in
    let named : fs_named w.skel c.args.fs.now ≡ Some c.in-Some.fs = sym c.fs.ensures.number ∙ c.in-Some.is in
    let few = or_parts (too_many_spaces w) (too_many_mounts w 1) (sym c.too_many.ensures ∙ c.if-too_many.false) in
    (named ∙ ap (λ (o : Option ℕ). Some (unwrap_or o 0)) (sym named), few.0, few.1)

pub returns-clause-there : goal.returns-clause-there
returns-clause-there c = directory_within c.args.world.now.skel c.root.result c.root.ensures.there
