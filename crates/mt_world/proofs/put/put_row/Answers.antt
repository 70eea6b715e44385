use Rattle.std.proofs.Common.{◌≡◌, ◌∙◌, None, sym, subst, inr}
use Rattle.std.specs.Option.{option_copied}
use Rattle.mt_skel.specs.Skeleton.{IsSkeleton}
use Rattle.mt_propagate.specs.World.{world_view}
use Rattle.mt_world.specs.Fitting.{why_unfit}
use Rattle.mt_world.specs.Places.{IsMountOf}
use Rattle.mt_world.proofs.PutLaws.{with_skel, sound_grown, given_of, put_grown, put_numbers, put_skel, put_made}
use Rattle.mt_world.proofs.put.put_row.Goals.{In-Ok, In_default}
use Rattle.mt_world.proofs.put.put_row.Goals as goal

pub returns-in_err-mount-clause-sound : goal.returns-in_err-mount-clause-sound
returns-in_err-mount-clause-sound c = sound_grown (world_view c.args.world.now) c.mount_of.new.skel c.requires.sound c.mount_of.ensures.skeleton c.mount_of.ensures.grown

pub returns-in-Err-clause-sound : goal.returns-in-Err-clause-sound
returns-in-Err-clause-sound c = sound_grown (world_view c.args.world.now) c.mount_of.new.skel c.requires.sound c.mount_of.ensures.skeleton c.mount_of.ensures.grown

pub returns-in-Some-clause-sound : goal.returns-in-Some-clause-sound
returns-in-Some-clause-sound c = sound_grown (world_view c.args.world.now) c.mount_of.new.skel c.requires.sound c.mount_of.ensures.skeleton c.mount_of.ensures.grown

-- the mount is that of the row
made : (c : In-Ok) → IsMountOf c.mount_of.new.skel c.args.row.now (option_copied c.args.above) c.in-Ok.mount
made c = rw c.in-Ok.is at c.in_ok-mount.ensures.made

-- and it fits
fit : (c : In_default) → why_unfit (with_skel (world_view c.args.world.now) c.mount_of.new.skel) c.in-Ok.mount ≡ None
fit c = sym c.why_unfit.ensures ∙ c.in_default.is

pub returns-in-Some-clause-why : goal.returns-in-Some-clause-why
returns-in-Some-clause-why c = inr (c.in-Ok.mount, made (goal.at.returns-in-Some-clause-why c).In-Ok, sym c.why_unfit.ensures ∙ c.in-Some.is)

pub add_leaf-requires-clause-well_formed : goal.add_leaf-requires-clause-well_formed
add_leaf-requires-clause-well_formed c = (sound_grown (world_view c.args.world.now) c.mount_of.new.skel c.requires.sound c.mount_of.ensures.skeleton c.mount_of.ensures.grown).well_formed

pub add_leaf-requires-clause-given : goal.add_leaf-requires-clause-given
add_leaf-requires-clause-given c = given_of (world_view c.args.world.now) c.mount_of.new.skel c.args.row.now (option_copied c.args.above) c.in-Ok.mount (made (goal.at.add_leaf-requires-clause-given c).In-Ok) c.requires.numbers

pub returns-clause-grown : goal.returns-clause-grown
returns-clause-grown c =
    put_grown (world_view c.args.world.now) (world_view c.add_leaf.new.world) c.mount_of.new.skel c.in-Ok.mount c.mount_of.ensures.grown (fit (goal.at.returns-clause-grown c).In_default) c.in_ok-add_leaf.ensures.done

pub returns-clause-same : goal.returns-clause-same
returns-clause-same c =
    put_numbers (world_view c.args.world.now) (world_view c.add_leaf.new.world) c.mount_of.new.skel c.in-Ok.mount c.mount_of.ensures.grown (fit (goal.at.returns-clause-same c).In_default) c.in_ok-add_leaf.ensures.done

pub returns-clause-sound : goal.returns-clause-sound
returns-clause-sound c = record {
  well_formed = c.add_leaf.ensures.kept;
  skel =
      subst IsSkeleton
      (sym (put_skel (world_view c.args.world.now) (world_view c.add_leaf.new.world) c.mount_of.new.skel c.in-Ok.mount c.mount_of.ensures.grown (fit (goal.at.returns-clause-sound c).In_default) c.in_ok-add_leaf.ensures.done)) c.mount_of.ensures.skeleton;
}

pub returns-clause-put : goal.returns-clause-put
returns-clause-put c _ =
    put_made (world_view c.args.world.now) (world_view c.add_leaf.new.world) c.mount_of.new.skel c.in-Ok.mount c.mount_of.ensures.grown (fit (goal.at.returns-clause-put c).In_default) c.in_ok-add_leaf.ensures.done c.args.row.now (option_copied c.args.above)
    (made (goal.at.returns-clause-put c).In-Ok)
