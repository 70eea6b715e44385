use Rattle.std.proofs.Common.{◌∙◌, ℕ, List, Some, slice_get, ap, sym, subst}
use Rattle.std.proofs.lemmas.List.{nil_from_length}
use Rattle.mt_world.specs.Places.{IsFull}
use Rattle.mt_world.proofs.DirectoryLaws.{IsBeneath, IsMade, child_there, dir_made, dir_refused, more_on, root_at, still_named}
use Rattle.mt_world.proofs.directory.+make_directory.Goals.{In-Some-2, In-Ok}
use Rattle.mt_world.proofs.directory.+make_directory.Goals as goal

pub returns-in_default-clause-made : goal.returns-in_default-clause-made
returns-in_default-clause-made t c =
    ap (λ d. slice_get c.args.skel.now.directories d) c.root.ensures.root ∙ root_at c.args.skel.now c.args.fs c.requires.skeleton c.requires.there
    ∙ ap (λ (p : List (List ℕ)). Some (record { fs = c.args.fs; path = p })) (sym (nil_from_length c.args.path.now c.in_default.ensures.cases))

-- the directory above is there
beneath : (t : ℕ) (c : In-Some-2 t) → IsBeneath c.make_directory.new.skel c.args.device.now c.args.fs c.in-Some.above.now c.in-Some-2.parent
beneath t c = record {
  skeleton = c.in_ok-parent.ensures.skeleton;
  named = still_named c.args.skel.now c.make_directory.new.skel c.args.device.now c.args.fs c.in_ok-parent.ensures.grown c.requires.named;
  there = rw c.in-Some-2.is at c.in_ok-parent.ensures.made;
}

pub returns-in-Some-child-clause-made : goal.returns-in-Some-child-clause-made
returns-in-Some-child-clause-made t c =
    child_there c.make_directory.new.skel c.args.device.now c.args.fs c.in-Some.above.now c.args.path.now c.in-Some.name.now c.in-Some-2.parent
    (beneath t (goal.at.returns-in-Some-child-clause-made t c).In-Some-2) c.in-Some.ensures.cases.0 c.in-Some-child.dir (sym c.child.ensures.child ∙ c.in-Some-child.is)

-- a directory that was added is there
made : (t : ℕ) (c : In-Ok t) → IsMade c.make_directory.new.skel c.args.device.now c.args.fs c.in-Some.above.now c.args.path.now c.in-Some.name.now c.in-Some-2.parent (beneath t (goal.at.In-Ok t c).In-Some-2) c.in-Some.ensures.cases.0 c.add_dir.new.self
made t c =
    dir_made c.make_directory.new.skel c.args.device.now c.args.fs c.in-Some.above.now c.args.path.now c.in-Some.name.now c.in-Some-2.parent (beneath t (goal.at.In-Ok t c).In-Some-2) c.in-Some.ensures.cases.0
    c.add_dir.new.self (sym c.in_default-child.ensures.child) c.in-Ok.ensures.done.0

pub returns-in-Ok-clause-skeleton : goal.returns-in-Ok-clause-skeleton
returns-in-Ok-clause-skeleton t c = (made t c).skeleton

pub returns-in-Ok-clause-grown : goal.returns-in-Ok-clause-grown
returns-in-Ok-clause-grown t c = more_on c.args.skel.now c.make_directory.new.skel c.add_dir.new.self c.in_ok-parent.ensures.grown (made t c).grown

pub returns-in-Ok-clause-made : goal.returns-in-Ok-clause-made
returns-in-Ok-clause-made t c = ap (λ d. slice_get c.add_dir.new.self.directories d) c.in-Ok.ensures.done.1 ∙ (made t c).there

pub returns-in_ok-but_memory-in-Err-clause-full : goal.returns-in_ok-but_memory-in-Err-clause-full
returns-in_ok-but_memory-in-Err-clause-full t c _ =
    subst (λ s. IsFull s c.args.path.now) (sym c.in-Err.ensures.unchanged)
    (dir_refused c.make_directory.new.skel c.args.device.now c.args.fs c.in-Some.above.now c.args.path.now c.in-Some.name.now c.in-Some-2.parent
    (beneath t (goal.at.returns-in_ok-but_memory-in-Err-clause-full t c).In-Some-2) c.in-Some.ensures.cases.0 c.in-Err.fault (sym c.in_default-child.ensures.child)
    (c.in-Err.ensures.refused c.in_ok-but_memory-in-Err.ensures.other))
