use Rattle.std.proofs.Common.{◌≡◌, ◌≢◌, ◌∙◌, Result, Ok, Err, IfOk, IfErr, ap, sym, subst}
use Rattle.std.proofs.lemmas.Result.{err_from_is_err_and}
use Rattle.mt_skel.specs.declared.fault.Fault.{Fault}
use Rattle.mt_skel.specs.declared.fault.Fault.TheVariants.{NoMemory}
use Rattle.mt_propagate.specs.World.{WorldView, world_view}
use Rattle.mt_bind.specs.Spaces.{copy_space}
use Rattle.mt_book.specs.declared.command.Command.{Command}
use Rattle.mt_book.specs.declared.command.Reply.{Reply}
use Rattle.mt_book.specs.Step.{act, with_made_number, with_done}
use Rattle.mt_book.proofs.acting.act.Goals as goal

-- what an arm's call says of its command holds of the command that is done
done_as : (w v : WorldView) (c d : Command) (q : Result Reply Fault) → c ≡ d → IfOk q (λ r. act w d ≡ Ok (v, r)) → IfOk q (λ r. act w c ≡ Ok (v, r))
done_as w v c d q same h = subst (λ (x : Command). IfOk q (λ (r : Reply). act w x ≡ Ok (v, r))) (sym same) h

refused_as : (w : WorldView) (c d : Command) (q : Result Reply Fault) → c ≡ d → IfErr q (λ f. f ≢ NoMemory → act w d ≡ Err f) → IfErr q (λ f. f ≢ NoMemory → act w c ≡ Err f)
refused_as w c d q same h = subst (λ (x : Command). IfErr q (λ (f : Fault). f ≢ NoMemory → act w x ≡ Err f)) (sym same) h

pub returns-in-Room-clause-done : goal.returns-in-Room-clause-done
returns-in-Room-clause-done c = done_as (world_view c.args.world.now) (world_view c.give_room.new.world) c.args.command.now _ c.give_room.result c.in-Room.is c.give_room.ensures.done

pub returns-in-Room-clause-refused : goal.returns-in-Room-clause-refused
returns-in-Room-clause-refused c = refused_as (world_view c.args.world.now) c.args.command.now _ c.give_room.result c.in-Room.is c.give_room.ensures.refused

pub returns-in-Room-clause-unchanged : goal.returns-in-Room-clause-unchanged
returns-in-Room-clause-unchanged c = c.give_room.ensures.unchanged

pub returns-in-Room-clause-kept : goal.returns-in-Room-clause-kept
returns-in-Room-clause-kept c = c.give_room.ensures.kept

pub returns-in-Room-clause-since : goal.returns-in-Room-clause-since
returns-in-Room-clause-since c = c.give_room.ensures.since

pub returns-in-MakeFs-clause-done : goal.returns-in-MakeFs-clause-done
returns-in-MakeFs-clause-done c = done_as (world_view c.args.world.now) (world_view c.make_fs.new.world) c.args.command.now _ c.make_fs.result c.in-MakeFs.is c.make_fs.ensures.done

pub returns-in-MakeFs-clause-refused : goal.returns-in-MakeFs-clause-refused
returns-in-MakeFs-clause-refused c = refused_as (world_view c.args.world.now) c.args.command.now _ c.make_fs.result c.in-MakeFs.is c.make_fs.ensures.refused

pub returns-in-MakeFs-clause-unchanged : goal.returns-in-MakeFs-clause-unchanged
returns-in-MakeFs-clause-unchanged c = c.make_fs.ensures.unchanged

pub returns-in-MakeFs-clause-kept : goal.returns-in-MakeFs-clause-kept
returns-in-MakeFs-clause-kept c = c.make_fs.ensures.kept

pub returns-in-MakeFs-clause-since : goal.returns-in-MakeFs-clause-since
returns-in-MakeFs-clause-since c = c.make_fs.ensures.since

pub returns-in-MakeDir-clause-done : goal.returns-in-MakeDir-clause-done
returns-in-MakeDir-clause-done c = done_as (world_view c.args.world.now) (world_view c.make_dir.new.world) c.args.command.now _ c.make_dir.result c.in-MakeDir.is c.make_dir.ensures.done

pub returns-in-MakeDir-clause-refused : goal.returns-in-MakeDir-clause-refused
returns-in-MakeDir-clause-refused c = refused_as (world_view c.args.world.now) c.args.command.now _ c.make_dir.result c.in-MakeDir.is c.make_dir.ensures.refused

pub returns-in-MakeDir-clause-unchanged : goal.returns-in-MakeDir-clause-unchanged
returns-in-MakeDir-clause-unchanged c = c.make_dir.ensures.unchanged

pub returns-in-MakeDir-clause-kept : goal.returns-in-MakeDir-clause-kept
returns-in-MakeDir-clause-kept c = c.make_dir.ensures.kept

pub returns-in-MakeDir-clause-since : goal.returns-in-MakeDir-clause-since
returns-in-MakeDir-clause-since c = c.make_dir.ensures.since

pub returns-in-Mount-clause-done : goal.returns-in-Mount-clause-done
returns-in-Mount-clause-done c = done_as (world_view c.args.world.now) (world_view c.mount_fs.new.world) c.args.command.now _ c.mount_fs.result c.in-Mount.is c.mount_fs.ensures.done

pub returns-in-Mount-clause-refused : goal.returns-in-Mount-clause-refused
returns-in-Mount-clause-refused c = refused_as (world_view c.args.world.now) c.args.command.now _ c.mount_fs.result c.in-Mount.is c.mount_fs.ensures.refused

pub returns-in-Mount-clause-unchanged : goal.returns-in-Mount-clause-unchanged
returns-in-Mount-clause-unchanged c = c.mount_fs.ensures.unchanged

pub returns-in-Mount-clause-kept : goal.returns-in-Mount-clause-kept
returns-in-Mount-clause-kept c = c.mount_fs.ensures.kept

pub returns-in-Mount-clause-since : goal.returns-in-Mount-clause-since
returns-in-Mount-clause-since c = c.mount_fs.ensures.since

pub returns-in-MountWith-clause-done : goal.returns-in-MountWith-clause-done
returns-in-MountWith-clause-done c = done_as (world_view c.args.world.now) (world_view c.mount_fs_with.new.world) c.args.command.now _ c.mount_fs_with.result c.in-MountWith.is c.mount_fs_with.ensures.done

pub returns-in-MountWith-clause-refused : goal.returns-in-MountWith-clause-refused
returns-in-MountWith-clause-refused c = refused_as (world_view c.args.world.now) c.args.command.now _ c.mount_fs_with.result c.in-MountWith.is c.mount_fs_with.ensures.refused

pub returns-in-MountWith-clause-unchanged : goal.returns-in-MountWith-clause-unchanged
returns-in-MountWith-clause-unchanged c = c.mount_fs_with.ensures.unchanged

pub returns-in-MountWith-clause-kept : goal.returns-in-MountWith-clause-kept
returns-in-MountWith-clause-kept c = c.mount_fs_with.ensures.kept

pub returns-in-MountWith-clause-since : goal.returns-in-MountWith-clause-since
returns-in-MountWith-clause-since c = c.mount_fs_with.ensures.since

pub returns-in-Bind-clause-done : goal.returns-in-Bind-clause-done
returns-in-Bind-clause-done c = done_as (world_view c.args.world.now) (world_view c.bind_tree.new.world) c.args.command.now _ c.bind_tree.result c.in-Bind.is c.bind_tree.ensures.done

pub returns-in-Bind-clause-refused : goal.returns-in-Bind-clause-refused
returns-in-Bind-clause-refused c = refused_as (world_view c.args.world.now) c.args.command.now _ c.bind_tree.result c.in-Bind.is c.bind_tree.ensures.refused

pub returns-in-Bind-clause-unchanged : goal.returns-in-Bind-clause-unchanged
returns-in-Bind-clause-unchanged c = c.bind_tree.ensures.unchanged

pub returns-in-Bind-clause-kept : goal.returns-in-Bind-clause-kept
returns-in-Bind-clause-kept c = c.bind_tree.ensures.kept

pub returns-in-Bind-clause-since : goal.returns-in-Bind-clause-since
returns-in-Bind-clause-since c = c.bind_tree.ensures.since

pub returns-in-Move-clause-done : goal.returns-in-Move-clause-done
returns-in-Move-clause-done c = done_as (world_view c.args.world.now) (world_view c.move_one.new.world) c.args.command.now _ c.move_one.result c.in-Move.is c.move_one.ensures.done

pub returns-in-Move-clause-refused : goal.returns-in-Move-clause-refused
returns-in-Move-clause-refused c = refused_as (world_view c.args.world.now) c.args.command.now _ c.move_one.result c.in-Move.is c.move_one.ensures.refused

pub returns-in-Move-clause-unchanged : goal.returns-in-Move-clause-unchanged
returns-in-Move-clause-unchanged c = c.move_one.ensures.unchanged

pub returns-in-Move-clause-kept : goal.returns-in-Move-clause-kept
returns-in-Move-clause-kept c = c.move_one.ensures.kept

pub returns-in-Move-clause-since : goal.returns-in-Move-clause-since
returns-in-Move-clause-since c = c.move_one.ensures.since

pub returns-in-Pivot-clause-done : goal.returns-in-Pivot-clause-done
returns-in-Pivot-clause-done c = done_as (world_view c.args.world.now) (world_view c.pivot.new.world) c.args.command.now _ c.pivot.result c.in-Pivot.is c.pivot.ensures.done

pub returns-in-Pivot-clause-refused : goal.returns-in-Pivot-clause-refused
returns-in-Pivot-clause-refused c = refused_as (world_view c.args.world.now) c.args.command.now _ c.pivot.result c.in-Pivot.is c.pivot.ensures.refused

pub returns-in-Pivot-clause-unchanged : goal.returns-in-Pivot-clause-unchanged
returns-in-Pivot-clause-unchanged c = c.pivot.ensures.unchanged

pub returns-in-Pivot-clause-kept : goal.returns-in-Pivot-clause-kept
returns-in-Pivot-clause-kept c = c.pivot.ensures.kept

pub returns-in-Pivot-clause-since : goal.returns-in-Pivot-clause-since
returns-in-Pivot-clause-since c = c.pivot.ensures.since

pub returns-in-Unmount-clause-done : goal.returns-in-Unmount-clause-done
returns-in-Unmount-clause-done c = done_as (world_view c.args.world.now) (world_view c.unmount_one.new.world) c.args.command.now _ c.unmount_one.result c.in-Unmount.is c.unmount_one.ensures.done

pub returns-in-Unmount-clause-refused : goal.returns-in-Unmount-clause-refused
returns-in-Unmount-clause-refused c = refused_as (world_view c.args.world.now) c.args.command.now _ c.unmount_one.result c.in-Unmount.is c.unmount_one.ensures.refused

pub returns-in-Unmount-clause-unchanged : goal.returns-in-Unmount-clause-unchanged
returns-in-Unmount-clause-unchanged c = c.unmount_one.ensures.unchanged

pub returns-in-Unmount-clause-kept : goal.returns-in-Unmount-clause-kept
returns-in-Unmount-clause-kept c = c.unmount_one.ensures.kept

pub returns-in-Unmount-clause-since : goal.returns-in-Unmount-clause-since
returns-in-Unmount-clause-since c = c.unmount_one.ensures.since

pub returns-in-Detach-clause-done : goal.returns-in-Detach-clause-done
returns-in-Detach-clause-done c = done_as (world_view c.args.world.now) (world_view c.detach_tree.new.world) c.args.command.now _ c.detach_tree.result c.in-Detach.is c.detach_tree.ensures.done

pub returns-in-Detach-clause-refused : goal.returns-in-Detach-clause-refused
returns-in-Detach-clause-refused c = refused_as (world_view c.args.world.now) c.args.command.now _ c.detach_tree.result c.in-Detach.is c.detach_tree.ensures.refused

pub returns-in-Detach-clause-unchanged : goal.returns-in-Detach-clause-unchanged
returns-in-Detach-clause-unchanged c = c.detach_tree.ensures.unchanged

pub returns-in-Detach-clause-kept : goal.returns-in-Detach-clause-kept
returns-in-Detach-clause-kept c = c.detach_tree.ensures.kept

pub returns-in-Detach-clause-since : goal.returns-in-Detach-clause-since
returns-in-Detach-clause-since c = c.detach_tree.ensures.since

pub returns-in-SetAttr-clause-done : goal.returns-in-SetAttr-clause-done
returns-in-SetAttr-clause-done c = done_as (world_view c.args.world.now) (world_view c.change_attrs.new.world) c.args.command.now _ c.change_attrs.result c.in-SetAttr.is c.change_attrs.ensures.done

pub returns-in-SetAttr-clause-refused : goal.returns-in-SetAttr-clause-refused
returns-in-SetAttr-clause-refused c = refused_as (world_view c.args.world.now) c.args.command.now _ c.change_attrs.result c.in-SetAttr.is c.change_attrs.ensures.refused

pub returns-in-SetAttr-clause-unchanged : goal.returns-in-SetAttr-clause-unchanged
returns-in-SetAttr-clause-unchanged c = c.change_attrs.ensures.unchanged

pub returns-in-SetAttr-clause-kept : goal.returns-in-SetAttr-clause-kept
returns-in-SetAttr-clause-kept c = c.change_attrs.ensures.kept

pub returns-in-SetAttr-clause-since : goal.returns-in-SetAttr-clause-since
returns-in-SetAttr-clause-since c = c.change_attrs.ensures.since

pub returns-in-OpenTree-clause-done : goal.returns-in-OpenTree-clause-done
returns-in-OpenTree-clause-done c = done_as (world_view c.args.world.now) (world_view c.open_copy.new.world) c.args.command.now _ c.open_copy.result c.in-OpenTree.is c.open_copy.ensures.done

pub returns-in-OpenTree-clause-refused : goal.returns-in-OpenTree-clause-refused
returns-in-OpenTree-clause-refused c = refused_as (world_view c.args.world.now) c.args.command.now _ c.open_copy.result c.in-OpenTree.is c.open_copy.ensures.refused

pub returns-in-OpenTree-clause-unchanged : goal.returns-in-OpenTree-clause-unchanged
returns-in-OpenTree-clause-unchanged c = c.open_copy.ensures.unchanged

pub returns-in-OpenTree-clause-kept : goal.returns-in-OpenTree-clause-kept
returns-in-OpenTree-clause-kept c = c.open_copy.ensures.kept

pub returns-in-OpenTree-clause-since : goal.returns-in-OpenTree-clause-since
returns-in-OpenTree-clause-since c = c.open_copy.ensures.since

pub returns-in-MoveTree-clause-done : goal.returns-in-MoveTree-clause-done
returns-in-MoveTree-clause-done c = done_as (world_view c.args.world.now) (world_view c.attach.new.world) c.args.command.now _ c.attach.result c.in-MoveTree.is c.attach.ensures.done

pub returns-in-MoveTree-clause-refused : goal.returns-in-MoveTree-clause-refused
returns-in-MoveTree-clause-refused c = refused_as (world_view c.args.world.now) c.args.command.now _ c.attach.result c.in-MoveTree.is c.attach.ensures.refused

pub returns-in-MoveTree-clause-unchanged : goal.returns-in-MoveTree-clause-unchanged
returns-in-MoveTree-clause-unchanged c = c.attach.ensures.unchanged

pub returns-in-MoveTree-clause-kept : goal.returns-in-MoveTree-clause-kept
returns-in-MoveTree-clause-kept c = c.attach.ensures.kept

pub returns-in-MoveTree-clause-since : goal.returns-in-MoveTree-clause-since
returns-in-MoveTree-clause-since c = c.attach.ensures.since

pub returns-in_err-space-in-NewSpace-clause-refused : goal.returns-in_err-space-in-NewSpace-clause-refused
unfolding act
returns-in_err-space-in-NewSpace-clause-refused c =
    let w = world_view c.args.world.now in
    let p = err_from_is_err_and c.from_residual.result c.from_residual.ensures.1 in
    rw (p.1, p.2) (λ ne. ap (act w) c.in-NewSpace.is ∙ ap with_made_number (c.in_err-space-in-NewSpace.ensures.refused ne))

pub returns-in_ok-space-in-NewSpace-clause-done : goal.returns-in_ok-space-in-NewSpace-clause-done
unfolding act
returns-in_ok-space-in-NewSpace-clause-done c =
    let w = world_view c.args.world.now in
    ap (act w) c.in-NewSpace.is ∙ ap with_made_number c.in_ok-space-in-NewSpace.ensures.done

pub returns-in_err-copy-in-CopySpace-clause-refused : goal.returns-in_err-copy-in-CopySpace-clause-refused
unfolding act
returns-in_err-copy-in-CopySpace-clause-refused c =
    let w = world_view c.args.world.now in
    let p = err_from_is_err_and c.from_residual-in_err-copy-in-CopySpace.result c.from_residual-in_err-copy-in-CopySpace.ensures.1 in
    rw (p.1, p.2) (λ ne. ap (act w) c.in-CopySpace.is ∙ ap (λ b. with_made_number (copy_space w c.in-CopySpace.space b)) (sym c.is_less.ensures) ∙ ap with_made_number (c.in_err-copy-in-CopySpace.ensures.refused ne))

pub returns-in_ok-copy-in-CopySpace-clause-done : goal.returns-in_ok-copy-in-CopySpace-clause-done
unfolding act
returns-in_ok-copy-in-CopySpace-clause-done c =
    let w = world_view c.args.world.now in
    ap (act w) c.in-CopySpace.is ∙ ap (λ b. with_made_number (copy_space w c.in-CopySpace.space b)) (sym c.is_less.ensures) ∙ ap with_made_number c.in_ok-copy-in-CopySpace.ensures.done

pub returns-in_err-drop_space-in-DropSpace-clause-refused : goal.returns-in_err-drop_space-in-DropSpace-clause-refused
unfolding act
returns-in_err-drop_space-in-DropSpace-clause-refused c =
    let w = world_view c.args.world.now in
    let p = err_from_is_err_and c.from_residual-in_err-drop_space-in-DropSpace.result c.from_residual-in_err-drop_space-in-DropSpace.ensures.1 in
    rw (p.1, p.2) (λ ne. ap (act w) c.in-DropSpace.is ∙ ap with_done (c.in_err-drop_space-in-DropSpace.ensures.refused ne))

pub returns-in_ok-drop_space-in-DropSpace-clause-done : goal.returns-in_ok-drop_space-in-DropSpace-clause-done
unfolding act
returns-in_ok-drop_space-in-DropSpace-clause-done c =
    let w = world_view c.args.world.now in
    ap (act w) c.in-DropSpace.is ∙ ap with_done c.in_ok-drop_space-in-DropSpace.ensures.done

pub returns-in_err-tree-in-NewTree-clause-refused : goal.returns-in_err-tree-in-NewTree-clause-refused
unfolding act
returns-in_err-tree-in-NewTree-clause-refused c =
    let w = world_view c.args.world.now in
    let p = err_from_is_err_and c.from_residual-in_err-tree-in-NewTree.result c.from_residual-in_err-tree-in-NewTree.ensures.1 in
    rw (p.1, p.2) (λ ne. ap (act w) c.in-NewTree.is ∙ ap with_made_number (c.in_err-tree-in-NewTree.ensures.refused ne))

pub returns-in_ok-tree-in-NewTree-clause-done : goal.returns-in_ok-tree-in-NewTree-clause-done
unfolding act
returns-in_ok-tree-in-NewTree-clause-done c =
    let w = world_view c.args.world.now in
    ap (act w) c.in-NewTree.is ∙ ap with_made_number c.in_ok-tree-in-NewTree.ensures.done
