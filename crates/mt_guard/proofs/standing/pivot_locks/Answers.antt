use Rattle.std.proofs.Common.{◌≡◌, Result, Ok, sym, ◌∙◌, subst}
use Rattle.std.specs.Prelude.{IfOk}
use Rattle.mt_skel.specs.declared.fault.Fault.{Fault}
use Rattle.mt_locks.specs.Locks.{LocksView}
use Rattle.mt_propagate.specs.World.{world_view}
use Rattle.mt_guard.proofs.JudgedLaws.{pivot_done}
use Rattle.mt_guard.proofs.standing.pivot_locks.Goals as goal

pub returns-clause-done : goal.returns-clause-done
returns-clause-done c =
    subst (λ (j : Result LocksView Fault). IfOk c.same_locks.result (λ l. j ≡ Ok l))
    (sym (pivot_done (world_view c.args.world.now) c.args.space c.args.new.now c.args.old.now c.in_ok-named.named c.in_ok-place.place (sym c.is_tree.ensures ∙ c.if-is_tree.false) (sym c.walk.ensures ∙ c.in_ok-named.was)
    (sym c.is_mount_root.ensures ∙ c.if-not-is_mount_root.false) (sym c.is_root_mount.ensures ∙ c.if-is_root_mount.false) (sym c.walk-2.ensures ∙ c.in_ok-place.was)
    (sym c.is_root_place.ensures ∙ c.if-is_root_place.false) (sym c.is_locked.ensures ∙ c.if-is_locked.false)))
    c.same_locks.ensures.done
