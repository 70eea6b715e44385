use Rattle.std.proofs.Common.{◌≡◌, Result, Ok, sym, ◌∙◌, subst}
use Rattle.std.specs.Prelude.{IfOk}
use Rattle.mt_skel.specs.declared.fault.Fault.{Fault}
use Rattle.mt_locks.specs.Locks.{LocksView}
use Rattle.mt_propagate.specs.World.{world_view}
use Rattle.mt_guard.proofs.JudgedLaws.{change_done}
use Rattle.mt_guard.proofs.standing.change_locks.Goals as goal

pub returns-clause-done : goal.returns-clause-done
returns-clause-done c =
    subst (λ (j : Result LocksView Fault). IfOk c.same_locks.result (λ l. j ≡ Ok l))
    (sym (change_done (world_view c.args.world.now) c.args.space c.args.path.now c.args.change.now c.in_ok-place.place (sym c.walk.ensures ∙ c.in_ok-place.was)
    (sym c.is_mount_root.ensures ∙ c.if-not-is_mount_root.false) (sym c.clashes.ensures ∙ c.if-clashes.false) (sym c.changes_inside.ensures ∙ c.if-changes_inside.false) (sym c.unlocks_some.ensures ∙ c.if-unlocks_some.false)))
    c.same_locks.ensures.done
