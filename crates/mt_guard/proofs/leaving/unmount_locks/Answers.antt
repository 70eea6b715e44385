use Rattle.std.proofs.Common.{◌≡◌, Result, Ok, Err, sym, ◌∙◌, subst}
use Rattle.std.specs.Prelude.{◌≢◌, IfOk, IfErr}
use Rattle.mt_skel.specs.declared.fault.Fault.{Fault}
use Rattle.mt_skel.specs.declared.fault.Fault.TheVariants.{NoMemory}
use Rattle.mt_locks.specs.Locks.{LocksView}
use Rattle.mt_propagate.specs.World.{world_view}
use Rattle.mt_guard.proofs.JudgedLaws.{unmount_at}
use Rattle.mt_guard.proofs.leaving.unmount_locks.Goals as goal

pub returns-clause-done : goal.returns-clause-done
returns-clause-done c =
    subst (λ (j : Result LocksView Fault). IfOk c.unlocked_at.result (λ l. j ≡ Ok l))
    (sym (unmount_at (world_view c.args.world.now) c.args.space c.args.path.now c.in_ok-place.place (sym c.is_tree.ensures ∙ c.if-is_tree.false) (sym c.walk.ensures ∙ c.in_ok-place.was)))
    c.unlocked_at.ensures.done

pub returns-clause-refused : goal.returns-clause-refused
returns-clause-refused c =
    subst (λ (j : Result LocksView Fault). IfErr c.unlocked_at.result (λ f. f ≢ NoMemory → j ≡ Err f))
    (sym (unmount_at (world_view c.args.world.now) c.args.space c.args.path.now c.in_ok-place.place (sym c.is_tree.ensures ∙ c.if-is_tree.false) (sym c.walk.ensures ∙ c.in_ok-place.was)))
    c.unlocked_at.ensures.refused
