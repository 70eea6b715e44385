use Rattle.std.proofs.Common.{◌≡◌, Result, Ok, Err, sym, ap, ◌∙◌, subst}
use Rattle.std.specs.Prelude.{◌≢◌, IfOk, IfErr}
use Rattle.mt_skel.specs.declared.fault.Fault.{Fault}
use Rattle.mt_skel.specs.declared.fault.Fault.TheVariants.{NoMemory}
use Rattle.mt_locks.specs.Locks.{LocksView}
use Rattle.mt_propagate.specs.World.{world_view}
use Rattle.mt_guard.specs.Judging.{unlocked_judged, detach_judged}
use Rattle.mt_guard.proofs.JudgedLaws.{detach_at}
use Rattle.mt_guard.proofs.leaving.detach_locks.Goals.{After-unlocked_at}
use Rattle.mt_guard.proofs.leaving.detach_locks.Goals as goal

-- the topmost mount goes
topmost : (c : After-unlocked_at) → detach_judged (world_view c.args.world.now) c.args.space c.args.path.now ≡ unlocked_judged (world_view c.args.world.now) c.top.result
topmost c =
    detach_at (world_view c.args.world.now) c.args.space c.args.path.now c.in_ok-end.end (sym c.is_tree.ensures ∙ c.if-is_tree.false) (sym c.walk.ensures ∙ c.in_ok-end.was)
    ∙ ap (unlocked_judged (world_view c.args.world.now)) (sym c.top.ensures)

pub returns-clause-done : goal.returns-clause-done
returns-clause-done c = subst (λ (j : Result LocksView Fault). IfOk c.unlocked_at.result (λ l. j ≡ Ok l)) (sym (topmost (goal.at.returns-clause-done c).After-unlocked_at)) c.unlocked_at.ensures.done

pub returns-clause-refused : goal.returns-clause-refused
returns-clause-refused c =
    subst (λ (j : Result LocksView Fault). IfErr c.unlocked_at.result (λ f. f ≢ NoMemory → j ≡ Err f)) (sym (topmost (goal.at.returns-clause-refused c).After-unlocked_at)) c.unlocked_at.ensures.refused
