use Rattle.std.proofs.Common.{◌≡◌, Ok, sym, ap, ◌∙◌, subst}
use Rattle.std.proofs.lemmas.Result.{err_from_is_err_and}
use Rattle.mt_locks.specs.Locks.{kept_locks}
use Rattle.mt_propagate.specs.World.{world_view}
use Rattle.mt_propagate.specs.WellFormed.{IsWellFormed}
use Rattle.mt_book.specs.Step.{act, guarded, step}
use Rattle.mt_book.proofs.EffectLaws.{formed_locked}
use Rattle.mt_book.proofs.step.step_with_locks.Goals as goal

pub returns-in_err-locks-clause-refused : goal.returns-in_err-locks-clause-refused
unfolding step
returns-in_err-locks-clause-refused c =
    let p = err_from_is_err_and c.from_residual.result c.from_residual.ensures.1 in
    rw (p.1, p.2) (λ ne. ap (λ j. guarded j (act (world_view c.args.world.now) c.args.command.now)) (c.in_err-locks.ensures.refused ne))

pub returns-in_err-reply-clause-refused : goal.returns-in_err-reply-clause-refused
unfolding step
returns-in_err-reply-clause-refused c =
    let p = err_from_is_err_and c.from_residual-in_err-reply.result c.from_residual-in_err-reply.ensures.1 in
    rw (p.1, p.2) (λ ne. λ i. guarded (c.in_ok-locks.ensures.done i) (c.in_err-reply.ensures.refused ne i))

pub returns-clause-done : goal.returns-clause-done
unfolding step
returns-clause-done c = (λ i. guarded (c.in_ok-locks.ensures.done i) (c.in_ok-reply.ensures.done i)) ∙ (λ i. Ok (sym c.relock.ensures.world i, c.in_ok-reply.reply))

pub returns-clause-kept : goal.returns-clause-kept
returns-clause-kept c =
    let u = world_view c.act.new.world in
    subst IsWellFormed (sym c.relock.ensures.world) (formed_locked u (kept_locks u.forest c.in_ok-locks.locks) c.act.ensures.kept)
