use Rattle.std.proofs.Common.{ap, sym, ◌∙◌}
use Rattle.std.proofs.lemmas.Result.{err_from_is_err_and}
use Rattle.mt_propagate.specs.World.{world_view}
use Rattle.mt_unmount.specs.Detaching.{detached}
use Rattle.mt_book.specs.Step.{act, with_done}
use Rattle.mt_book.proofs.acting.detach_tree.Goals as goal

pub returns-in_err-detach-clause-refused : goal.returns-in_err-detach-clause-refused
unfolding act
returns-in_err-detach-clause-refused c =
    let p = err_from_is_err_and c.from_residual-in_err-detach.result c.from_residual-in_err-detach.ensures.1 in
    let w = world_view c.args.world.now in
    let path = sym (c.as_slice.ensures.value ∙ c.in_ok-to_vec.ensures.names) in
    rw (p.1, p.2) (λ ne. (λ i. with_done (detached w c.args.space (path i))) ∙ ap with_done (c.in_err-detach.ensures.refused ne))

pub returns-clause-done : goal.returns-clause-done
unfolding act
returns-clause-done c =
    let w = world_view c.args.world.now in
    let path = sym (c.as_slice.ensures.value ∙ c.in_ok-to_vec.ensures.names) in
    (λ i. with_done (detached w c.args.space (path i))) ∙ ap with_done c.in_ok-detach.ensures.done
