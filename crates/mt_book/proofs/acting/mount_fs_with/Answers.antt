use Rattle.std.proofs.Common.{ap, sym, ◌∙◌}
use Rattle.std.proofs.lemmas.Result.{err_from_is_err_and}
use Rattle.mt_propagate.specs.World.{world_view}
use Rattle.mt_bind.specs.Mounting.{mounted_with}
use Rattle.mt_book.specs.Step.{act, with_made_number}
use Rattle.mt_book.proofs.acting.mount_fs_with.Goals as goal

pub returns-in_err-id-clause-refused : goal.returns-in_err-id-clause-refused
unfolding act
returns-in_err-id-clause-refused c =
    let p = err_from_is_err_and c.from_residual-in_err-id.result c.from_residual-in_err-id.ensures.1 in
    let w = world_view c.args.world.now in
    let path = sym (c.as_slice.ensures.value ∙ c.in_ok-names.ensures.names) in
    rw (p.1, p.2) (λ ne. (λ i. with_made_number (mounted_with w c.args.space c.args.fs.now (path i) c.args.set.now)) ∙ ap with_made_number (c.in_err-id.ensures.refused ne))

pub returns-clause-done : goal.returns-clause-done
unfolding act
returns-clause-done c =
    let w = world_view c.args.world.now in
    let path = sym (c.as_slice.ensures.value ∙ c.in_ok-names.ensures.names) in
    (λ i. with_made_number (mounted_with w c.args.space c.args.fs.now (path i) c.args.set.now)) ∙ ap with_made_number c.in_ok-id.ensures.done
