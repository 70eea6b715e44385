use Rattle.std.proofs.Common.{ℕ, List, ap, sym, ◌∙◌}
use Rattle.std.proofs.lemmas.Result.{err_from_is_err_and}
use Rattle.mt_propagate.specs.World.{world_view}
use Rattle.mt_bind.specs.Mounting.{mounted}
use Rattle.mt_book.specs.Step.{act, with_made_number}
use Rattle.mt_book.proofs.acting.mount_fs.Goals as goal

pub returns-in_err-id-clause-refused : goal.returns-in_err-id-clause-refused
unfolding act
returns-in_err-id-clause-refused c =
    let p = err_from_is_err_and c.from_residual-in_err-id.result c.from_residual-in_err-id.ensures.1 in
    rw (p.1, p.2) (λ ne.
    let w = world_view c.args.world.now in
    ap (λ (path : List (List ℕ)). with_made_number (mounted w c.args.space c.args.fs.now path)) (sym (c.as_slice.ensures.value ∙ c.in_ok-names.ensures.names))
    ∙ ap with_made_number (c.in_err-id.ensures.refused ne))

pub returns-clause-done : goal.returns-clause-done
unfolding act
returns-clause-done c =
    let w = world_view c.args.world.now in
    ap (λ (path : List (List ℕ)). with_made_number (mounted w c.args.space c.args.fs.now path)) (sym (c.as_slice.ensures.value ∙ c.in_ok-names.ensures.names))
    ∙ ap with_made_number c.in_ok-id.ensures.done
