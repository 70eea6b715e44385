use Rattle.std.proofs.Common.{ap, sym, ◌∙◌}
use Rattle.std.proofs.lemmas.Result.{err_from_is_err_and}
use Rattle.mt_propagate.specs.World.{world_view}
use Rattle.mt_bind.specs.Mounting.{bound}
use Rattle.mt_book.specs.Step.{act, with_made_number}
use Rattle.mt_book.proofs.acting.bind_tree.Goals as goal

pub returns-in_err-id-clause-refused : goal.returns-in_err-id-clause-refused
unfolding act
returns-in_err-id-clause-refused c =
    let p = err_from_is_err_and c.from_residual-in_err-id.result c.from_residual-in_err-id.ensures.1 in
    let w = world_view c.args.world.now in
    let first = sym (c.as_slice.ensures.value ∙ c.in_ok-src.ensures.names) in
    let second = sym (c.as_slice-2.ensures.value ∙ c.in_ok-dst.ensures.names) in
    rw (p.1, p.2) (λ ne. (λ i. with_made_number (bound w c.args.space c.args.recursive (first i) (second i))) ∙ ap with_made_number (c.in_err-id.ensures.refused ne))

pub returns-clause-done : goal.returns-clause-done
unfolding act
returns-clause-done c =
    let w = world_view c.args.world.now in
    let first = sym (c.as_slice.ensures.value ∙ c.in_ok-src.ensures.names) in
    let second = sym (c.as_slice-2.ensures.value ∙ c.in_ok-dst.ensures.names) in
    (λ i. with_made_number (bound w c.args.space c.args.recursive (first i) (second i))) ∙ ap with_made_number c.in_ok-id.ensures.done
