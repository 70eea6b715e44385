use Rattle.std.proofs.Common.{ap, sym, ◌∙◌}
use Rattle.std.proofs.lemmas.Result.{err_from_is_err_and}
use Rattle.mt_propagate.specs.World.{world_view}
use Rattle.mt_bind.specs.Opening.{tree_opened}
use Rattle.mt_book.specs.Step.{act, with_made_number}
use Rattle.mt_book.proofs.acting.open_copy.Goals as goal

pub returns-in_err-tree-clause-refused : goal.returns-in_err-tree-clause-refused
unfolding act
returns-in_err-tree-clause-refused c =
    let p = err_from_is_err_and c.from_residual-in_err-tree.result c.from_residual-in_err-tree.ensures.1 in
    let w = world_view c.args.world.now in
    let path = sym (c.as_slice.ensures.value ∙ c.in_ok-to_vec.ensures.names) in
    rw (p.1, p.2) (λ ne. (λ i. with_made_number (tree_opened w c.args.space (path i) c.args.recursive)) ∙ ap with_made_number (c.in_err-tree.ensures.refused ne))

pub returns-clause-done : goal.returns-clause-done
unfolding act
returns-clause-done c =
    let w = world_view c.args.world.now in
    let path = sym (c.as_slice.ensures.value ∙ c.in_ok-to_vec.ensures.names) in
    (λ i. with_made_number (tree_opened w c.args.space (path i) c.args.recursive)) ∙ ap with_made_number c.in_ok-tree.ensures.done
