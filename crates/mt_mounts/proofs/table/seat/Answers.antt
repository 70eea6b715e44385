use Rattle.std.proofs.Common.{None, slice_set, sym, ◌∙◌, ap}
use Rattle.std.specs.Option.{option_map}
use Rattle.std.proofs.lemmas.List.{set-get_or}
use Rattle.std.proofs.lemmas.Option.{get_or_from_slice_get}
use Rattle.mt_lists.specs.Lists.{with_number}
use Rattle.mt_lists.proofs.RowLaws.{row-unnumbered, without-absent}
use Rattle.mt_mounts.proofs.table.seat.Goals as goal

pub returns-in_default-clause-rows : goal.returns-in_default-clause-rows
returns-in_default-clause-rows c =
    sym (ap (λ o. with_number c.args.id o c.args.lists.now.rows) c.in_default.is ∙ without-absent c.args.id c.args.lists.now.rows (row-unnumbered c.args.id c.args.lists.now.rows c.requires.absent))

pub returns-in_default-clause-slots : goal.returns-in_default-clause-slots
returns-in_default-clause-slots c =
    let xs = c.args.lists.now.slots in
    sym (ap (λ o. slice_set xs c.args.slot (option_map (λ _. c.args.id) o)) c.in_default.is ∙ ap (slice_set xs c.args.slot) (sym (get_or_from_slice_get xs c.args.slot None None c.requires.free)) ∙ set-get_or xs c.args.slot None)
