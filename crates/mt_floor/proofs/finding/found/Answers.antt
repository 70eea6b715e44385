use Rattle.std.proofs.Common.{◌∙◌, ap}
use Rattle.std.specs.List.{flat_map}
use Rattle.mt_floor.specs.Finding.{part_if, opening_of_parts}
use Rattle.mt_floor.proofs.OpeningLaws.{opening_found, found_rises}
use Rattle.mt_floor.proofs.finding.found.Goals as goal

pub new-requires : goal.new-requires
new-requires c =
    let cs = c.args.book.now.journal in
    found_rises cs c.args.scope c.in_ok-spaces.spaces.items c.in_ok-parts.parts.items c.in_ok-spaces.ensures.spaces
    (c.in_ok-parts.ensures.parts ∙ ap (flat_map (part_if cs c.args.scope)) c.deref.ensures.value)

pub returns-clause-opening : goal.returns-clause-opening
returns-clause-opening c =
    let cs = c.args.book.now.journal in
    opening_found cs c.args.scope (opening_of_parts c.args.scope c.new.result) c.in_ok-spaces.spaces.items c.in_ok-parts.parts.items c.in_ok-spaces.ensures.spaces
    (c.in_ok-parts.ensures.parts ∙ ap (flat_map (part_if cs c.args.scope)) c.deref.ensures.value) (ap (opening_of_parts c.args.scope) c.new.ensures)
