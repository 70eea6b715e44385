use Rattle.std.proofs.Common.{rules, slice_get, sym, ap, ◌∙◌}
use Rattle.mt_import.proofs.TreeLaws.{next_on, got_of}
use Rattle.mt_import.proofs.tree.Tree.placed.Goals as goal

pub returns : goal.returns
returns c =
    next_on c.args.self.now.told.rows c.args.self.now.mounts c.in-Some.row.now c.args.number c.len-here.result c.args.above c.in-Some-get.parent.now c.in_ok-placed.placed (search rules)
    (sym (ap (λ v. slice_get v.mounts c.args.above) c.self.view_is) ∙ got_of c.self.inside.mounts.items c.args.above c.in-Some-get.parent.now (search rules) (search rules))
    (ap (λ rows. slice_get rows c.args.number) (sym c.rows.ensures) ∙ got_of c.rows.result.now c.args.number c.in-Some.row.now (search rules) (search rules))
    c.in_ok-placed.ensures.place c.in_ok-placed.ensures.on
