use Rattle.std.proofs.Common.{◌≡◌, ◌==◌, ◌++◌, ◌∙◌, [], false, cond, length, ap, sym, codes}
use Rattle.std.specs.List.{flat_map}
use Rattle.mt_render.specs.Columns.{cells_line}
use Rattle.mt_render.proofs.AppendLaws.{two}
use Rattle.mt_render.proofs.trees.push_strays.Goals as goal

pub returns-in_ok-push_lines : goal.returns-in_ok-push_lines
returns-in_ok-push_lines c =
    let others = c.args.others.now in
    let lines = codes "not in a tree:\n" ++ flat_map (cells_line c.args.widths) others in
    let some : (length others == 0) ≡ false = sym c.is_empty.ensures ∙ c.if-not-is_empty.true in
    two c.args.text.now.items c.extend_from_slice.new.self.items c.push_lines.new.text.items (codes "not in a tree:\n") (flat_map (cells_line c.args.widths) others)
    c.in_ok-extend_from_slice.ensures.items c.in_ok-push_lines.ensures
    ∙ ap (λ b. c.args.text.now.items ++ cond b [] lines) (sym some)
