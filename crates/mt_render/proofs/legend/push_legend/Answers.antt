use Rattle.std.proofs.Common.{◌≡◌, ◌==◌, ◌++◌, ◌∙◌, [], ℕ, List, false, cond, length, ap, sym, codes}
use Rattle.std.specs.List.{flat_map}
use Rattle.mt_render.specs.Legends.{legend_line, legend}
use Rattle.mt_render.proofs.AppendLaws.{three}
use Rattle.mt_render.proofs.legend.push_legend.Goals as goal

pub returns : goal.returns
unfolding legend
returns c =
    let gs = c.args.palette.now in
    let head = codes "\"legend\" [shape=plain, label=<<table border=\"0\" cellborder=\"0\">\n<tr><td>peer group</td><td>mounts</td></tr>\n" in
    let body = flat_map (legend_line gs c.args.nodes.now) gs in
    let foot = codes "</table>>];\n" in
    let some : (length gs == 0) ≡ false = ap (λ (ns : List ℕ). length ns == 0) (sym c.groups-groups.ensures) ∙ sym c.is_empty.ensures ∙ c.if-is_empty.false in
    three c.args.text.now.items c.extend_from_slice.new.self.items c.push_legend_lines.new.text.items c.extend_from_slice-2.new.self.items head body foot
    c.in_ok-extend_from_slice.ensures.items
    (c.in_ok-push_legend_lines.ensures ∙ ap (λ (ns : List ℕ). c.extend_from_slice.new.self.items ++ flat_map (legend_line gs c.args.nodes.now) ns) c.groups-groups.ensures)
    c.in_ok-extend_from_slice-2.ensures.items
    ∙ ap (λ b. c.args.text.now.items ++ cond b [] (head ++ (body ++ foot))) (sym some)
