use Rattle.std.proofs.Common.{◌++◌, ◌∙◌, ap, length, codes, decimal}
use Rattle.std.specs.List.{filter}
use Rattle.mt_render.specs.Groups.{is_member}
use Rattle.mt_render.specs.Palettes.{colour}
use Rattle.mt_render.specs.Legends.{legend_line}
use Rattle.mt_render.proofs.AppendLaws.{seven}
use Rattle.mt_render.proofs.legend.push_legend_line.Goals as goal

pub returns : goal.returns
unfolding legend_line
returns c =
    let gs = c.args.palette.now in
    let g = c.args.group in
    let count = length (filter (is_member g) c.args.nodes.now) in
    seven c.args.text.now.items c.extend_from_slice.new.self.items c.extend_from_slice-2.new.self.items c.extend_from_slice-3.new.self.items c.push_number.new.text.items c.extend_from_slice-4.new.self.items c.push_number-2.new.text.items c.extend_from_slice-5.new.self.items
    (codes "<tr><td border=\"2\" color=\"") (colour gs g) (codes "\">") (decimal g) (codes "</td><td>") (decimal count) (codes "</td></tr>\n")
    c.in_ok-extend_from_slice.ensures.items (c.in_ok-extend_from_slice-2.ensures.items ∙ ap (λ t. c.extend_from_slice.new.self.items ++ t) c.colour.ensures) c.in_ok-extend_from_slice-3.ensures.items c.in_ok-push_number.ensures.text
    c.in_ok-extend_from_slice-4.ensures.items (c.in_ok-push_number-2.ensures.text ∙ ap (λ k. c.extend_from_slice-4.new.self.items ++ decimal k) c.count.ensures) c.in_ok-extend_from_slice-5.ensures.items
