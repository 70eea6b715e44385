use Rattle.std.proofs.Common.{ℕ, Option, ◌++◌, ◌∙◌, ap, sym, codes}
use Rattle.mt_render.specs.Palettes.{colour}
use Rattle.mt_render.specs.Graphs.{outline}
use Rattle.mt_render.proofs.AppendLaws.{two}
use Rattle.mt_render.proofs.graph.push_outline.Goals as goal

pub returns-in_ok-extend_from_slice-2 : goal.returns-in_ok-extend_from_slice-2
returns-in_ok-extend_from_slice-2 c =
    let gs = c.args.palette.now in
    two c.args.text.now.items c.extend_from_slice.new.self.items c.extend_from_slice-in-Some.new.self.items (codes ", penwidth=2, color=") (colour gs c.in-Some.group)
    c.in_ok-extend_from_slice.ensures.items (c.in_ok-extend_from_slice-2.ensures.items ∙ ap (λ t. c.extend_from_slice.new.self.items ++ t) c.colour.ensures)
    ∙ ap (λ (o : Option ℕ). c.args.text.now.items ++ outline gs o) (sym c.in-Some.is)
