use Rattle.std.proofs.Common.{◌++◌, codes}
use Rattle.std.specs.List.{join_with_byte}
use Rattle.mt_skel.specs.Escapes.{escaped}
use Rattle.mt_info.specs.RowLine.{option_words}
use Rattle.mt_render.specs.Labels.{label_text, numbered_point}
use Rattle.mt_render.specs.Propagation.{propagation}
use Rattle.mt_render.specs.Trees.{shown_root}
use Rattle.mt_render.proofs.AppendLaws.{seven}
use Rattle.mt_render.proofs.labels.push_node_label.Goals as goal

pub returns : goal.returns
returns c =
    let r = c.args.row.now in
    seven c.args.text.now.items c.push_numbered_point.new.text.items c.extend_from_slice.new.self.items c.push_kind.new.text.items c.extend_from_slice-2.new.self.items c.push_options.new.text.items
    c.extend_from_slice-3.new.self.items c.push_propagation.new.text.items
    (numbered_point r) (codes "\\n") (label_text (escaped r.kind ++ shown_root r.root)) (codes "\\n") (join_with_byte 44 (option_words r.attrs)) (codes "\\n") (propagation r)
    c.in_ok-push_numbered_point.ensures c.in_ok-extend_from_slice.ensures.items c.in_ok-push_kind.ensures c.in_ok-extend_from_slice-2.ensures.items c.in_ok-push_options.ensures.text c.in_ok-extend_from_slice-3.ensures.items
    c.in_ok-push_propagation.ensures
