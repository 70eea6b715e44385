use Rattle.std.proofs.Common.{length, ap, sym, ◌∙◌}
use Rattle.std.proofs.lemmas.List.{length-map}
use Rattle.mt_mounts.specs.Forest.{mounts_in}
use Rattle.mt_propagate.specs.World.{world_view}
use Rattle.mt_info.specs.Table.{row_of, table_of}
use Rattle.mt_book.proofs.book.Book.row_count.Goals as goal

pub returns : goal.returns
returns c =
    let w = world_view c.world.result.now in
    c.count_in.ensures ∙ sym (length-map (mounts_in w.forest c.args.space) (row_of w)) ∙ ap (λ v. length (table_of v c.args.space)) c.world.ensures.world
