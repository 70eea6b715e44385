use Rattle.std.proofs.Common.{sym, ◌∙◌}
use Rattle.mt_propagate.specs.World.{world_view}
use Rattle.mt_book.proofs.SpareLaws.{behind_skel}
use Rattle.mt_book.proofs.spare.caught_up.Goals as goal

pub followed-requires-clause-skel : goal.followed-requires-clause-skel
followed-requires-clause-skel c =
    behind_skel c.args.journal.now (world_view c.args.world.value) (world_view c.args.shown.now) c.index-journal-journal.result c.requires.behind c.requires.shown c.index-journal-journal.is (sym c.makes_directories.ensures ∙ c.if-makes_directories.false)
