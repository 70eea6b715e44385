use Rattle.std.proofs.Common.{[], ap, sym, ◌∙◌, append-nil}
use Rattle.mt_propagate.specs.World.{world_view}
use Rattle.mt_propagate.proofs.GrownLaws.{grown-kept}
use Rattle.mt_book.proofs.SkelLaws.{room_accepted}
use Rattle.mt_book.proofs.acting.give_room.Goals as goal

pub returns-clause-kept : goal.returns-clause-kept
returns-clause-kept c =
    let same = room_accepted (world_view c.args.world.now).skel c.give_room.new.self c.args.room c.in_ok-give_room.ensures.done in
    grown-kept (world_view c.args.world.now) c.give_room.new.self [] (ap (λ s. s.directories) (sym same) ∙ sym (append-nil _)) c.requires.well_formed
