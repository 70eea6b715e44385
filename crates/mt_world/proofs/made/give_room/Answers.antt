use Rattle.mt_propagate.specs.World.{world_view}
use Rattle.mt_world.proofs.RaisedLaws.{bare_asked, room_asked}
use Rattle.mt_world.proofs.made.give_room.Goals as goal

pub returns-clause-bare : goal.returns-clause-bare
returns-clause-bare c = bare_asked (world_view c.args.world.now) c.give_room-given.new.self c.args.room c.give_room-given.result c.requires.bare c.give_room-given.ensures.done c.give_room-given.ensures.unchanged

pub returns-clause-room : goal.returns-clause-room
returns-clause-room c = room_asked c.args.world.now.skel c.give_room-given.new.self c.args.room c.give_room-given.result c.requires.empty c.give_room-given.ensures.done c.give_room-given.ensures.refused c.give_room-given.ensures.unchanged
