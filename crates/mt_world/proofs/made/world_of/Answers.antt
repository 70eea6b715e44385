use Rattle.std.proofs.Common.{ap, ◌∙◌}
use Rattle.mt_propagate.specs.World.{WorldView, world_view}
use Rattle.mt_world.proofs.MadeLaws.{plain_told}
use Rattle.mt_world.proofs.RaisedLaws.{bare_new}
use Rattle.mt_world.proofs.made.world_of.Goals as goal

pub give_room-requires-clause-bare : goal.give_room-requires-clause-bare
give_room-requires-clause-bare c = bare_new (world_view c.new-world.result) c.new-world.ensures.world c.new-world.ensures.kept

pub give_room-requires-clause-empty : goal.give_room-requires-clause-empty
give_room-requires-clause-empty c = ap (λ (w : WorldView). w.skel) c.new-world.ensures.world

pub returns-clause-plain : goal.returns-clause-plain
returns-clause-plain c p room = plain_told (world_view c.fill.new.world) c.args.rows.now c.in_ok-left.left.items c.in_ok-left.private.items c.in_ok-left.ensures.made p room

pub returns-clause-room : goal.returns-clause-room
returns-clause-room c = c.in_ok-left.ensures.room ∙ c.give_room.ensures.room

pub returns-clause-well_formed : goal.returns-clause-well_formed
returns-clause-well_formed c = c.in_ok-left.ensures.made.sound.well_formed
