use Rattle.std.proofs.Common.{Some}
use Rattle.std.proofs.lemmas.Option.{slice_get_within}
use Rattle.mt_propagate.specs.World.{world_view}
use Rattle.mt_world.specs.declared.misfit.Misfit.TheVariants.{NoMaster}
use Rattle.mt_world.proofs.JoinedLaws.{joined_end, joined_same}
use Rattle.mt_world.proofs.KeptLaws.{set_at}
use Rattle.mt_world.proofs.joined.join_row.Goals as goal

pub join-requires-clause-there : goal.join-requires-clause-there
join-requires-clause-there c = c.requires.joined.there.there c.args.number c.args.row.now c.requires.here c.requires.kept

pub join-requires-clause-private : goal.join-requires-clause-private
join-requires-clause-private c = c.requires.joined.private c.args.number c.args.row.now NoMaster c.requires.here c.requires.kept c.requires.waits

pub returns-clause-joined : goal.returns-clause-joined
returns-clause-joined c =
    joined_end (world_view c.args.world.now) (world_view c.join.new.world) c.args.rows.now c.args.left.now c.args.lone.now.items _ c.args.number c.args.row.now c.requires.joined c.requires.here c.requires.kept
    NoMaster c.in_ok-why.why c.in_ok-why.ensures.joined c.in_ok-why.ensures.refused c.in_ok-why.ensures.kept c.requires.waits
    (set_at c.args.lone.now.items c.args.number c.in_ok-why.why (slice_get_within c.args.lone.now.items c.args.number (Some NoMaster) c.requires.waits))

pub returns-clause-same : goal.returns-clause-same
returns-clause-same c = joined_same (world_view c.args.world.now) (world_view c.join.new.world) c.args.row.now.id c.args.row.now.state c.in_ok-why.why c.in_ok-why.ensures.joined c.in_ok-why.ensures.refused
