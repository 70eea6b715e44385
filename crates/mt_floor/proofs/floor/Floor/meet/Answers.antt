use Rattle.std.proofs.Common.{arith}
use Rattle.mt_floor.proofs.PlaceLaws.{sought, row_read}
use Rattle.mt_floor.proofs.KeptLaws.{unsought, meet_some, few}
use Rattle.mt_floor.proofs.floor.Floor.meet.Goals as goal

pub returns-in_default-clause-done : goal.returns-in_default-clause-done
returns-in_default-clause-done c = (unsought c.self.invariant c.self.view_is c.args.key c.deref.ensures.value c.place_of.ensures.value c.in_default.is).meet c.requires.idle

pub meeting-requires : goal.meeting-requires
meeting-requires c =
    let at = row_read (sought c.args.key c.deref.ensures.value c.place_of.ensures.value c.in-Some.is) c.index.ensures in
    omega (arith, few c.self.invariant c.self.view_is at)

pub returns-clause-done : goal.returns-clause-done
returns-clause-done c =
    let at = row_read (sought c.args.key c.deref.ensures.value c.place_of.ensures.value c.in-Some.is) c.index.ensures in
    meet_some c.self.invariant c.self.view_is at c.requires.idle c.meeting.ensures
