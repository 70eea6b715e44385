use Rattle.std.proofs.Common.{refl}
use Rattle.mt_floor.proofs.PlaceLaws.{sought, row_read}
use Rattle.mt_floor.proofs.KeptLaws.{unsought, close_done}
use Rattle.mt_floor.proofs.floor.Floor.close.Goals as goal

pub returns-in_default-clause-done : goal.returns-in_default-clause-done
returns-in_default-clause-done c = (unsought c.self.invariant c.self.view_is c.args.key c.deref.ensures.value c.place_of.ensures.value c.in_default.is).close c.requires.idle

pub invariant_of-self : goal.invariant_of-self
invariant_of-self c =
    let at = row_read (sought c.args.key c.deref.ensures.value c.place_of.ensures.value c.in-Some.is) c.remove-row.ensures.value in
    (close_done c.self.invariant c.self.view_is at c.requires.idle c.remove-row.ensures.items refl).kept

pub returns-clause-done : goal.returns-clause-done
returns-clause-done c =
    let at = row_read (sought c.args.key c.deref.ensures.value c.place_of.ensures.value c.in-Some.is) c.remove-row.ensures.value in
    (close_done c.self.invariant c.self.view_is at c.requires.idle c.remove-row.ensures.items c.into_posts.ensures).step
