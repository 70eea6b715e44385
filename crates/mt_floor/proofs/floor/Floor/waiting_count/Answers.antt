use Rattle.std.proofs.Common.{◌∙◌, length, sym, ap}
use Rattle.mt_floor.proofs.PlaceLaws.{sought, row_read}
use Rattle.mt_floor.proofs.KeptLaws.{unsought, waiting_is}
use Rattle.mt_floor.proofs.floor.Floor.waiting_count.Goals as goal

pub returns-in_default : goal.returns-in_default
returns-in_default c = sym (ap length (unsought c.self.invariant c.self.view_is c.args.key c.deref.ensures.value c.place_of.ensures.value c.in_default.is).waits)

pub returns : goal.returns
returns c =
    let at = row_read (sought c.args.key c.deref.ensures.value c.place_of.ensures.value c.in-Some.is) c.index.ensures in
    c.waiting_count.ensures ∙ sym (ap length (waiting_is c.self.invariant c.self.view_is at))
