use Rattle.std.proofs.Common.{length, ap, arith}
use Rattle.mt_lists.proofs.SlotLaws.{length-in}
use Rattle.mt_lists.proofs.slot_lists.SlotLists.insert.Goals as goal

pub tie-requires-clause-few : goal.tie-requires-clause-few
tie-requires-clause-few c =
    let rows = length-in c.self.inside.ties.items in
    let same = ap length c.as_slice-ties.ensures.value in
    let small = c.as_slice-ties.type_inv.1 in
    omega (arith, rows, same, small)
