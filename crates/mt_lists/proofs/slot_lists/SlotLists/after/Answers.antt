use Rattle.std.proofs.Common.{ap, ◌∙◌}
use Rattle.std.specs.Option.{option_map}
use Rattle.mt_lists.specs.SlotLists.{id_in}
use Rattle.mt_lists.specs.Slots.{ids_in}
use Rattle.mt_lists.proofs.TiedLaws.{after-in}
use Rattle.mt_lists.proofs.slot_lists.SlotLists.after.Goals as goal

pub returns : goal.returns
returns c =
    rw (← c.self.view_is)
    (ap (option_map (id_in (ids_in c.self.inside.ties.items))) c.after_of.ensures ∙ after-in c.self.inside.ties.items c.self.inside.tops c.self.invariant c.args.slot)
