use Rattle.std.proofs.Common.{◌≡◌, ◌++◌, true, length}
use Rattle.std.specs.Option.{IfSome, option_and_then}
use Rattle.mt_skel.specs.Keyed.{among}
use Rattle.mt_lists.specs.Lists.{ids}
use Rattle.mt_lists.specs.SlotLists.{id_in}
use Rattle.mt_lists.proofs.WalkLaws.{rest_from}
use Rattle.mt_lists.proofs.PlaceLaws.{IsThere}
use Rattle.mt_lists.proofs.slot_lists.SlotLists.ids.Given as goal

-- the slot has an ID, and what was passed and what is left are the list
abbrev pub invariant-list : goal.invariant-list
invariant-list l = record {
  there : IsThere (id_in l.self.slots) l.here;
  told : l.found.items ++ rest_from (option_and_then (id_in l.self.slots) l.here) (ids l.self.rows l.number) ≡ ids l.self.rows l.number;
  inside : IfSome (option_and_then (id_in l.self.slots) l.here) (λ k. among (ids l.self.rows l.number) k ≡ true);
}

abbrev pub decreases-list : goal.decreases-list
decreases-list l = length (rest_from (option_and_then (id_in l.self.slots) l.here) (ids l.self.rows l.number))
