use Rattle.std.proofs.Common.{◌≡◌, ◌++◌, true, length}
use Rattle.std.specs.Option.{IfSome}
use Rattle.mt_skel.specs.Keyed.{among}
use Rattle.mt_lists.specs.Lists.{ids}
use Rattle.mt_lists.proofs.WalkLaws.{rest_from}
use Rattle.mt_lists.proofs.lists.Lists.ids.Given as goal

-- what was passed and what is left are the list
abbrev pub invariant-list : goal.invariant-list
invariant-list l = record {
  told : l.found.items ++ rest_from l.here (ids l.self.rows l.number) ≡ ids l.self.rows l.number;
  inside : IfSome l.here (λ k. among (ids l.self.rows l.number) k ≡ true);
}

abbrev pub decreases-list : goal.decreases-list
decreases-list l = length (rest_from l.here (ids l.self.rows l.number))
