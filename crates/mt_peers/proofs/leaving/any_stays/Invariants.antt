use Rattle.std.proofs.Common.{◌≡◌, true, length, IfSome}
use Rattle.mt_skel.specs.Keyed.{among}
use Rattle.mt_lists.specs.Lists.{ids}
use Rattle.mt_lists.proofs.WalkLaws.{rest_from}
use Rattle.mt_peers.specs.Going.{stays}
use Rattle.mt_peers.proofs.leaving.any_stays.Given as goal

-- no mount passed stays
abbrev pub invariant-list : goal.invariant-list
invariant-list l = record {
  told : stays (among l.gone) (rest_from l.here (ids l.lists.rows l.group)) ≡ stays (among l.gone) (ids l.lists.rows l.group);
  inside : IfSome l.here (λ k. among (ids l.lists.rows l.group) k ≡ true);
}

abbrev pub decreases-list : goal.decreases-list
decreases-list l = length (rest_from l.here (ids l.lists.rows l.group))
