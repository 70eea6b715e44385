use Rattle.std.proofs.Common.{◌≡◌, ℕ, ◌-◌, Some, true}
use Rattle.std.specs.Option.{option_map_or}
use Rattle.mt_skel.specs.Keyed.{among}
use Rattle.mt_lists.specs.Lists.{ids}
use Rattle.mt_lists.specs.Ties.{id_at, IsBelow}
use Rattle.mt_lists.proofs.tying.sought_up.Given as goal

-- the search has come to a place whose ID is below the new one, of the same list
abbrev pub invariant-walk : goal.invariant-walk
invariant-walk g l = record {
  below : IsBelow (g.T.Ties.ties l.ties) l.id l.here;
  inside : (n i j : ℕ) → id_at (g.T.Ties.ties l.ties) l.start ≡ Some i → among (ids (g.T.Ties.rows l.ties) n) i ≡ true → id_at (g.T.Ties.ties l.ties) l.here ≡ Some j → among (ids (g.T.Ties.rows l.ties) n) j ≡ true;
}

abbrev pub decreases-walk : goal.decreases-walk
decreases-walk g l = l.id - option_map_or (λ i. i) (id_at (g.T.Ties.ties l.ties) l.here) 0
