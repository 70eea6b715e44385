use Rattle.std.proofs.Common.{◌≡◌, ℕ, suc}
use Rattle.std.specs.Option.{option_map_or, option_and_then}
use Rattle.mt_lists.specs.Lists.{ids}
use Rattle.mt_lists.specs.Neighbours.{last_of, IsSought}
use Rattle.mt_lists.specs.Ties.{id_at}
use Rattle.mt_lists.proofs.PlaceLaws.{IsThere}
use Rattle.mt_lists.proofs.tying.sought_down.Given as goal

-- the search has come down to a place that has an ID, of each list that ends where it began
abbrev pub invariant-walk : goal.invariant-walk
invariant-walk g l = record {
  there : IsThere (id_at (g.T.Ties.ties l.ties)) l.here;
  sought : (n : ℕ) → id_at (g.T.Ties.ties l.ties) l.last ≡ last_of (ids (g.T.Ties.rows l.ties) n) → IsSought l.id (ids (g.T.Ties.rows l.ties) n) (option_and_then (id_at (g.T.Ties.ties l.ties)) l.here);
}

abbrev pub decreases-walk : goal.decreases-walk
decreases-walk g l = option_map_or (λ i. suc i) (option_and_then (id_at (g.T.Ties.ties l.ties)) l.here) 0
