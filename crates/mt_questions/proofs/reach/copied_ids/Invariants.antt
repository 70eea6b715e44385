use Rattle.std.proofs.Common.{◌≡◌, ◌∷◌, ◌++◌, map, drop}
use Rattle.mt_reach.specs.Rows.{seen_id}
use Rattle.mt_questions.proofs.reach.copied_ids.Given as goal

-- the place and those of the mounts passed, and of those to come
abbrev pub invariant-found : goal.invariant-found
invariant-found l = l.ids.items ++ map seen_id (map (λ row. row.now) (drop l.row-index l.found)) ≡ l.place.id ∷ map seen_id (map (λ row. row.now) l.found)
