use Rattle.std.proofs.Common.{◌≡◌, ◌++◌, map, drop}
use Rattle.mt_info.specs.Building.{behind}
use Rattle.mt_requests.specs.Printed.{words_there}
use Rattle.mt_requests.proofs.listing.push_listed.Given as goal

-- what was appended, and what is to come
abbrev pub invariant-rows : goal.invariant-rows
invariant-rows l = l.list.items ++ behind 44 (words_there (map (λ r. (r.0, r.1.now)) (drop l.row-index l.rows))) ≡ l.initial.list.items ++ behind 44 (words_there (map (λ r. (r.0, r.1.now)) l.rows))
