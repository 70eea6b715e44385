use Rattle.std.proofs.Common.{◌≡◌, ◌++◌, drop}
use Rattle.std.specs.List.{flat_map}
use Rattle.mt_peers.specs.Masters.{master_of}
use Rattle.mt_reach.specs.Rows.{peers_in}
use Rattle.mt_reach.specs.Missing.{if_missing}
use Rattle.mt_reach.proofs.missing.missing_groups.Given as goal

-- those of the groups passed, and of those to come
abbrev pub invariant-told : goal.invariant-told
invariant-told l =
    l.groups.items ++ flat_map (λ g. if_missing l.rows (master_of (peers_in l.rows) g)) (drop l.group-index l.group-items) ≡ if_missing l.rows l.row.master ++ flat_map (λ g. if_missing l.rows (master_of (peers_in l.rows) g)) l.group-items
