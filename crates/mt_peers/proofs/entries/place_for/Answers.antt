use Rattle.std.proofs.Common.{rules, leb, sym, ◌∙◌}
use Rattle.std.proofs.lemmas.List.Sorted.{IsPartitionPoint-from_clause, IsPartitionedBy-leb}
use Rattle.mt_peers.specs.declared.entries.Entry.{Entry}
use Rattle.mt_peers.proofs.EntryLaws.{entry_mount, rises_now, non_decreasing, place_parted}
use Rattle.mt_peers.proofs.entries.place_for.Goals as goal

pub returns-clause-place : goal.returns-clause-place
returns-clause-place c =
    let rise = non_decreasing c.args.entries.now (sym (rises_now c.args.entries.now) ∙ c.requires) in
    let parted = IsPartitionPoint-from_clause (λ (e : Entry). leb e.mount c.args.id) _ _ c.partition_point.ensures.partitioned (IsPartitionedBy-leb entry_mount c.args.entries.now c.args.id rise) (λ a r q k. search rules) in
    place_parted c.args.id c.args.entries.now c.partition_point.result c.partition_point.ensures.bound parted
