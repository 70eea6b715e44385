use Rattle.std.proofs.Common.{rules}
use Rattle.std.specs.Prelude.{nat_lt}
use Rattle.std.proofs.lemmas.List.Sorted.{IsPartitionPoint-from_clause, IsPartitionedBy-ltb}
use Rattle.mt_propagate.proofs.OrderLaws.{halved_found, halved_ended, halved_absent}
use Rattle.mt_propagate.proofs.order.halved_index.Goals as goal
use Rattle.mt_propagate.proofs.order.halved_index.Goals.{else-at-ids-via-then-at-ids+else-id-ids, else-at-ids-via-else-at-ids}

pub returns-then-id-ids : goal.returns-then-id-ids
returns-then-id-ids c =
    let parted = IsPartitionPoint-from_clause (λ y. nat_lt y c.args.id) _ _ c.partition_point-at.ensures.partitioned (IsPartitionedBy-ltb (λ y. y) c.args.ids.now c.args.id c.requires) (λ a r q k. search rules) in
    halved_found c.args.ids.now c.args.id c.partition_point-at.result c.requires c.partition_point-at.ensures.bound parted 0 c.if-at-ids.true c.if-id-ids.true

pub returns : goal.returns
returns c =
    let parted = IsPartitionPoint-from_clause (λ y. nat_lt y c.args.id) _ _ c.partition_point-at.ensures.partitioned (IsPartitionedBy-ltb (λ y. y) c.args.ids.now c.args.id c.requires) (λ a r q k. search rules) in
    elim c.else-at-ids.branch [
      | else-at-ids-via-then-at-ids+else-id-ids w ↦ halved_absent c.args.ids.now c.args.id c.partition_point-at.result c.requires c.partition_point-at.ensures.bound parted 0 w.if-at-ids.true w.if-id-ids.false
      | else-at-ids-via-else-at-ids w ↦ halved_ended c.args.ids.now c.args.id c.partition_point-at.result c.requires c.partition_point-at.ensures.bound parted w.if-at-ids.false
    ]
