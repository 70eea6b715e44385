use Rattle.std.proofs.Common.{◌≡◌, drop}
use Rattle.std.specs.List.{list_any}
use Rattle.mt_propagate.specs.World.{world_view}
use Rattle.mt_info.specs.Table.{table_of}
use Rattle.mt_events.specs.ByMount.{is_news}
use Rattle.mt_events.proofs.comparison.any_news.Given as goal

-- none of the mounts passed has news, and the groups are those of both worlds
abbrev pub invariant-mounts : goal.invariant-mounts
invariant-mounts l = record {
  news : list_any (is_news (table_of (world_view l.before) l.space) (table_of (world_view l.after) l.space)) (drop l.id-index l.touched) ≡ list_any (is_news (table_of (world_view l.before) l.space) (table_of (world_view l.after) l.space)) l.touched;
  same_before : l.old ≡ l.before;
  same_after : l.new ≡ l.after;
}
