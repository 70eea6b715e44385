use Rattle.std.proofs.Common.{◌≡◌, ◌++◌, drop}
use Rattle.std.specs.List.{flat_map, AllByRecursion}
use Rattle.mt_import.specs.Telling.{space_comments, HasMakingOrder}
use Rattle.mt_import.proofs.telling.tell_spaces.Given as goal

-- what was appended and what is left are all, and if the tables that are left have their trees, all have
abbrev pub invariant-spaces : goal.invariant-spaces
invariant-spaces l = record {
  text : l.script ++ flat_map space_comments (drop l.space-index l.spaces) ≡ l.initial.script ++ flat_map space_comments l.spaces;
  trees : AllByRecursion HasMakingOrder (drop l.space-index l.spaces) → AllByRecursion HasMakingOrder l.spaces;
}
