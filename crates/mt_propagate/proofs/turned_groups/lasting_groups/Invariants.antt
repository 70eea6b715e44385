use Rattle.std.proofs.Common.{◌≡◌, ◌||◌, ℕ, drop}
use Rattle.std.specs.List.{flat_map}
use Rattle.mt_skel.specs.Keyed.{among}
use Rattle.mt_propagate.specs.World.{world_view}
use Rattle.mt_propagate.specs.Turned.{groups_lasting}
use Rattle.mt_propagate.proofs.turned_groups.lasting_groups.Given as goal

-- the groups of the mounts passed in namespaces that last were appended, and no others
abbrev pub invariant-loop-id : goal.invariant-loop-id
invariant-loop-id l =
    (g : ℕ)
    → (among l.groups.items g || among (flat_map (groups_lasting (world_view l.before) (world_view l.after)) (drop l.id-index l.ids)) g)
    ≡ among (flat_map (groups_lasting (world_view l.before) (world_view l.after)) l.ids) g
