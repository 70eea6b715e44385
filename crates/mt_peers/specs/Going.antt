-- Mounts that leave without taking another mount's master along. No public clause cites this module. A word with no
-- source is this project's rule.
use Rattle.std.specs.Prelude.{ℕ, Bool, true, not, ◌||◌, List}
use Rattle.std.specs.List.{list_any, list_all}
use Rattle.std.specs.Option.{option_map_or}
use Rattle.mt_lists.specs.Lists.{ListRow, listed_number, ids, first, names}
use Rattle.mt_peers.specs.declared.state.Kind.{Kind}
use Rattle.mt_peers.specs.declared.state.Kind.TheVariants.{Shared, Private, Slave, Unbindable}

-- one of these mounts stays
abbrev pub stays : (ℕ → Bool) → List ℕ → Bool
stays gone xs = list_any (λ i. not (gone i)) xs

-- a mount that leaves takes no master along: of its group, where it is the first member, a member stays or no slave does
abbrev pub may_go : List ListRow → List ListRow → (ℕ → Bool) → ℕ → Bool
may_go members slaves gone i = option_map_or (λ g. not (names (first (ids members g)) i) || (stays gone (ids members g) || not (stays gone (ids slaves g)))) (listed_number members i) true

-- the group that a mount loses keeps a member, where the mount is the first one of it
abbrev pub keeps : List ListRow → (ℕ → Bool) → ℕ → Bool
keeps members lost i = option_map_or (λ g. not (names (first (ids members g)) i) || stays lost (ids members g)) (listed_number members i) true

-- each group that is a master keeps a member when these mounts are made so
abbrev pub loses_none : Kind → List ListRow → List ListRow → (ℕ → Bool) → List ℕ → Bool
loses_none Shared members slaves chosen ids = true
loses_none Slave members slaves chosen ids = list_all (keeps members chosen) ids
loses_none Private members slaves chosen ids = list_all (may_go members slaves chosen) ids
loses_none Unbindable members slaves chosen ids = list_all (may_go members slaves chosen) ids
