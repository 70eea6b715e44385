-- Why a mount gets nothing of what is mounted on another one that shows the same directory, and what ties mounts together.
-- A word with no source is this project's rule.
use Rattle.std.specs.Prelude.{ℕ, Bool, false, cond, not, ◌&&◌, ◌||◌, ◌==◌, List, [], ◌++◌, map, length, drop, Option, is_some, is_none}
use Rattle.std.specs.List.{filter, find, starts_with}
use Rattle.std.specs.Option.{option_map_or, option_to_list}
use Rattle.std.specs.Str.{bytes_eq}
use Rattle.mt_skel.specs.Keyed.{among}
use Rattle.mt_skel.specs.Skeleton.{path_eq}
use Rattle.mt_peers.specs.Peers.{names}
use Rattle.mt_reach.specs.declared.reason.WhyNot.{WhyNot}
use Rattle.mt_reach.specs.declared.reason.WhyNot.TheVariants.{SourcePrivate, SourceUnbindable, StartsInSlave, Siblings, OnlySlave, Private, Unbindable, OtherGroup}
use Rattle.mt_reach.specs.declared.row.SeenDirectory.{SeenDirectory}
use Rattle.mt_reach.specs.declared.row.SeenRow.{SeenRow}
use Rattle.mt_reach.specs.Rows.{seen_id, device_eq}
use Rattle.mt_reach.specs.Tree.{steps_up, seen_parent_row}
use Rattle.mt_reach.specs.declared.upward.Step.TheVariants.{ToMaster}
use Rattle.mt_reach.specs.Reached.{row_gets}

-- a mount gets what happens at another one (`sharedsubtree`, mount states)
abbrev pub gets_at : List SeenRow → SeenRow → SeenRow → Bool
gets_at rows b r = not (b.id == r.id) && option_map_or (λ g. row_gets rows g r) b.group false

-- the groups from which a mount gets, its own first, and then its masters upwards (`sharedsubtree`, mount states)
abbrev pub groups_above : List SeenRow → SeenRow → List ℕ
groups_above rows r = option_to_list r.group ++ option_map_or (steps_up rows ToMaster) r.master []

-- a mount has neither group nor master (`sharedsubtree`, mount states)
abbrev pub is_untied : SeenRow → Bool
is_untied r = is_none r.group && is_none r.master

-- the nearest group above a mount from which another one gets as well
abbrev pub common_group : List SeenRow → SeenRow → SeenRow → Option ℕ
common_group rows b r = find (among (groups_above rows b)) (groups_above rows r)

-- why what is mounted on b does not come to r (`sharedsubtree`, mount states: propagation goes to peers and from masters to slaves)
abbrev pub reason_why : List SeenRow → SeenRow → SeenRow → WhyNot
reason_why rows b r =
    cond (is_untied b) (cond b.unbindable SourceUnbindable SourcePrivate)
    (cond (is_some b.group && is_untied r) (cond r.unbindable Unbindable Private)
    (cond (gets_at rows r b) StartsInSlave
    (option_map_or (λ g. Siblings g) (common_group rows b r) (cond (is_none b.group) OnlySlave OtherGroup))))

-- the members of a group, by rising ID (`sharedsubtree`, mount states)
abbrev pub members_of : List SeenRow → ℕ → List ℕ
members_of rows g = map seen_id (filter (λ (r : SeenRow). names r.group g) rows)

-- one of two directories is the other one, or in it, where a deleted directory counts as one in the root of its filesystem
abbrev pub overlaps : SeenDirectory → SeenDirectory → Bool
overlaps d e = device_eq d.device e.device && (starts_with bytes_eq d.path e.path || starts_with bytes_eq e.path d.path)

-- the mounts that show a directory, or something in it, by rising ID: these pin it
abbrev pub holders_of : List SeenRow → SeenDirectory → List ℕ
holders_of rows d = map seen_id (filter (λ (r : SeenRow). overlaps r.root d) rows)

-- the names from the root of the filesystem down to where a mount stands on another one
abbrev pub standing_names : SeenRow → SeenRow → List (List ℕ)
standing_names q r = q.root.path ++ drop (length q.point) r.point

-- an unmount of x takes the mount m away, which stands on p: x is another mount, and stands at the same directory of a mount from
-- which p gets (`sharedsubtree`, unmount semantics)
abbrev pub takes_away : List SeenRow → SeenRow → SeenRow → SeenRow → Bool
takes_away rows m p x =
    not (x.id == m.id) && option_map_or (λ q. path_eq (standing_names q x) (standing_names p m) && gets_at rows q p) (seen_parent_row rows x) false

-- the mounts whose unmount takes a mount away, by rising ID (`sharedsubtree`, unmount semantics)
abbrev pub takers_of : List SeenRow → SeenRow → List ℕ
takers_of rows m = option_map_or (λ p. map seen_id (filter (takes_away rows m p) rows)) (seen_parent_row rows m) []
