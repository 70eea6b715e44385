-- The copies of a new mount: where they come, by which groups, and whether a path leads to them.
-- A word with no source is this project's rule.
use Rattle.std.specs.Prelude.{ℕ, Bool, false, cond, not, ◌==◌, List, [], length, drop, Option}
use Rattle.std.specs.List.{take_while}
use Rattle.std.specs.Option.{option_map_or, option_to_list}
use Rattle.mt_skel.specs.Skeleton.{path_eq}
use Rattle.mt_peers.specs.Peers.{names}
use Rattle.mt_reach.specs.declared.row.SeenDirectory.{SeenDirectory}
use Rattle.mt_reach.specs.declared.row.SeenRow.{SeenRow}
use Rattle.mt_reach.specs.Reasons.{gets_at, groups_above}
use Rattle.mt_reach.specs.Sight.{FrontView, point_on, front_from}
use Rattle.mt_reach.specs.Walking.{walked_from, root_row}
use Rattle.mt_questions.specs.declared.copies.Spot.{Spot}
use Rattle.mt_questions.specs.declared.copies.Way.{Way}
use Rattle.mt_questions.specs.declared.copies.Way.TheVariants.{Peer, Masters, Told}
use Rattle.mt_questions.specs.declared.copies.Sight.{Sight}
use Rattle.mt_questions.specs.declared.copies.Sight.TheVariants.{Seen, NoRoot, AtRoot, BehindCopy, Behind}

-- what a copy is: where it stands, how it comes there, the groups between its mount's master and the group, whether a path leads to it,
-- and whether one leads to the mount that it stands on
pub record ReachedView : Type 0 where
  pub spot : Spot
  pub way : Way
  pub between : List ℕ
  pub sight : Sight
  pub stops : Bool

-- where a mount made in a directory stands on a mount that shows it
abbrev pub spot_on : SeenDirectory → SeenRow → Spot
spot_on d r = record { space = r.space; mount = r.id; point = point_on r d }

-- two mounts are peers (`sharedsubtree`, mount states)
abbrev pub are_peers : SeenRow → SeenRow → Bool
are_peers b r = option_map_or (names r.group) b.group false

-- how the mount r gets what happens at b: it is a peer, or below it by masters that have members, or as other rows tell
-- (`sharedsubtree`, mount states; proc_pid_mountinfo(5), propagate_from)
abbrev pub way_of : List SeenRow → SeenRow → SeenRow → Way
way_of rows b r = cond (are_peers b r) Peer (cond (gets_at rows b r) Masters Told)

-- the masters of a mount upwards
abbrev pub masters_above : List SeenRow → SeenRow → List ℕ
masters_above rows r = drop (length (option_to_list r.group)) (groups_above rows r)

-- a group is another one than that at which the way ends
unfoldable pub is_on_way : Option ℕ → ℕ → Bool
is_on_way end h = not (names end h)

-- those of them below the group of b
abbrev pub masters_below : List SeenRow → SeenRow → SeenRow → List ℕ
masters_below rows b r = take_while (is_on_way b.group) (masters_above rows r)

-- a walk of a path in the namespace of a mount ends on that mount (path_resolution(7))
abbrev pub leads_to : List SeenRow → SeenRow → List (List ℕ) → Bool
leads_to rows r path = option_map_or (λ root. (walked_from rows root [] path).id == r.id) (root_row rows r.space) false

-- what is seen at the mount point of the copy that comes to the mount r, where a walk of it ends so
abbrev pub sight_at : SeenRow → FrontView → Sight
sight_at r f = cond f.is_copy (cond (f.row.id == r.id) Seen (BehindCopy f.row.id)) (Behind f.row.id)

-- whether a path leads to the copy on the mount r once copies stand in the directory d of the mounts with these IDs
abbrev pub sight_of : List SeenRow → SeenDirectory → List ℕ → SeenRow → Sight
sight_of rows d ids r =
    cond (path_eq (point_on r d) []) AtRoot (option_map_or (λ root. sight_at r (front_from rows d ids root [] (point_on r d))) (root_row rows r.space) NoRoot)

-- the copy that comes to the mount r of what is made in the directory d of the mount b, where copies come to the mounts with these IDs
unfoldable pub copy_on : List SeenRow → SeenRow → SeenDirectory → List ℕ → SeenRow → ReachedView
copy_on rows b d ids r = record {
  spot = spot_on d r;
  way = way_of rows b r;
  between = masters_below rows b r;
  sight = sight_of rows d ids r;
  stops = leads_to rows r r.point;
}
