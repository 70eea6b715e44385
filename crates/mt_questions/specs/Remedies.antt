-- What helps where a mount does not come to another one that shows the directory.
-- A word with no source is this project's rule.
use Rattle.std.specs.Prelude.{ℕ, Bool, true, false, cond, not, ◌&&◌, ◌==◌, List, [], length, is_some, is_none}
use Rattle.std.specs.List.{filter, find, starts_with}
use Rattle.std.specs.Option.{option_map_or}
use Rattle.std.specs.Str.{bytes_eq}
use Rattle.mt_skel.specs.Keyed.{among}
use Rattle.mt_skel.specs.Skeleton.{path_eq}
use Rattle.mt_reach.specs.declared.reason.WhyNot.{WhyNot}
use Rattle.mt_reach.specs.declared.reason.WhyNot.TheVariants.{StartsInSlave, Siblings}
use Rattle.mt_reach.specs.declared.row.SeenDirectory.{SeenDirectory}
use Rattle.mt_reach.specs.declared.row.SeenRow.{SeenRow}
use Rattle.mt_reach.specs.Rows.{shows}
use Rattle.mt_reach.specs.Reasons.{gets_at, reason_why, takers_of}
use Rattle.mt_reach.specs.Sight.{point_on}
use Rattle.mt_reach.specs.Walking.{end_of}
use Rattle.mt_reach.specs.Tree.{seen_children, seen_parent_row}
use Rattle.mt_questions.specs.Copies.{spot_on, leads_to}
use Rattle.mt_questions.specs.declared.remedy.ApartMount.{ApartMount}
use Rattle.mt_questions.specs.declared.remedy.Elsewhere.{Elsewhere}
use Rattle.mt_questions.specs.declared.remedy.Elsewhere.TheVariants.{Both, Alone, InFront, Nowhere}
use Rattle.mt_questions.specs.declared.remedy.Join.{Join}
use Rattle.mt_questions.specs.declared.remedy.Joining.{Joining}
use Rattle.mt_questions.specs.declared.remedy.Joining.TheVariants.{Unneeded, Bind, Anew, Again}

-- a mount can be made in the directory d of the mount m: it shows that, and a path that is not the root of the namespace leads there
abbrev pub can_mount_on : List SeenRow → SeenDirectory → SeenRow → Bool
can_mount_on rows d m = shows m d && not (path_eq (point_on m d) []) && leads_to rows m (point_on m d)

-- the mounts where it can be made, those of each namespace together
abbrev pub open_rows : List SeenRow → SeenDirectory → List SeenRow → List SeenRow
open_rows rows d all = filter (can_mount_on rows d) all

-- what is made at the mount m comes to both of two others (`sharedsubtree`, mount states)
abbrev pub serves_both : List SeenRow → SeenRow → SeenRow → SeenRow → Bool
serves_both rows b r m = gets_at rows m b && gets_at rows m r

-- where a path ends instead of at the mount r
abbrev pub in_the_way : List SeenRow → SeenDirectory → SeenRow → Elsewhere
in_the_way rows d r = option_map_or (λ (m : SeenRow). InFront m.id) (end_of rows r.space (point_on r d)) Nowhere

-- a place from which what is made there comes to the mount r: this itself, or one of those where it can be made
abbrev pub comes_here : List SeenRow → List SeenRow → SeenDirectory → SeenRow → Elsewhere
comes_here rows opens d r =
    cond (can_mount_on rows d r) (Alone r.id) (option_map_or (λ (m : SeenRow). Alone m.id) (find (λ m. gets_at rows m r) opens) (in_the_way rows d r))

-- a place from which it comes to both mounts, and else one from which it comes to the mount r
abbrev pub made_elsewhere : List SeenRow → List SeenRow → SeenRow → SeenDirectory → SeenRow → Elsewhere
made_elsewhere rows opens b d r =
    cond (gets_at rows r b && can_mount_on rows d r) (Both r.id) (option_map_or (λ (m : SeenRow). Both m.id) (find (serves_both rows b r) opens) (comes_here rows opens d r))

-- what is apart can be joined, unless one gets from the other, or both from a third
abbrev pub can_join : WhyNot → Bool
can_join StartsInSlave = false
can_join (Siblings g) = false
can_join why = true

-- the mount that shows more of the filesystem, or is the first of two that show as much, and the other one, which can be made anew from it
abbrev pub shows_more : SeenRow → SeenRow → Bool
shows_more b r = starts_with bytes_eq r.root.path b.root.path

-- nothing stands on a mount
abbrev pub bears_none : List SeenRow → ℕ → Bool
bears_none rows i = length (seen_children rows i) == 0

-- a mount can be unmounted: it stands on one, nothing stands on it, and a path leads to it (umount(2))
abbrev pub can_go : List SeenRow → SeenRow → Bool
can_go rows r = is_some (seen_parent_row rows r) && (bears_none rows r.id && leads_to rows r r.point)

-- the mount `to` can be unmounted and made anew by a bind from `from`: paths lead to `from` and to the directory, and the unmount
-- does not take `from` away
abbrev pub can_bind : List SeenRow → SeenRow → SeenRow → Bool
can_bind rows from to = leads_to rows from from.point && (can_go rows to && (not (among (takers_of rows from) to.id) && leads_to rows from (point_on from to.root)))

-- how the mount `to` is made anew from `from`
abbrev pub joined_by : List SeenRow → SeenRow → SeenRow → Joining
joined_by rows from to = cond (from.space == to.space) (cond (can_bind rows from to) Bind Anew) Again

abbrev pub join_from : List SeenRow → SeenRow → SeenRow → Join
join_from rows from to = record { from = from.id; to = to.id; shares = is_none from.group; how = joined_by rows from to }

-- how what is made at b would come to r, if one of them were made anew from the other
abbrev pub join_of : List SeenRow → WhyNot → SeenRow → SeenRow → Join
join_of rows why b r =
    cond (can_join why) (cond (shows_more b r) (join_from rows b r) (join_from rows r b)) (record { from = b.id; to = r.id; shares = false; how = Unneeded })

-- a mount to which nothing comes: where a mount there would stand, why it does not come, and what helps
unfoldable pub apart_on : List SeenRow → List SeenRow → SeenRow → SeenDirectory → SeenRow → ApartMount
apart_on rows opens b d r = record {
  spot = spot_on d r;
  why = reason_why rows b r;
  elsewhere = made_elsewhere rows opens b d r;
  join = join_of rows (reason_why rows b r) b r;
}
