-- What stands on what, by the rows alone, and steps up: from a mount to the one that it stands on, from a peer group to its master.
-- A word with no source is this project's rule.
use Rattle.std.specs.Prelude.{ℕ, Bool, cond, not, ◌&&◌, ◌==◌, List, [], map, length, Option, Some, None, is_some}
use Rattle.std.specs.List.{filter, find, list_any, starts_with}
use Rattle.std.specs.Option.{option_and_then, option_map, option_map_or}
use Rattle.std.specs.Str.{bytes_eq}
use Rattle.mt_skel.specs.Chain.{chain}
use Rattle.mt_peers.specs.Peers.{names, has_member}
use Rattle.mt_peers.specs.Masters.{master_of}
use Rattle.mt_reach.specs.declared.row.SeenRow.{SeenRow}
use Rattle.mt_reach.specs.declared.upward.Step.{Step}
use Rattle.mt_reach.specs.declared.upward.Step.TheVariants.{ToMaster, ToTold, ToParent}
use Rattle.mt_reach.specs.Rows.{seen_id, seen_at, peers_in}

-- a mount stands on another one: it tells that as its parent, both are of one namespace, and its mount point is below the other's.
-- A root mount tells itself, or a mount that its table has not (proc_pid_mountinfo(5), fields 1, 2 and 5)
abbrev pub stands_on_row : SeenRow → SeenRow → Bool
stands_on_row q r = (r.parent == q.id) && not (r.id == q.id) && (r.space == q.space) && starts_with bytes_eq r.point q.point

-- what a mount stands on, if its table has that
abbrev pub seen_parent_row : List SeenRow → SeenRow → Option SeenRow
seen_parent_row rows r = option_and_then (λ (q : SeenRow). cond (stands_on_row q r) (Some q) None) (seen_at rows r.parent)

-- the parent of a mount
abbrev pub seen_parent : List SeenRow → ℕ → Option ℕ
seen_parent rows i = option_map seen_id (option_and_then (seen_parent_row rows) (seen_at rows i))

-- the mounts that stand on a mount, by rising ID
abbrev pub seen_children : List SeenRow → ℕ → List ℕ
seen_children rows i = option_map_or (λ q. map seen_id (filter (stands_on_row q) rows)) (seen_at rows i) []

-- the group above one without a member that a slave of it tells (proc_pid_mountinfo(5), propagate_from)
abbrev pub told_above : List SeenRow → ℕ → Option ℕ
told_above rows g = option_and_then (λ (r : SeenRow). r.via) (find (λ (r : SeenRow). names r.master g && is_some r.via) rows)

-- a group, if it has a member, and else the group above it that is told
abbrev pub seen_or_told : List SeenRow → ℕ → Option ℕ
seen_or_told rows g = cond (has_member (peers_in rows) g) (Some g) (told_above rows g)

-- a step up
abbrev pub step_up : List SeenRow → Step → ℕ → Option ℕ
step_up rows ToMaster g = master_of (peers_in rows) g
step_up rows ToTold g = option_and_then (seen_or_told rows) (master_of (peers_in rows) g)
step_up rows ToParent i = seen_parent rows i

-- a number and those above it
abbrev pub steps_up : List SeenRow → Step → ℕ → List ℕ
steps_up rows step h = chain (step_up rows step) (length rows) h

-- the goal is met from a number on
abbrev pub leads_up : List SeenRow → Step → ℕ → ℕ → Bool
leads_up rows step goal h = list_any (λ k. k == goal) (steps_up rows step h)

-- a mount is in the tree of mount i: it is that one, or stands on it at whatever height
abbrev pub in_tree : List SeenRow → ℕ → ℕ → Bool
in_tree rows i j = leads_up rows ToParent i j
