-- The mounts that are named for a refusal.
-- A word with no source is this project's rule.
use Rattle.std.specs.Prelude.{ℕ, Bool, ◌&&◌, List, [], ◌∷◌, ◌++◌, map, is_none}
use Rattle.std.specs.List.{filter, starts_with}
use Rattle.std.specs.Option.{option_map, option_map_or, option_to_list}
use Rattle.std.specs.Str.{bytes_eq}
use Rattle.mt_skel.specs.Skeleton.{path_eq}
use Rattle.mt_book.specs.declared.command.Command.{Command}
use Rattle.mt_reach.specs.declared.row.SeenRow.{SeenRow}
use Rattle.mt_reach.specs.Rows.{seen_id, seen_at, seen_group}
use Rattle.mt_reach.specs.Tree.{stands_on_row, seen_parent_row, seen_children}
use Rattle.mt_reach.specs.Walking.{stacked_at}
use Rattle.mt_reach.specs.Reasons.{members_of}
use Rattle.mt_reach.specs.Refusals as refusals
use Rattle.mt_refused.specs.declared.asked.Which.TheVariants.{First}
use Rattle.mt_refused.specs.declared.hindrance.Hindrance.{Hindrance}
use Rattle.mt_refused.specs.declared.hindrance.Hindrance.TheVariants as hindrance
use Rattle.mt_refused.specs.Asked.{asked_path}

-- the root mounts of all namespaces, by rising ID (mount_namespaces(7))
abbrev pub is_space_root : List SeenRow → SeenRow → Bool
is_space_root rows r = path_eq r.point [] && is_none (seen_parent_row rows r)

abbrev pub root_mounts : List SeenRow → List ℕ
root_mounts rows = map seen_id (filter (is_space_root rows) rows)

-- a mount stands on q, at a path or below it
abbrev pub is_below_path : SeenRow → List (List ℕ) → SeenRow → Bool
is_below_path q path r = stands_on_row q r && starts_with bytes_eq r.point path

-- those, by rising ID
abbrev pub standing_below : List SeenRow → List (List ℕ) → SeenRow → List ℕ
standing_below rows path q = map seen_id (filter (is_below_path q path) rows)

-- those that stand on a mount where the first path of a command ends, or below that
abbrev pub below_path : List SeenRow → Command → ℕ → List ℕ
below_path rows c on = option_map_or (λ path. option_map_or (standing_below rows path) (seen_at rows on) []) (asked_path c First) []

-- what stands on the root of a mount
abbrev pub covering : List SeenRow → ℕ → List ℕ
covering rows i = option_map_or (λ r. option_to_list (option_map seen_id (stacked_at rows [] r))) (seen_at rows i) []

-- the members of a mount's peer group, itself among them
abbrev pub members_with : List SeenRow → ℕ → List ℕ
members_with rows i = option_map_or (members_of rows) (seen_group rows i) []

-- the unbindable mounts of a tree, and the mount on which it would stand
abbrev pub unbindable_onto : List SeenRow → ℕ → ℕ → List ℕ
unbindable_onto rows tree onto = refusals.unbindable_inside rows tree onto ++ onto ∷ []

-- the mounts that are named for a hindrance
abbrev pub witnesses : List SeenRow → Command → Hindrance → List ℕ
witnesses rows c (hindrance.NoNamespace n) = root_mounts rows
witnesses rows c (hindrance.OffRoot on) = on ∷ below_path rows c on
witnesses rows c (hindrance.RootPlace which root) = root ∷ covering rows root
witnesses rows c (hindrance.Unbindable on) = on ∷ []
witnesses rows c (hindrance.SharedParent on) = members_with rows on
witnesses rows c (hindrance.SharedPlace on) = members_with rows on
witnesses rows c (hindrance.IntoItself tree onto) = refusals.into_itself rows tree onto
witnesses rows c (hindrance.LeftOutside new onto) = refusals.left_outside rows new onto
witnesses rows c (hindrance.UnbindableInside tree onto) = unbindable_onto rows tree onto
witnesses rows c (hindrance.Busy on) = seen_children rows on
witnesses rows c hindrance.TwoTimes = []
witnesses rows c hindrance.Clash = []
witnesses rows c (hindrance.Locked i) = i ∷ []
witnesses rows c (hindrance.LockedInside on) = on ∷ below_path rows c on
witnesses rows c (hindrance.LockedAttr i) = i ∷ []
