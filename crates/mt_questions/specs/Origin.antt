-- Where a mount comes from, and what takes it away.
-- A word with no source is this project's rule.
use Rattle.std.specs.Prelude.{ℕ, Bool, not, ◌==◌, List, [], Option, is_none}
use Rattle.std.specs.List.{filter}
use Rattle.std.specs.Option.{option_map, option_map_or}
use Rattle.mt_skel.specs.Skeleton.{path_eq}
use Rattle.mt_reach.specs.declared.row.SeenDirectory.{SeenDirectory}
use Rattle.mt_reach.specs.declared.row.SeenRow.{SeenRow}
use Rattle.mt_reach.specs.Reasons.{members_of, takers_of}
use Rattle.mt_reach.specs.Tree.{seen_parent_row}
use Rattle.mt_reach.specs.Walking.{end_of, directory_at}
use Rattle.mt_questions.specs.Copies.{masters_above}

-- the answer: the namespace and the path, the mount and the directory where the path ends, whether that is the root of the mount, its
-- peers, the groups of its masters upwards, whether it stands on no mount, and the mounts whose unmount takes it away
pub record OriginView : Type 0 where
  pub space : ℕ
  pub path : List (List ℕ)
  pub mount : ℕ
  pub directory : SeenDirectory
  pub is_mount : Bool
  pub peers : List ℕ
  pub masters : List ℕ
  pub is_root : Bool
  pub takers : List ℕ

-- the other members of the group of a mount (`sharedsubtree`, mount states)
abbrev pub other_members : List SeenRow → SeenRow → List ℕ
other_members rows r = option_map_or (λ g. filter (λ i. not (i == r.id)) (members_of rows g)) r.group []

abbrev pub origin_at : List SeenRow → ℕ → List (List ℕ) → SeenRow → OriginView
origin_at rows n path r = record {
  space = n;
  path = path;
  mount = r.id;
  directory = directory_at r path;
  is_mount = path_eq path r.point;
  peers = other_members rows r;
  masters = masters_above rows r;
  is_root = is_none (seen_parent_row rows r);
  takers = takers_of rows r;
}

-- the answer, if the table of the namespace has a root mount
abbrev pub origin_of : List SeenRow → ℕ → List (List ℕ) → Option OriginView
origin_of rows n path = option_map (origin_at rows n path) (end_of rows n path)
