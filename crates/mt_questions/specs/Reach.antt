-- What is answered to the question where a mount made at a path comes.
-- A word with no source is this project's rule.
use Rattle.std.specs.Prelude.{ℕ, Bool, false, cond, not, ◌&&◌, ◌==◌, List, [], ◌∷◌, map, length, Option, Some, None}
use Rattle.std.specs.List.{filter, filter_map, find, list_any}
use Rattle.std.specs.Option.{option_and_then, option_map, option_map_or}
use Rattle.mt_skel.specs.Skeleton.{path_eq}
use Rattle.mt_peers.specs.Peers.{names, has_member}
use Rattle.mt_reach.specs.declared.row.SeenDirectory.{SeenDirectory}
use Rattle.mt_reach.specs.declared.row.SeenRow.{SeenRow}
use Rattle.mt_reach.specs.Rows.{seen_id, shows, peers_in}
use Rattle.mt_reach.specs.Missing.{missing_groups}
use Rattle.mt_reach.specs.Walking.{end_of, directory_at}
use Rattle.mt_questions.specs.declared.copies.Spot.{Spot}
use Rattle.mt_questions.specs.declared.fate.Fate.{Fate}
use Rattle.mt_questions.specs.declared.fate.Fate.TheVariants.{Comes, MayCome, Stays, Passes}
use Rattle.mt_questions.specs.declared.remedy.ApartMount.{ApartMount}
use Rattle.mt_questions.specs.declared.table.NamedSpace.{NamedSpace}
use Rattle.mt_questions.specs.Tables.{SeenView, rows_by_space}
use Rattle.mt_questions.specs.Fates.{has_fate}
use Rattle.mt_questions.specs.Copies.{ReachedView, spot_on, copy_on}
use Rattle.mt_questions.specs.Remedies.{open_rows, apart_on}

-- a mount of which these tables do not tell whether a copy comes to it: where the copy would stand, and the groups that have no member
pub record UntoldView : Type 0 where
  pub spot : Spot
  pub missing : List ℕ

-- the answer: the namespace and the path, the mount and the directory where the path ends, the copies, the mounts of which it is not told,
-- those that show the directory and get nothing, those that get and do not show it, the namespaces where nothing shows it, and the groups
-- of which masters are told and no members
pub record ReachView : Type 0 where
  pub space : ℕ
  pub path : List (List ℕ)
  pub mount : ℕ
  pub directory : SeenDirectory
  pub copies : List ReachedView
  pub untold : List UntoldView
  pub apart : List ApartMount
  pub passes : List ℕ
  pub without : List ℕ
  pub missing : List ℕ

unfoldable pub untold_on : List SeenRow → SeenDirectory → SeenRow → UntoldView
untold_on rows d r = record { spot = spot_on d r; missing = missing_groups rows r }

-- those of some mounts that have this fate
abbrev pub of_fate : List SeenRow → SeenRow → SeenDirectory → Fate → List SeenRow → List SeenRow
of_fate rows b d f all = filter (has_fate rows b d f) all

-- a mount of a namespace shows the directory
abbrev pub shows_in : SeenDirectory → ℕ → SeenRow → Bool
shows_in d n r = (r.space == n) && shows r d

-- no mount of a namespace shows the directory
abbrev pub is_without : List SeenRow → SeenDirectory → NamedSpace → Bool
is_without rows d s = not (list_any (shows_in d s.space) rows)

abbrev pub number_of_space : NamedSpace → ℕ
number_of_space s = s.space

-- the first mount that tells this master
abbrev pub tells_first : List SeenRow → SeenRow → ℕ → Bool
tells_first rows r m = option_map_or (λ (q : SeenRow). q.id == r.id) (find (λ (q : SeenRow). names q.master m) rows) false

-- the master of a mount, if it has no member, and no mount with a lower ID tells it
abbrev pub missing_at : List SeenRow → SeenRow → Option ℕ
missing_at rows r = option_and_then (λ m. cond (not (has_member (peers_in rows) m) && tells_first rows r m) (Some m) None) r.master

-- the groups without a member, each once
abbrev pub missing_in : List SeenRow → List ℕ
missing_in rows = filter_map (missing_at rows) rows

-- the IDs of the place and of those mounts to which copies come
abbrev pub copied_ids : List SeenRow → SeenRow → SeenDirectory → List SeenRow → List ℕ
copied_ids rows b d all = b.id ∷ map seen_id (of_fate rows b d Comes all)

-- the answer where a path of a namespace ends in the directory d of the mount b, given all mounts, those of each namespace together
abbrev pub reach_among : SeenView → ℕ → List (List ℕ) → SeenRow → SeenDirectory → List SeenRow → ReachView
reach_among t n path b d all = record {
  space = n;
  path = path;
  mount = b.id;
  directory = d;
  copies = map (copy_on t.rows b d (copied_ids t.rows b d all)) (of_fate t.rows b d Comes all);
  untold = map (untold_on t.rows d) (of_fate t.rows b d MayCome all);
  apart = map (apart_on t.rows (open_rows t.rows d all) b d) (of_fate t.rows b d Stays all);
  passes = map seen_id (of_fate t.rows b d Passes all);
  without = map number_of_space (filter (is_without t.rows d) t.names);
  missing = missing_in t.rows;
}

abbrev pub reach_from : SeenView → ℕ → List (List ℕ) → SeenRow → ReachView
reach_from t n path b = reach_among t n path b (directory_at b path) (rows_by_space t)

-- the answer, if the table of the namespace has a root mount
abbrev pub reach_of : SeenView → ℕ → List (List ℕ) → Option ReachView
reach_of t n path = option_map (reach_from t n path) (end_of t.rows n path)

-- a copy comes to another mount, or may come: not at the root of a namespace, where the mount is refused
abbrev pub comes_elsewhere : ReachView → Bool
comes_elsewhere a = not (path_eq a.path []) && not ((length a.copies == 0) && (length a.untold == 0))
