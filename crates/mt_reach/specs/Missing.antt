-- Whether a mount gets what happens in a group, as far as the rows tell: rows of other tables may be missing.
-- A word with no source is this project's rule.
use Rattle.std.specs.Prelude.{ℕ, Bool, false, cond, ◌&&◌, ◌||◌, ◌==◌, List, [], ◌∷◌, ◌++◌, Option, is_none}
use Rattle.std.specs.List.{filter, find, flat_map, list_all, list_any}
use Rattle.std.specs.Option.{option_and_then, option_map_or}
use Rattle.mt_peers.specs.Peers.{names, has_member}
use Rattle.mt_peers.specs.Masters.{master_of}
use Rattle.mt_reach.specs.declared.missing.Gets.{Gets}
use Rattle.mt_reach.specs.declared.missing.Gets.TheVariants.{Yes, No, Unknown}
use Rattle.mt_reach.specs.declared.row.SeenRow.{SeenRow}
use Rattle.mt_reach.specs.declared.upward.Step.TheVariants.{ToTold}
use Rattle.mt_reach.specs.Rows.{peers_in}
use Rattle.mt_reach.specs.Tree.{seen_or_told, steps_up, leads_up}

module _ (rows : List SeenRow) where
  -- the nearest group above a mount that has a member, or is told (`sharedsubtree`, mount states; proc_pid_mountinfo(5), propagate_from)
  abbrev pub nearest_told : SeenRow → Option ℕ
  nearest_told r = option_and_then (seen_or_told rows) r.master

  -- and all groups upwards from there
  abbrev pub groups_told : SeenRow → List ℕ
  groups_told r = option_map_or (steps_up rows ToTold) (nearest_told r) []

  -- a mount gets what happens in the group g: it is in it, or g is above it, as far as that is told
  abbrev pub gets_told : ℕ → SeenRow → Bool
  gets_told g r = names r.group g || option_map_or (leads_up rows ToTold g) (nearest_told r) false

  -- a master that has no member
  abbrev pub if_missing : Option ℕ → List ℕ
  if_missing o = option_map_or (λ m. cond (has_member (peers_in rows) m) [] (m ∷ [])) o []

  -- the masters without a member on the way up from a mount
  abbrev pub missing_groups : SeenRow → List ℕ
  missing_groups r = if_missing r.master ++ flat_map (λ g. if_missing (master_of (peers_in rows) g)) (groups_told r)

  -- a group has a member in a namespace
  abbrev pub is_in_space : ℕ → ℕ → Bool
  is_in_space n g = list_any (λ (r : SeenRow). (r.space == n) && names r.group g) rows

  -- nothing is told of what is above a group, though it has a master
  abbrev pub is_untold : ℕ → Bool
  is_untold g = option_map_or (λ m. is_none (seen_or_told rows m)) (master_of (peers_in rows) g) false

  -- the group h may be above the master of a mount: the nearest group from h upwards that has a member in the mount's namespace is the
  -- one that the mount tells, and where there is none, it tells none, or nothing is told further up (proc_pid_mountinfo(5),
  -- propagate_from)
  abbrev pub fits_above : ℕ → SeenRow → Bool
  fits_above h r =
      option_map_or (λ q. names r.via q) (find (is_in_space r.space) (steps_up rows ToTold h)) (is_none r.via || list_any is_untold (steps_up rows ToTold h))

  -- it may be above a group without a member: for all slaves of that
  abbrev pub may_be_above : ℕ → ℕ → Bool
  may_be_above h x = list_all (fits_above h) (filter (λ (r : SeenRow). names r.master x) rows)

  -- whether a mount gets what happens in the group g, as far as rows tell
  abbrev pub gets_as_told : ℕ → SeenRow → Gets
  gets_as_told g r = cond (gets_told g r) Yes (cond (list_any (may_be_above g) (missing_groups r)) Unknown No)
