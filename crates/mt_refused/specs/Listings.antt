-- The rows of the mounts that are named for a hindrance: number, mount point, source with the directory that is shown, propagation, the
-- namespace if it is another one, and what hides the mount.
-- A word with no source is this project's rule.
use Rattle.std.specs.Prelude.{ℕ, ◌-◌, ◌==◌, false, cond, nat_le, ◌&&◌, List, [], ◌++◌, length, take, Option, is_none, codes, decimal}
use Rattle.std.specs.List.{flat_map}
use Rattle.std.specs.Option.{option_map_or}
use Rattle.mt_skel.specs.Escapes.{escaped}
use Rattle.mt_skel.specs.Skeleton.{path_eq}
use Rattle.mt_info.specs.RowLine.{path_text}
use Rattle.mt_reach.specs.declared.row.SeenDirectory.{SeenDirectory}
use Rattle.mt_reach.specs.declared.row.SeenRow.{SeenRow}
use Rattle.mt_reach.specs.Rows.{seen_at}
use Rattle.mt_reach.specs.Walking.{mount_in_front}
use Rattle.mt_refused.specs.Asked.{asked_space}
use Rattle.mt_refused.specs.Titles.{TitlesView, number_text, space_told}
use Rattle.mt_refused.specs.Pages.{PageView}

-- a directory, or what is shown where there is none (proc_pid_mountinfo(5), field 4)
abbrev pub directory_text : SeenDirectory → List ℕ
directory_text d = cond d.unlinked (flat_map escaped d.path) (path_text d.path)

-- in brackets, unless it is the root of its filesystem (findmnt(8))
abbrev pub bracketed_root : SeenDirectory → List ℕ
bracketed_root d = cond (path_eq d.path []) [] (codes "[" ++ (directory_text d ++ codes "]"))

abbrev pub source_text : SeenRow → List ℕ
source_text r = codes " " ++ (escaped r.source ++ bracketed_root r.root)

-- an optional field (proc_pid_mountinfo(5), field 7)
abbrev pub group_field_text : TitlesView → List ℕ → Option ℕ → List ℕ
group_field_text v word o = option_map_or (λ g. word ++ number_text v.last_group g) o []

abbrev pub alone_text : SeenRow → List ℕ
alone_text r = cond r.unbindable (codes " unbindable") (cond (is_none r.group && is_none r.master) (codes " private") [])

abbrev pub propagation_fields : TitlesView → SeenRow → List ℕ
propagation_fields v r = group_field_text v (codes " shared:") r.group ++ (group_field_text v (codes " master:") r.master ++ (group_field_text v (codes " propagate_from:") r.via ++ alone_text r))

-- the namespace of a mount, unless it is that of the command
abbrev pub other_space_text : PageView → SeenRow → List ℕ
other_space_text v r = cond (option_map_or (λ n. n == r.space) (asked_space v.command) false) [] (codes " in " ++ space_told v.titles r.space)

-- the mount that a path leads to which is the mount point of another one (path_resolution(7))
abbrev pub hidden_text : TitlesView → SeenRow → SeenRow → List ℕ
hidden_text v r front = cond (front.id == r.id) [] (codes ", hidden by mount " ++ number_text v.last_mount front.id)

abbrev pub head_text : TitlesView → SeenRow → List ℕ
head_text v r = codes "    " ++ (number_text v.last_mount r.id ++ (codes " " ++ (path_text r.point ++ source_text r)))

abbrev pub told_text : PageView → SeenRow → List ℕ
told_text v r = head_text v.titles r ++ (propagation_fields v.titles r ++ other_space_text v r)

abbrev pub cover_text : PageView → SeenRow → List ℕ
cover_text v r = option_map_or (hidden_text v.titles r) (mount_in_front v.rows r) []

abbrev pub cover_end : PageView → SeenRow → List ℕ
cover_end v r = cover_text v r ++ codes "\n"

-- the line of a mount
abbrev pub told_line : PageView → ℕ → List ℕ
told_line v i = option_map_or (λ r. told_text v r ++ cover_end v r) (seen_at v.rows i) []

-- how many more there are
abbrev pub more_text : ℕ → List ℕ
more_text n = codes "    and " ++ (decimal n ++ codes " more\n")

-- the lines of mounts, of the first eight alone where there are more
abbrev pub listed_rows : PageView → List ℕ → List ℕ
listed_rows v ids = cond (nat_le (length ids) 8) (flat_map (told_line v) ids) (flat_map (told_line v) (take 8 ids) ++ more_text (length ids - 8))
