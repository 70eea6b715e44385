-- What is answered to the questions where a mount comes from, and what pins a filesystem, as lines of a text.
-- A word with no source is this project's rule.
use Rattle.std.specs.Prelude.{ℕ, Bool, false, cond, ◌==◌, List, [], ◌∷◌, ◌++◌, length, take, Option, codes, decimal}
use Rattle.std.specs.List.{filter, flat_map, list_any}
use Rattle.std.specs.Option.{option_map_or}
use Rattle.mt_skel.specs.Escapes.{escaped}
use Rattle.mt_reach.specs.declared.row.SeenDirectory.{SeenDirectory}
use Rattle.mt_reach.specs.declared.row.SeenRow.{SeenRow}
use Rattle.mt_reach.specs.Rows.{seen_at}
use Rattle.mt_reach.specs.Reasons.{members_of}
use Rattle.mt_questions.specs.declared.table.NamedSpace.{NamedSpace}
use Rattle.mt_questions.specs.Tables.{SeenView}
use Rattle.mt_questions.specs.Holders.{HolderView}
use Rattle.mt_questions.specs.Origin.{OriginView}
use Rattle.mt_questions.specs.ReachText.{most_named, more_words, of_mount}
use Rattle.mt_questions.specs.Wording.{numbered_space, path_words, directory_words, device_words, tags_words, row_words, words_of_mount, id_and_point}

-- mounts
abbrev pub mounts_list : SeenView → List ℕ → List ℕ
mounts_list t [] = []
mounts_list t (i ∷ is) = words_of_mount t i ++ flat_map (λ j. codes ", " ++ words_of_mount t j) is

-- the first of some mounts, and how many more there are
unfoldable pub mounts_words : SeenView → List ℕ → List ℕ
mounts_words t ids = mounts_list t (take most_named ids) ++ more_words (length ids)

-- the same, or that there are none in these tables
abbrev pub mounts_or : SeenView → List ℕ → List ℕ → List ℕ
mounts_or t none [] = none
mounts_or t none (i ∷ is) = mounts_words t (i ∷ is)

-- the directory that a mount shows, if that is not the root of its filesystem
abbrev pub shown_part : SeenDirectory → List (List ℕ) → List ℕ
shown_part d [] = []
shown_part d (n ∷ ns) = codes "[" ++ directory_words d ++ codes "]"

-- what a mount shows (findmnt(8), SOURCE)
unfoldable pub shown_words : SeenRow → List ℕ
shown_words r = escaped r.source ++ shown_part r.root r.root.path

-- where it stands
unfoldable pub stands_words : SeenView → OriginView → SeenRow → List ℕ
stands_words t o r = codes "Mount " ++ decimal r.id ++ codes " at " ++ path_words r.point ++ codes " in " ++ numbered_space t o.space

-- the type of its filesystem, and how it propagates
unfoldable pub type_words : SeenRow → List ℕ
type_words r = codes " (" ++ escaped r.kind ++ tags_words r ++ codes ").\n"

unfoldable pub mount_line : SeenView → OriginView → SeenRow → List ℕ
mount_line t o r = stands_words t o r ++ codes " shows " ++ shown_words r ++ type_words r

unfoldable pub peers_line : SeenView → SeenRow → List ℕ → List ℕ
peers_line t r ids = option_map_or (λ g. codes "  peers in group " ++ decimal g ++ codes ": " ++ mounts_or t (codes "none in these tables") ids ++ codes "\n") r.group []

unfoldable pub master_line : SeenView → List ℕ → ℕ → List ℕ
master_line t word g = word ++ decimal g ++ codes ": " ++ mounts_or t (codes "no mount in these tables") (members_of t.rows g) ++ codes "\n"

unfoldable pub nearest_line : SeenView → ℕ → List ℕ
nearest_line t g = master_line t (codes "  gets from group ") g

unfoldable pub upper_line : SeenView → ℕ → List ℕ
upper_line t g = master_line t (codes "  which gets from group ") g

abbrev pub masters_lines : SeenView → List ℕ → List ℕ
masters_lines t [] = []
masters_lines t (g ∷ gs) = nearest_line t g ++ flat_map (upper_line t) gs

-- what takes a mount away
unfoldable pub no_taker : List ℕ
no_taker = codes "  only an unmount of itself takes it away\n"

unfoldable pub some_takers : SeenView → List ℕ → List ℕ
some_takers t ids = codes "  goes too when this is unmounted: " ++ mounts_words t ids ++ codes "\n"

abbrev pub takers_words : SeenView → List ℕ → List ℕ
takers_words t [] = no_taker
takers_words t (i ∷ is) = some_takers t (i ∷ is)

unfoldable pub takers_line : SeenView → OriginView → List ℕ
takers_line t o = cond o.is_root (codes "  it is the root mount of its namespace\n") (takers_words t o.takers)

-- a directory of a mount, behind words
unfoldable pub directory_on : List ℕ → SeenDirectory → SeenRow → List ℕ
directory_on word d r = word ++ directory_words d ++ codes " of mount " ++ decimal r.id ++ codes " (" ++ path_words r.point ++ codes ").\n"

-- a path that names no mount
abbrev pub no_mount_line : SeenView → OriginView → SeenRow → List ℕ
no_mount_line t o r = path_words o.path ++ codes " in " ++ numbered_space t o.space ++ directory_on (codes " is no mount: it is directory ") o.directory r

abbrev pub origin_lines : SeenView → OriginView → SeenRow → List ℕ
origin_lines t o r = cond o.is_mount (mount_line t o r ++ peers_line t r o.peers ++ masters_lines t o.masters ++ takers_line t o) (no_mount_line t o r)

-- the answer
unfoldable pub origin_text : SeenView → OriginView → List ℕ
origin_text t o = of_mount t o.mount (origin_lines t o)

-- what is in front of a mount that pins
unfoldable pub front_words : SeenView → Option ℕ → List ℕ
front_words t o = option_map_or (λ i. codes "; hidden by mount " ++ id_and_point t i) o []

-- how many mounts stand on it
unfoldable pub count_words : ℕ → List ℕ
count_words n = cond (n == 0) [] (codes "; " ++ decimal n ++ cond (n == 1) (codes " mount stands on it") (codes " mounts stand on it"))

-- with what it goes
abbrev pub goes_words : SeenView → List ℕ → List ℕ
goes_words t [] = []
goes_words t (i ∷ is) = codes "; goes with " ++ mounts_words t (i ∷ is)

-- and the directory that it shows
unfoldable pub shows_words : SeenView → SeenRow → List ℕ
shows_words t r = codes "  " ++ row_words t r ++ codes " shows " ++ directory_words r.root

-- what it shows, and how it propagates
unfoldable pub pins_words : SeenView → SeenRow → List ℕ
pins_words t r = shows_words t r ++ codes " of " ++ device_words r.root.device ++ tags_words r

abbrev pub holder_line_of : SeenView → HolderView → SeenRow → List ℕ
holder_line_of t h r =
    pins_words t r ++ front_words t h.front ++ count_words h.standing ++ goes_words t h.takers ++ codes "\n"

abbrev pub holder_line : SeenView → HolderView → List ℕ
holder_line t h = of_mount t h.mount (holder_line_of t h)

-- a mount that pins is in a namespace
abbrev pub is_held_in : SeenView → ℕ → HolderView → Bool
is_held_in t n h = option_map_or (λ (r : SeenRow). r.space == n) (seen_at t.rows h.mount) false

abbrev pub is_held : SeenView → List HolderView → NamedSpace → Bool
is_held t hs s = list_any (is_held_in t s.space) hs

-- a count of mounts, and one of namespaces
unfoldable pub pinning_count : ℕ → List ℕ
pinning_count n = decimal n ++ cond (n == 1) (codes " mount in ") (codes " mounts in ")

unfoldable pub spaces_words : ℕ → List ℕ
spaces_words n = decimal n ++ cond (n == 1) (codes " namespace:\n") (codes " namespaces:\n")

-- how many mounts there are, and in how many of the namespaces
unfoldable pub sum_words : SeenView → List HolderView → List ℕ
sum_words t hs = pinning_count (length hs) ++ decimal (length (filter (is_held t hs) t.names)) ++ codes " of " ++ spaces_words (length t.names)

abbrev pub holders_lines : SeenView → List HolderView → List ℕ
holders_lines t [] = codes "no mount of these tables shows it.\n"
holders_lines t (h ∷ hs) = sum_words t (h ∷ hs) ++ flat_map (holder_line t) (h ∷ hs)

-- the answer under a title
unfoldable pub holders_text : SeenView → List ℕ → List HolderView → List ℕ
holders_text t title hs = title ++ codes ": " ++ holders_lines t hs

-- the title of a directory where a path of the namespace n ends on the mount r
unfoldable pub source_words : SeenRow → SeenDirectory → List ℕ
source_words r d = escaped r.source ++ shown_part d d.path ++ codes ", device " ++ device_words d.device

unfoldable pub directory_title : SeenView → ℕ → List (List ℕ) → SeenRow → SeenDirectory → List ℕ
directory_title t n path r d = path_words path ++ codes " in " ++ numbered_space t n ++ codes " is " ++ source_words r d
