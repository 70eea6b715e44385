-- What is answered to the question where a mount comes, as lines of a text.
-- A word with no source is this project's rule.
use Rattle.std.specs.Prelude.{ℕ, ◌-◌, Bool, true, false, cond, ◌==◌, nat_lt, List, [], ◌∷◌, ◌++◌, map, length, take, drop, Option, Some, None, is_none, codes, decimal}
use Rattle.std.specs.List.{find, flat_map}
use Rattle.std.specs.Option.{option_map_or}
use Rattle.mt_skel.specs.Skeleton.{path_eq}
use Rattle.mt_peers.specs.Peers.{names}
use Rattle.mt_reach.specs.declared.reason.WhyNot.{WhyNot}
use Rattle.mt_reach.specs.declared.reason.WhyNot.TheVariants.{SourcePrivate, SourceUnbindable, StartsInSlave, Siblings, OnlySlave, Private, Unbindable, OtherGroup}
use Rattle.mt_reach.specs.declared.row.SeenDirectory.{SeenDirectory}
use Rattle.mt_reach.specs.declared.row.SeenRow.{SeenRow}
use Rattle.mt_reach.specs.Rows.{seen_at}
use Rattle.mt_reach.specs.Sight.{point_on}
use Rattle.mt_questions.specs.declared.copies.Sight.{Sight}
use Rattle.mt_questions.specs.declared.copies.Sight.TheVariants.{Seen, NoRoot, AtRoot, BehindCopy, Behind}
use Rattle.mt_questions.specs.declared.copies.Spot.{Spot}
use Rattle.mt_questions.specs.declared.copies.Way.{Way}
use Rattle.mt_questions.specs.declared.copies.Way.TheVariants.{Peer, Masters, Told}
use Rattle.mt_questions.specs.declared.remedy.ApartMount.{ApartMount}
use Rattle.mt_questions.specs.declared.remedy.Elsewhere.{Elsewhere}
use Rattle.mt_questions.specs.declared.remedy.Elsewhere.TheVariants.{Both, Alone, InFront, Nowhere}
use Rattle.mt_questions.specs.declared.remedy.Join.{Join}
use Rattle.mt_questions.specs.declared.remedy.Joining.{Joining}
use Rattle.mt_questions.specs.declared.remedy.Joining.TheVariants.{Unneeded, Bind, Anew, Again}
use Rattle.mt_questions.specs.Copies.{ReachedView}
use Rattle.mt_questions.specs.Reach.{ReachView, UntoldView}
use Rattle.mt_questions.specs.Tables.{SeenView}
use Rattle.mt_questions.specs.Wording.{called, numbered_space, path_words, directory_words, device_words, group_words, tags_words, row_words, words_of_mount, id_and_point}

-- one, or so many others
abbrev pub count_of_others : ℕ → List ℕ
count_of_others n = decimal n ++ cond (n == 1) (codes " other:\n") (codes " others:\n")

-- the mount at the place
unfoldable pub place_words : SeenRow → List ℕ
place_words b = codes " stands on mount " ++ decimal b.id ++ codes " (" ++ path_words b.point ++ tags_words b ++ codes ").\n"

-- the place, and what stands there
unfoldable pub opening_line : SeenView → ReachView → SeenRow → List ℕ
opening_line t a b =
    codes "A mount at " ++ path_words a.path ++ codes " in " ++ numbered_space t a.space ++ place_words b

-- where a copy would stand
unfoldable pub spot_words : SeenView → Spot → List ℕ
spot_words t s = path_words s.point ++ codes " in " ++ called t s.space ++ codes "  on mount " ++ decimal s.mount ++ codes ": "

-- the first member of a group
abbrev pub member_words : SeenView → ℕ → List ℕ
member_words t g = option_map_or (row_words t) (find (λ (r : SeenRow). names r.group g) t.rows) (codes "no mount in these tables")

-- a group between two others, with its first member
abbrev pub between_words : SeenView → ℕ → List ℕ
between_words t g = codes "group " ++ decimal g ++ codes " (" ++ member_words t g ++ codes "), that of "

-- the groups up to that of the place
abbrev pub chain_words : SeenView → List ℕ → SeenRow → List ℕ
chain_words t gs b = codes "slave of " ++ flat_map (between_words t) gs ++ group_words (codes "group ") b.group

-- a group of its own, in which what comes goes on
abbrev pub own_words : SeenView → ℕ → List ℕ
own_words t i = option_map_or (λ (r : SeenRow). group_words (codes "; in group ") r.group) (seen_at t.rows i) []

abbrev pub masters_words : SeenView → ReachedView → SeenRow → List ℕ → List ℕ
masters_words t c b words = chain_words t c.between b ++ words ++ own_words t c.spot.mount

-- how a mount gets what happens at the place
unfoldable pub way_words : SeenView → ReachedView → SeenRow → Way → List ℕ
way_words t c b Peer = group_words (codes "peer, group ") b.group
way_words t c b Masters = masters_words t c b []
way_words t c b Told = masters_words t c b (codes ", as propagate_from tells")

-- what a path leads to
unfoldable pub sight_words : SeenView → Sight → List ℕ
sight_words t Seen = []
sight_words t NoRoot = codes " [no path: its table has no root mount]"
sight_words t AtRoot = codes " [on the root of the namespace: no path leads there]"
sight_words t (BehindCopy i) = codes " [hidden by the copy on mount " ++ decimal i ++ codes "]"
sight_words t (Behind i) = codes " [hidden by mount " ++ id_and_point t i ++ codes "]"

-- the line that keeps a copy from coming
abbrev pub stop_line : SeenRow → List ℕ
stop_line r = codes "      stop it: setattr " ++ decimal r.space ++ codes " " ++ path_words r.point ++ codes " prop=private\n"

abbrev pub stop_words : SeenView → ReachedView → List ℕ
stop_words t c = cond c.stops (option_map_or stop_line (seen_at t.rows c.spot.mount) []) []

-- a copy
abbrev pub copy_told : SeenView → SeenRow → ReachedView → List ℕ
copy_told t b c = codes "  + " ++ spot_words t c.spot ++ way_words t c b c.way ++ sight_words t c.sight ++ codes "\n"

-- and what keeps it from coming
unfoldable pub copy_lines : SeenView → SeenRow → ReachedView → List ℕ
copy_lines t b c = copy_told t b c ++ stop_words t c

-- why there is none
abbrev pub none_words : SeenRow → List ℕ
none_words b =
    option_map_or (λ g. codes "no other mount that shows this directory gets from group " ++ decimal g) b.group
    (path_words b.point ++ cond b.unbindable (codes " is unbindable") (cond (is_none b.master) (codes " is private") (codes " is a slave, and in no group")))

-- all copies
abbrev pub copies_lines : SeenView → SeenRow → List ReachedView → List ℕ
copies_lines t b [] = codes "It comes to no other mount: " ++ none_words b ++ codes ".\n"
copies_lines t b (c ∷ cs) = codes "It comes to " ++ count_of_others (length (c ∷ cs)) ++ flat_map (copy_lines t b) (c ∷ cs)

-- a mount of which it is not told
abbrev pub missing_words : List ℕ → List ℕ
missing_words [] = []
missing_words (g ∷ gs) = codes "group " ++ decimal g ++ flat_map (λ h. codes ", group " ++ decimal h) gs

unfoldable pub gets_words : List ℕ → List ℕ
gets_words gs = codes "it gets from " ++ missing_words gs ++ codes ", which has no mount in these tables: read the namespace that has one\n"

unfoldable pub untold_line : SeenView → UntoldView → List ℕ
untold_line t u = codes "  ? " ++ spot_words t u.spot ++ gets_words u.missing

-- how many there are
unfoldable pub untold_count : ℕ → List ℕ
untold_count n = codes "It cannot be told of " ++ decimal n ++ codes ":\n"

abbrev pub untold_lines : SeenView → List UntoldView → List ℕ
untold_lines t [] = []
untold_lines t (u ∷ us) = untold_count (length (u ∷ us)) ++ flat_map (untold_line t) (u ∷ us)

-- a mount that is in a group gets from above it
unfoldable pub below_words : SeenRow → List ℕ
below_words r = codes ", below" ++ group_words (codes " group ") r.group ++ codes "; what happens there does not go up"

unfoldable pub in_group_words : SeenRow → ℕ → List ℕ
in_group_words r g = codes " is in group " ++ decimal g ++ below_words r

-- one that is in none gets from its master
unfoldable pub in_none_words : SeenRow → List ℕ
in_none_words b = codes " gets from" ++ group_words (codes " group ") b.master ++ codes ", and gives nothing back"

-- the slave in which a change starts
unfoldable pub slave_words : SeenView → SeenRow → List ℕ
slave_words t b = codes "the change starts in a slave: " ++ row_words t b

-- why what starts in a slave comes nowhere above
abbrev pub upward_words : SeenView → SeenRow → SeenRow → List ℕ
upward_words t b r = slave_words t b ++ option_map_or (in_group_words r) b.group (in_none_words b)

-- groups that have nothing to do with each other
abbrev pub other_words : SeenRow → SeenRow → List ℕ
other_words b r =
    codes "it is in" ++ option_map_or (λ g. codes " group " ++ decimal g) r.group (codes " no group") ++ group_words (codes " with master ") r.master
    ++ codes ", and no chain leads there from" ++ group_words (codes " group ") b.group

-- why what is mounted on b does not come to r
unfoldable pub why_words : SeenView → SeenRow → SeenRow → WhyNot → List ℕ
why_words t b r SourcePrivate = row_words t b ++ codes " is private: nothing propagates from it"
why_words t b r SourceUnbindable = row_words t b ++ codes " is unbindable: nothing propagates from it"
why_words t b r StartsInSlave = upward_words t b r
why_words t b r (Siblings g) = codes "both get from group " ++ decimal g ++ codes ", and neither from the other"
why_words t b r OnlySlave = row_words t b ++ codes " is a slave and in no group: what starts there stays there"
why_words t b r Private = codes "it is private: it receives nothing"
why_words t b r Unbindable = codes "it is unbindable: it receives nothing"
why_words t b r OtherGroup = other_words b r

-- a place where the mount could be made
abbrev pub made_on : SeenView → SeenDirectory → SeenRow → List ℕ
made_on t d r = codes "      made at " ++ path_words (point_on r d) ++ codes " in " ++ called t r.space

abbrev pub made_words : SeenView → SeenDirectory → ℕ → List ℕ
made_words t d i = option_map_or (made_on t d) (seen_at t.rows i) []

abbrev pub elsewhere_lines : SeenView → SeenDirectory → Elsewhere → List ℕ
elsewhere_lines t d (Both i) = made_words t d i ++ codes " it comes to both\n"
elsewhere_lines t d (Alone i) = made_words t d i ++ codes " it comes here\n"
elsewhere_lines t d (InFront i) = codes "      no path leads there: mount " ++ id_and_point t i ++ codes " is in front\n"
elsewhere_lines t d Nowhere = []

-- the line that makes a mount shared
unfoldable pub share_words : SeenRow → List ℕ
share_words from = codes "setattr " ++ decimal from.space ++ codes " " ++ path_words from.point ++ codes " prop=shared, "

-- the lines that make a mount anew
unfoldable pub call_words : List ℕ → SeenRow → List (List ℕ) → List ℕ
call_words verb r path = verb ++ decimal r.space ++ codes " " ++ path_words path

unfoldable pub bind_words : SeenRow → SeenRow → List ℕ
bind_words from to = call_words (codes "umount ") to to.point ++ call_words (codes ", bind ") to (point_on from to.root) ++ codes " " ++ path_words to.point

unfoldable pub joining_words : SeenView → SeenRow → SeenRow → Joining → List ℕ
joining_words t from to Unneeded = []
joining_words t from to Bind = bind_words from to
joining_words t from to Anew = codes "make " ++ id_and_point t to.id ++ codes " anew from " ++ id_and_point t from.id
joining_words t from to Again = codes "start " ++ called t to.space ++ codes " again with this directory as slave or shared"

abbrev pub is_needed : Joining → Bool
is_needed Unneeded = false
is_needed how = true

abbrev pub join_line : SeenView → Join → SeenRow → SeenRow → List ℕ
join_line t j from to = codes "      to join them: " ++ cond j.shares (share_words from) [] ++ joining_words t from to j.how ++ codes "\n"

-- the mount with an ID, and what is said of it
abbrev pub of_mount : SeenView → ℕ → (SeenRow → List ℕ) → List ℕ
of_mount t i words = option_map_or words (seen_at t.rows i) []

abbrev pub join_lines : SeenView → Join → List ℕ
join_lines t j = cond (is_needed j.how) (of_mount t j.from (λ from. of_mount t j.to (join_line t j from))) []

-- a mount to which nothing comes, and why
abbrev pub apart_told : SeenView → SeenRow → ApartMount → SeenRow → List ℕ
apart_told t b a r = codes "  - " ++ spot_words t a.spot ++ why_words t b r a.why ++ codes "\n"

-- and what helps
unfoldable pub apart_line : SeenView → SeenDirectory → SeenRow → ApartMount → SeenRow → List ℕ
apart_line t d b a r = apart_told t b a r ++ elsewhere_lines t d a.elsewhere ++ join_lines t a.join

abbrev pub apart_lines_of : SeenView → SeenDirectory → SeenRow → ApartMount → List ℕ
apart_lines_of t d b a = of_mount t a.spot.mount (apart_line t d b a)

unfoldable pub some_apart : SeenView → SeenDirectory → SeenRow → List ApartMount → List ℕ
some_apart t d b apart = codes "These show the same directory, and it does not come there:\n" ++ flat_map (apart_lines_of t d b) apart

abbrev pub apart_lines : SeenView → SeenDirectory → SeenRow → List ApartMount → List ℕ
apart_lines t d b [] = []
apart_lines t d b (a ∷ others) = some_apart t d b (a ∷ others)

-- a mount that gets and does not show the directory
abbrev pub pass_line : SeenView → SeenRow → List ℕ
pass_line t r = codes "    " ++ row_words t r ++ codes " shows " ++ directory_words r.root ++ codes "\n"

abbrev pub pass_lines : SeenView → ℕ → List ℕ
pass_lines t i = of_mount t i (pass_line t)

unfoldable pub passes_count : ℕ → List ℕ
passes_count n = decimal n ++ codes " more would get it, and do not show the directory:\n"

-- how many of them are told
abbrev pub told_passes : ℕ
told_passes = 2

abbrev pub some_passes : SeenView → List ℕ → List ℕ
some_passes t ids =
    passes_count (length ids) ++ flat_map (pass_lines t) (take told_passes ids) ++ cond (nat_lt told_passes (length ids)) (codes "    ..\n") []

abbrev pub passes_lines : SeenView → List ℕ → List ℕ
passes_lines t [] = []
passes_lines t (i ∷ is) = some_passes t (i ∷ is)

-- how many namespaces are named
abbrev pub most_named : ℕ
most_named = 8

-- the names of namespaces
abbrev pub called_list : SeenView → List ℕ → List ℕ
called_list t [] = []
called_list t (n ∷ ns) = called t n ++ flat_map (λ m. codes ", " ++ called t m) ns

unfoldable pub more_words : ℕ → List ℕ
more_words n = cond (nat_lt most_named n) (codes " and " ++ decimal (n - most_named) ++ codes " more") []

-- what no mount of a namespace shows
unfoldable pub unshown_words : SeenDirectory → List ℕ
unshown_words d = codes "No mount of " ++ device_words d.device ++ codes " that holds " ++ directory_words d ++ codes " is in: "

-- the namespaces where nothing shows the directory
abbrev pub some_without : SeenView → SeenDirectory → List ℕ → List ℕ
some_without t d spaces = unshown_words d ++ called_list t (take most_named spaces) ++ more_words (length spaces) ++ codes "\n"

abbrev pub without_line : SeenView → SeenDirectory → List ℕ → List ℕ
without_line t d [] = []
without_line t d (n ∷ ns) = some_without t d (n ∷ ns)

-- how many tables there are
unfoldable pub tables_words : ℕ → List ℕ
tables_words n = cond (n == 1) (codes "Only this table was read") (codes "Only these " ++ decimal n ++ codes " tables were read")

abbrev pub some_elsewhere : List ℕ → List ℕ
some_elsewhere gs = codes "; " ++ missing_words gs ++ cond (length gs == 1) (codes " has") (codes " have") ++ codes " mounts elsewhere"

unfoldable pub elsewhere_words : List ℕ → List ℕ
elsewhere_words [] = []
elsewhere_words (g ∷ gs) = some_elsewhere (g ∷ gs)

abbrev pub closing_line : SeenView → List ℕ → List ℕ
closing_line t gs = cond t.complete [] (tables_words (length t.names) ++ elsewhere_words gs ++ codes ".\n")

-- the mounts that show the directory
unfoldable pub showing_lines : SeenView → ReachView → SeenRow → List ℕ
showing_lines t a b = copies_lines t b a.copies ++ untold_lines t a.untold ++ apart_lines t a.directory b a.apart

-- what does not show it
unfoldable pub other_lines : SeenView → ReachView → List ℕ
other_lines t a = passes_lines t a.passes ++ without_line t a.directory a.without ++ closing_line t a.missing

-- what comes behind the first line
unfoldable pub reach_lines : SeenView → ReachView → SeenRow → List ℕ
reach_lines t a b = showing_lines t a b ++ other_lines t a

-- the root of a namespace is no place for a mount (pivot_root(2), mount(2))
unfoldable pub refused_line : List ℕ
refused_line = codes "It is refused as RootPlace: the root of the namespace's root mount is no place for a mount.\n"

abbrev pub lines_at : SeenView → ReachView → SeenRow → List ℕ
lines_at t a b = opening_line t a b ++ cond (path_eq a.path []) refused_line (reach_lines t a b)

-- the answer
unfoldable pub reach_text : SeenView → ReachView → List ℕ
reach_text t a = of_mount t a.mount (lines_at t a)
