-- Where the paths of a process lead (path_resolution(7), proc(5)).
-- A word with no source is this project's rule.
use Rattle.std.specs.Prelude.{ℕ, ◌==◌, if◌then◌else◌, List, [], ◌∷◌, ◌++◌, length, Option, Some, None}
use Rattle.std.specs.Option.{option_map_or}
use Rattle.mt_skel.specs.Skeleton.{is_directory, directory, child}
use Rattle.mt_propagate.specs.World.{WorldView}
use Rattle.mt_trace.specs.declared.standing.Standing.{Standing}
use Rattle.mt_trace.specs.Standings.{spot_at}

-- the directory of a name in a spot: nothing that is mounted there counts
abbrev pub named_below : Standing → List ℕ → Standing
named_below s name = record s { below = s.below ++ name ∷ [] }

abbrev pub spot_below : WorldView → Standing → List ℕ → Standing
spot_below w s name =
    if length s.below == 0 then option_map_or (λ d. spot_at (record { mount = s.place.mount; dir = d })) (child w.skel s.place.dir name) (named_below s name)
    else named_below s name

-- a spot of which more directories are there by now
abbrev pub settled_from : WorldView → Standing → List (List ℕ) → Standing
settled_from w s [] = s
settled_from w s (name ∷ names) = settled_from w (spot_below w s name) names

abbrev pub spot_settled : WorldView → Standing → Standing
spot_settled w s = settled_from w (spot_at s.place) s.below

-- the names from the root of its filesystem down to a spot, if its directory is there
abbrev pub names_inside : WorldView → Standing → Option (List (List ℕ))
names_inside w s = if is_directory w.skel s.place.dir then Some ((directory w.skel s.place.dir).path ++ s.below) else None
