-- The paths of what a script stages.
-- A word with no source is this project's rule.
use Rattle.std.specs.Prelude.{ℕ, ◌-◌, nat_lt, if◌then◌else◌, List, [], ◌++◌, codes, decimal}

-- where the script puts what it takes away again
abbrev pub stage : List ℕ
stage = codes "/.import"

abbrev pub second : List ℕ
second = codes "/.import2"

-- the slot of a number, and what is below it
abbrev pub slot : List ℕ → List ℕ → ℕ → List ℕ → List ℕ
slot at name number below = at ++ (name ++ (decimal number ++ below))

-- a directory below a staged filesystem, and below the staged member of a group
abbrev pub staged_path : List ℕ → List ℕ → List ℕ → List ℕ
staged_path at name below = at ++ (codes "/" ++ (name ++ below))

abbrev pub group_path : List ℕ → ℕ → List ℕ → List ℕ
group_path at group below = slot at (codes "/") group below

-- where a mount of a level is made with all that stands on it, and one that comes to the root of its namespace
abbrev pub apart_path : List ℕ → ℕ → List ℕ
apart_path at level = slot at (codes "/apart-") (level - 1) []

abbrev pub cover_path : List ℕ → ℕ → List ℕ
cover_path at base = slot at (codes "/cover-") base []

-- names after the path of what the lowest mount of a stack stands on: one of the level below, or at the root of the namespace
abbrev pub path_from : List ℕ → ℕ → ℕ → List ℕ → List ℕ
path_from at level base names =
    if nat_lt 1 level then slot at (codes "/apart-") (level - 2) names
    else (if nat_lt 0 base then slot at (codes "/cover-") base names else names)
