-- What parts of a line are made of. No public clause cites this module.
-- A word with no source is this project's rule.
use Rattle.std.specs.Prelude.{ℕ, List, ◌∷◌, ◌++◌, codes, decimal}
use Rattle.std.specs.List.{flat_map}
use Rattle.mt_skel.specs.Escapes.{escaped}

-- words, each preceded by a byte
abbrev pub behind : ℕ → List (List ℕ) → List ℕ
behind c words = flat_map (λ w. c ∷ w) words

-- the numbers at the front of a line, each with what comes after it (proc_pid_mountinfo(5), fields 1 to 3)
abbrev pub numbers_text : ℕ → ℕ → ℕ → List ℕ
numbers_text id parent minor = decimal id ++ (codes " " ++ (decimal parent ++ (codes " 0:" ++ (decimal minor ++ codes " "))))

-- what comes after the optional fields (proc_pid_mountinfo(5), fields 8 to 11)
abbrev pub end_text : List ℕ → List ℕ → List ℕ
end_text kind source = codes " - " ++ (escaped kind ++ (codes " " ++ (escaped source ++ codes " rw")))
