-- Numbers of mounts and peer groups as they are told: those of the tables as they are, and later ones as new.
-- A word with no source is this project's rule.
use Rattle.std.specs.Prelude.{ℕ, ◌-◌, Bool, nat_le, if◌then◌else◌, List, ◌++◌, codes, decimal}
use Rattle.mt_what_if.specs.declared.numbers.Numbers.{Numbers}

-- a new number by its place among the new ones, where these are told apart
abbrev pub new_word : Bool → ℕ → List ℕ
new_word counted place = if counted then codes "new:" ++ decimal place else codes "new"

-- a number up to the last one of those before is told as it is, and the next ones count as new from there
abbrev pub number_word : Bool → ℕ → ℕ → List ℕ
number_word counted last n = if nat_le n last then decimal n else new_word counted (n - last)

abbrev pub mount_word : Numbers → ℕ → List ℕ
mount_word nb i = number_word nb.counted nb.mounts i

abbrev pub group_word : Numbers → ℕ → List ℕ
group_word nb g = number_word nb.counted nb.groups g
