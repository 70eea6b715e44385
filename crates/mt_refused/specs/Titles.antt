-- What namespaces, mounts and peer groups are called.
-- A word with no source is this project's rule.
use Rattle.std.specs.Prelude.{ℕ, ◌-◌, ◌&&◌, nat_le, nat_eq, cond, List, [], ◌++◌, length, slice_index_or, codes, decimal}
use Rattle.mt_skel.specs.Escapes.{escaped}

-- the names of the namespaces from 1 on, and the last mount and the last peer group that tables have
pub record TitlesView : Type 0 where
  pub spaces : List (List ℕ)
  pub last_mount : ℕ
  pub last_group : ℕ

-- a number that tables have, or how far above those it is
abbrev pub number_text : ℕ → ℕ → List ℕ
number_text last k = cond (nat_le k last) (decimal k) (codes "new:" ++ decimal (k - last))

-- the name of a namespace, empty where it has none
abbrev pub space_name : TitlesView → ℕ → List ℕ
space_name v n = cond (nat_le 1 n && nat_le n (length v.spaces)) (slice_index_or v.spaces (n - 1) []) []

-- a name in parentheses behind a space, if there is one
abbrev pub name_text : List ℕ → List ℕ
name_text name = cond (nat_eq (length name) 0) [] (codes " (" ++ (escaped name ++ codes ")"))

-- a namespace, by its number and its name
abbrev pub space_told : TitlesView → ℕ → List ℕ
space_told v n = codes "namespace " ++ (decimal n ++ name_text (space_name v n))
