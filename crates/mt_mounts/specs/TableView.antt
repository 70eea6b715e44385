-- What the rest of a `Forest` sees of its `Table`. No public clause cites this module.
-- A word with no source is this project's rule.
use Rattle.std.specs.Prelude.{ℕ, List, refl}
use Rattle.std.specs.Coded.{Coded, code_by, coded×, coded_ℕ, coded_list}
use Rattle.mt_mounts.specs.declared.mount.Mount.{Mount}

-- A table is its mounts by rising ID, and how many insertions need no more memory.
pub record TableView : Type 0 where
  pub mounts : List Mount
  pub room : ℕ

-- A table is stored as the pair of its fields.
abbrev pub table_code : Coded Mount → Coded TableView
table_code code =
    code_by (List Mount × ℕ) (coded× (coded_list code) coded_ℕ) (λ t. (t.mounts, t.room)) (λ p. record { mounts = p.0; room = p.1 }) (λ _. refl)
