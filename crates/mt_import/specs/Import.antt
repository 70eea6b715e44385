-- What a script makes of tables.
-- A word with no source is this project's rule.
use Rattle.std.specs.Prelude.{◌≡◌, ℕ, true, List, ◌++◌, map}
use Rattle.std.specs.List.{flat_map, AllByRecursion}
use Rattle.std.specs.BTreeMap.{BTreeMap}
use Rattle.mt_import.specs.declared.groups.Group.{Group}
use Rattle.mt_import.specs.declared.space.Space.{Space}
use Rattle.mt_import.specs.Front.{StandsInFront}
use Rattle.mt_import.specs.Plans.{is_sound}
use Rattle.mt_import.specs.Reading.{ToldSpace}
use Rattle.mt_import.specs.Script.{IsScript}
use Rattle.mt_import.specs.Spaces.{spaces_text}
use Rattle.mt_import.specs.Telling.{tree_rows, space_comments, HasMakingOrder}

-- Each row of each table has a mount in the tree of its table, where it stands as the row says, or is told, with a reason. Each mount
-- of a tree is told, with a reason, or made at its turn. Before the turns, the filesystems are made and what is staged, and between
-- them the namespace that keeps masters. What is planned is what the tables tell, and so is in which namespaces all is locked. Each line
-- that is not a comment is one that the server reads as a command.
pub record IsImport (tables : List ToldSpace) (script : List ℕ) : Type 0 where
  pub groups : BTreeMap ℕ Group
  pub spaces : List Space
  pub told : map (λ (s : Space). s.tree.told) spaces ≡ tables
  pub trees : AllByRecursion HasMakingOrder spaces
  pub sound : is_sound groups spaces ≡ true
  pub front : List ℕ
  pub fronted : StandsInFront groups spaces front
  pub between : List ℕ
  pub text : script ≡ ((flat_map tree_rows spaces ++ flat_map space_comments spaces) ++ front) ++ spaces_text groups spaces between
  pub lines : IsScript script
