-- Texts that go on.
use Rattle.std.proofs.Common.{◌≡◌, ℕ, true, List, [], ◌++◌, map, refl, ap, ◌∙◌}
use Rattle.std.specs.BTreeMap.{BTreeMap}
use Rattle.std.specs.List.{flat_map, AllByRecursion}
use Rattle.mt_import.specs.declared.groups.Group.{Group}
use Rattle.mt_import.specs.declared.space.Space.{Space}
use Rattle.mt_import.specs.Front.{StandsInFront}
use Rattle.mt_import.specs.Import.{IsImport}
use Rattle.mt_import.specs.Plans.{is_sound}
use Rattle.mt_import.specs.Script.{IsScript}
use Rattle.mt_import.specs.Spaces.{spaces_text, AreMade}
use Rattle.mt_import.specs.Telling.{tree_rows, space_comments, HasMakingOrder}

-- a script of its parts, one after the other
pub imported : (groups : BTreeMap ℕ Group) (spaces : List Space) (s0 s1 s2 s3 s4 front : List ℕ) → s0 ≡ [] → s1 ≡ s0 ++ flat_map tree_rows spaces
    → s2 ≡ s1 ++ flat_map space_comments spaces → AllByRecursion HasMakingOrder spaces → is_sound groups spaces ≡ true → StandsInFront groups spaces front → s3 ≡ s2 ++ front → AreMade groups spaces s3 s4
    → IsScript s4 → IsImport (map (λ (s : Space). s.tree.told) spaces) s4
imported groups spaces s0 s1 s2 s3 s4 front e0 e1 e2 trees sound fronted e3 made lines = record {
  groups = groups;
  spaces = spaces;
  told = refl;
  trees = trees;
  sound = sound;
  front = front;
  fronted = fronted;
  between = made.0;
  text = made.1 ∙ ap (λ s. s ++ spaces_text groups spaces made.0) (e3 ∙ ap (λ s. s ++ front) (e2 ∙ ap (λ s. s ++ flat_map space_comments spaces) (e1 ∙ ap (λ s. s ++ flat_map tree_rows spaces) e0)));
  lines = lines;
}
