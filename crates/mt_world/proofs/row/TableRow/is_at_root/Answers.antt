use Rattle.std.proofs.Common.{◌≡◌, ◌∙◌, ◌==◌, ap, refl, List, [], ◌∷◌, ℕ, length, arith}
use Rattle.std.proofs.lemmas.Bool.Decides.{nat_tests}
use Rattle.mt_skel.specs.Names.{names_text}
use Rattle.mt_skel.specs.Skeleton.{path_eq}
use Rattle.mt_world.proofs.row.TableRow.is_at_root.Goals as goal

-- a path has a text exactly if it has names
bare : (names : List (List ℕ)) → (length (names_text names) == 0) ≡ path_eq names []
bare [] = refl
bare (n ∷ names) = grind (arith, nat_tests)

pub returns : goal.returns
returns c = c.is_empty.ensures ∙ ap (λ (t : List ℕ). length t == 0) c.text.ensures.text ∙ bare c.args.self.now.point
