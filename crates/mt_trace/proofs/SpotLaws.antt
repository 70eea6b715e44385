-- Directories that are there, and names below them.
use Rattle.std.proofs.Common.{◌≡◌, ℕ, ◌<◌, ◌==◌, List, [], ◌∷◌, ◌++◌, length, refl, sym, ◌∙◌}
use Rattle.std.proofs.Math.Dec.{eqb-suc-zero}
use Rattle.std.proofs.lemmas.Bool.Decides.{Decides-ltb, Decides-like, same_from_decides}
use Rattle.mt_skel.specs.Names.{names_text}
use Rattle.mt_skel.specs.Skeleton.{Skeleton, is_directory, holds}
use Rattle.mt_skel.proofs.SkeletonLaws.{IsAbove, holds-Decides, holds_self}

-- a directory holds itself where it is there
pub holds_itself : (s : Skeleton) (d : ℕ) → holds s d d ≡ is_directory s d
holds_itself s d =
    same_from_decides (holds s d d) (is_directory s d)
    (Decides-like (holds s d d) (λ (a : IsAbove s d d). a.there) (λ (l : d < length s.directories). (holds-Decides s d d).0 (holds_self s d l)) (holds-Decides s d d))
    (Decides-ltb d (length s.directories))

-- a path without text has no names
pub empty_text : (names : List (List ℕ)) → (length (names_text names) == 0) ≡ (length names == 0)
empty_text [] = refl
empty_text (name ∷ names) = eqb-suc-zero (length (name ++ names_text names)) ∙ sym (eqb-suc-zero (length names))
