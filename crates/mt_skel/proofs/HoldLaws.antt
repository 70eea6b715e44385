-- What a directory holds, one name further down and in a skeleton that has grown.
use Rattle.std.proofs.Common.{◌≡◌, ℕ, ◌<◌, true, List, [], ◌∷◌, ◌++◌, length, get_or, Some, sym, ap, ◌∙◌, arith, length-append}
use Rattle.std.proofs.Math.ListN.{get_or-append}
use Rattle.mt_skel.specs.Skeleton.{Skeleton, Directory, directory, child, holds}
use Rattle.mt_skel.proofs.SkeletonLaws.{holds-Decides, above_below, at_number}

-- a directory that holds another holds the children of it
pub holds_child : (s : Skeleton) (outer up here : ℕ) (name : List ℕ) → holds s outer up ≡ true → child s up name ≡ Some here → holds s outer here ≡ true
holds_child s outer up here name h e =
    let below : Directory = record { fs = (directory s up).fs; path = (directory s up).path ++ name ∷ [] } in
    (holds-Decides s outer here).1 (above_below s outer up here name (at_number s below here e) ((holds-Decides s outer up).0 h))

-- a directory that is there stays what it is where others are made
pub directory_grown : (s t : Skeleton) (more : List Directory) (i : ℕ) → t.directories ≡ s.directories ++ more → i < length s.directories → directory t i ≡ directory s i
directory_grown s t more i e l = ap (λ ds. get_or ds i (record { fs = 0; path = [] })) e ∙ get_or-append s.directories more (record { fs = 0; path = [] }) i l

pub holds_grown : (s t : Skeleton) (more : List Directory) (outer inner : ℕ) → t.directories ≡ s.directories ++ more → outer < length s.directories → holds s outer inner ≡ true → holds t outer inner ≡ true
holds_grown s t more outer inner e l h =
    let a = (holds-Decides s outer inner).0 h in
    let o = directory_grown s t more outer e l in
    let i = directory_grown s t more inner e a.there in
    (holds-Decides t outer inner).1 (record {
      there = omega (arith, a.there, ap length e, length-append s.directories more);
      one = ap (λ x. x.fs) o ∙ a.one ∙ ap (λ x. x.fs) (sym i);
      rest = a.rest;
      joined = ap (λ x. x.path) i ∙ a.joined ∙ ap (λ (x : Directory). x.path ++ a.rest) (sym o);
    })
