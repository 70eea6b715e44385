-- The masters of the groups of rows, row by row.
use Rattle.std.proofs.Common.{◌≡◌, ℕ, suc, ◌+◌, ◌<◌, ◌++◌, cond, nat_eq, List, [], ◌∷◌, length, get_or, take, Option, Some, None, refl, sym, ap, ◌∙◌, arith}
use Rattle.std.specs.Option.{is_some, option_or}
use Rattle.std.specs.declared.hash.FoldHasher.{FoldHasher}
use Rattle.std.specs.declared.hash.BuildHasherDefault.{BuildHasherDefault}
use Rattle.std.proofs.Math.Seq.{take-suc}
use Rattle.indexmap.specs.IndexMap.{IndexMap, get}
use Rattle.mt_peers.specs.Peers.{Peer, names, has_member}
use Rattle.mt_reach.specs.declared.row.SeenRow.{SeenRow}
use Rattle.mt_reach.specs.Rows.{peers_in}
use Rattle.mt_reach.specs.Masters.{told_master, AreMasters}

-- the master that one row tells of a group
abbrev pub tells_master : SeenRow → ℕ → Option (Option ℕ)
tells_master r g = cond (names r.group g) (Some r.master) None

told-snoc : (rows : List SeenRow) (r : SeenRow) (g : ℕ) → told_master (peers_in (rows ++ r ∷ [])) g ≡ option_or (told_master (peers_in rows) g) (tells_master r g)
told-snoc [] r g = grind arith
told-snoc (q ∷ rows) r g = grind (arith, told-snoc rows r g)

-- a master is told of the groups that have a member
pub told_member : (es : List Peer) (g : ℕ) → is_some (told_master es g) ≡ has_member es g
told_member [] g = refl
told_member (e ∷ es) g = grind (arith, told_member es g)

-- with one row more
pub masters_more : (rows : List SeenRow) (i : ℕ) (r d : SeenRow) (m n : IndexMap ℕ (Option ℕ) (BuildHasherDefault FoldHasher)) → r ≡ get_or rows i d → i < length rows
    → AreMasters (peers_in (take i rows)) m → ((g : ℕ) → get nat_eq n g ≡ option_or (get nat_eq m g) (tells_master r g)) → AreMasters (peers_in (take (i + 1) rows)) n
masters_more rows i r d m n at within before added g =
    let one : i + 1 ≡ suc i = omega arith in
    let front : take (i + 1) rows ≡ take i rows ++ r ∷ [] = ap (λ k. take k rows) one ∙ take-suc rows i d within ∙ ap (λ x. take i rows ++ x ∷ []) (sym at) in
    added g ∙ ap (λ o. option_or o (tells_master r g)) (before g) ∙ sym (told-snoc (take i rows) r g) ∙ ap (λ l. told_master (peers_in l) g) (sym front)
