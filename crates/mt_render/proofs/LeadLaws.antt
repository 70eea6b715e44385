-- The lines that lead to rows, and how many cells they take.
use Rattle.std.proofs.Common.{◌≡◌, ℕ, ◌+◌, ◌-◌, ◌*◌, ◌≤◌, Bool, true, false, cond, List, [], ◌∷◌, ◌++◌, take, length, codes, refl, sym, ap, subst, ◌∙◌, append_assoc, append-nil, length-append, arith}
use Rattle.std.specs.Prelude.{nat_lt}
use Rattle.std.specs.List.{flat_map}
use Rattle.std.proofs.lemmas.List.{take_all, take-append-le}
use Rattle.std.proofs.lemmas.Grind.{flat_map-append}
use Rattle.bstr.specs.Utf8.{continues}
use Rattle.mt_terminal.specs.Terminal.{cells_of_text}
use Rattle.mt_render.specs.declared.leads.Strokes.{Strokes}
use Rattle.mt_render.specs.declared.leads.Strokes.TheVariants.{Lines, Ascii}
use Rattle.mt_render.specs.Trees.{tee, corner, bar, lead}
use Rattle.mt_render.specs.Leads.{piece_below, bars, HasWidth}
use Rattle.mt_render.proofs.CellLaws.{ascii_cells, box_cells, few_cells}

-- no text takes no cell
pub no_cells : cells_of_text [] ≡ 0
unfolding cells_of_text
no_cells = refl

-- two characters, and what follows them
two_ascii : (a b : ℕ) → nat_lt a 128 ≡ true → nat_lt b 128 ≡ true → (t : List ℕ) → cells_of_text (a ∷ b ∷ t) ≡ cells_of_text (a ∷ b ∷ []) + cells_of_text t
two_ascii a b la lb t =
    let x = ascii_cells a (b ∷ t) la in
    let y = ascii_cells b t lb in
    let x0 = ascii_cells a (b ∷ []) la in
    let y0 = ascii_cells b [] lb in
    omega (arith, no_cells, x, y, x0, y0)

box_ascii : (a b : ℕ) → continues a ≡ true → nat_lt b 128 ≡ true → (t : List ℕ) → cells_of_text (226 ∷ 148 ∷ a ∷ b ∷ t) ≡ cells_of_text (226 ∷ 148 ∷ a ∷ b ∷ []) + cells_of_text t
box_ascii a b la lb t =
    let x = box_cells a (b ∷ t) la in
    let y = ascii_cells b t lb in
    let x0 = box_cells a (b ∷ []) la in
    let y0 = ascii_cells b [] lb in
    omega (arith, no_cells, x, y, x0, y0)

two_boxes : (a b : ℕ) → continues a ≡ true → continues b ≡ true → (t : List ℕ) → cells_of_text (226 ∷ 148 ∷ a ∷ 226 ∷ 148 ∷ b ∷ t) ≡ cells_of_text (226 ∷ 148 ∷ a ∷ 226 ∷ 148 ∷ b ∷ []) + cells_of_text t
two_boxes a b la lb t =
    let x = box_cells a (226 ∷ 148 ∷ b ∷ t) la in
    let y = box_cells b t lb in
    let x0 = box_cells a (226 ∷ 148 ∷ b ∷ []) la in
    let y0 = box_cells b [] lb in
    omega (arith, no_cells, x, y, x0, y0)

-- the pieces take as many cells whatever follows them
pub piece_width : (s : Strokes) (l : Bool) → HasWidth (cells_of_text (piece_below s l)) (piece_below s l)
piece_width s true = record { cells = λ t. two_ascii 32 32 refl refl t }
piece_width Lines false = record { cells = λ t. box_ascii 130 32 refl refl t }
piece_width Ascii false = record { cells = λ t. two_ascii 124 32 refl refl t }

-- the piece in front of a row
abbrev pub own_piece : Strokes → Bool → List ℕ
own_piece s l = cond l (corner s) (tee s)

pub own_width : (s : Strokes) (l : Bool) → HasWidth (cells_of_text (own_piece s l)) (own_piece s l)
own_width Lines true = record { cells = λ t. two_boxes 148 128 refl refl t }
own_width Lines false = record { cells = λ t. two_boxes 156 128 refl refl t }
own_width Ascii true = record { cells = λ t. two_ascii 96 45 refl refl t }
own_width Ascii false = record { cells = λ t. two_ascii 124 45 refl refl t }

-- two texts behind each other
joined_width : (v w : ℕ) (a b : List ℕ) → HasWidth v a → HasWidth w b → HasWidth (v + w) (a ++ b)
joined_width v w a b p q = record {
  cells = λ t.
      let x = p.cells (b ++ t) in
      let y = q.cells t in
      ap cells_of_text (append_assoc a b t) ∙ omega (arith, x, y);
}

-- so many cells it takes by itself
pub width_is : (w : ℕ) (a : List ℕ) → HasWidth w a → cells_of_text a ≡ w
width_is w a p = ap cells_of_text (sym (append-nil a)) ∙ p.cells [] ∙ omega (arith, no_cells)

as_width : (w : ℕ) (a : List ℕ) → HasWidth w a → HasWidth (cells_of_text a) a
as_width w a p = record { cells = λ t. p.cells t ∙ ap (λ n. n + cells_of_text t) (sym (width_is w a p)) }

pub bars_width : (s : Strokes) (ls : List Bool) → HasWidth (cells_of_text (bars s ls)) (bars s ls)
bars_width s [] = record { cells = λ t. omega (arith, no_cells) }
bars_width s (l ∷ ls) = as_width _ _ (joined_width (cells_of_text (piece_below s l)) (cells_of_text (bars s ls)) (piece_below s l) (bars s ls) (piece_width s l) (bars_width s ls))

-- one row more
pub bars_last : (s : Strokes) (ls : List Bool) (l : Bool) → bars s (ls ++ l ∷ []) ≡ bars s ls ++ piece_below s l
bars_last s ls l = flat_map-append (piece_below s) ls (l ∷ []) ∙ ap (λ t. bars s ls ++ t) (append-nil (piece_below s l))

pub cells_last : (s : Strokes) (ls : List Bool) (l : Bool) → cells_of_text (bars s (ls ++ l ∷ [])) ≡ cells_of_text (bars s ls) + cells_of_text (piece_below s l)
cells_last s ls l = ap cells_of_text (bars_last s ls l) ∙ (bars_width s ls).cells (piece_below s l)

-- what leads to a row is what stands in front of all below the rows above it, and its own piece
pub lead_last : (s : Strokes) (ls : List Bool) (l : Bool) → lead s (ls ++ l ∷ []) ≡ bars s ls ++ own_piece s l
lead_last s [] l = refl
lead_last s (x ∷ []) l = ap (λ t. t ++ own_piece s l) (sym (append-nil (piece_below s x)))
lead_last s (x ∷ y ∷ ys) l = ap (λ t. piece_below s x ++ t) (lead_last s (y ∷ ys) l) ∙ sym (append_assoc (piece_below s x) (bars s (y ∷ ys)) (own_piece s l))

pub lead_width : (s : Strokes) (ls : List Bool) (l : Bool) (w : ℕ) → w ≡ cells_of_text (bars s ls) + cells_of_text (own_piece s l) → HasWidth w (lead s (ls ++ l ∷ []))
lead_width s ls l w e =
    let both = joined_width (cells_of_text (bars s ls)) (cells_of_text (own_piece s l)) (bars s ls) (own_piece s l) (bars_width s ls) (own_width s l) in
    subst (λ (p : ℕ × List ℕ). HasWidth p.0 p.1) (λ i. (sym e i, sym (lead_last s ls l) i)) both

-- one row less
pub bars_left : (s : Strokes) (ls : List Bool) (l : Bool) (text : List ℕ) → text ≡ bars s (ls ++ l ∷ []) → take (length text - length (piece_below s l)) text ≡ bars s ls
bars_left s ls l text e =
    let parts : text ≡ bars s ls ++ piece_below s l = e ∙ bars_last s ls l in
    let long : length text ≡ length (bars s ls) + length (piece_below s l) = ap (λ (t : List ℕ). length t) parts ∙ length-append (bars s ls) (piece_below s l) in
    let front : length text - length (piece_below s l) ≡ length (bars s ls) = omega (arith, long) in
    (λ i. take (front i) (parts i)) ∙ take-append-le (length (bars s ls)) (bars s ls) (piece_below s l) (omega arith) ∙ take_all (length (bars s ls)) (bars s ls) (omega arith)

pub piece_fits : (s : Strokes) (ls : List Bool) (l : Bool) (text : List ℕ) → text ≡ bars s (ls ++ l ∷ []) → length (piece_below s l) ≤ length text
piece_fits s ls l text e =
    let long : length text ≡ length (bars s ls) + length (piece_below s l) = ap (λ (t : List ℕ). length t) (e ∙ bars_last s ls l) ∙ length-append (bars s ls) (piece_below s l) in
    omega (arith, long)

-- what a path has once it goes down to a child
pub gone_down : (s : Strokes) (ls : List Bool) (l : Bool) (old new : List ℕ) (w p : ℕ) → old ≡ bars s ls → w ≡ cells_of_text old → p ≡ cells_of_text (piece_below s l) → new ≡ old ++ piece_below s l
    → (new ≡ bars s (ls ++ l ∷ [])) × (w + p ≡ cells_of_text new)
gone_down s ls l old new w p e0 ew ep e1 =
    let told : new ≡ bars s (ls ++ l ∷ []) = e1 ∙ ap (λ t. t ++ piece_below s l) e0 ∙ sym (bars_last s ls l) in
    let c = cells_last s ls l in
    let here = ap cells_of_text e0 in
    let there = ap cells_of_text told in
    (told, omega (arith, ew, ep, c, here, there))

-- and once it has left a row
pub gone_up : (s : Strokes) (ls : List Bool) (l : Bool) (old : List ℕ) (w p : ℕ) → old ≡ bars s (ls ++ l ∷ []) → w ≡ cells_of_text old → p ≡ cells_of_text (piece_below s l)
    → cells_of_text (bars s ls) + p ≡ w
gone_up s ls l old w p e0 ew ep =
    let c = cells_last s ls l in
    let here = ap cells_of_text e0 in
    omega (arith, ew, ep, c, here)

-- the lines that were appended for a child
pub lead_pushed : (s s0 : Strokes) (ls ls0 : List Bool) (l : Bool) (t0 t1 t2 b o : List ℕ) → b ≡ bars s ls → o ≡ own_piece s l → t1 ≡ t0 ++ b → t2 ≡ t1 ++ o → s ≡ s0 → ls ≡ ls0 → t2 ≡ t0 ++ lead s0 (ls0 ++ l ∷ [])
lead_pushed s s0 ls ls0 l t0 t1 t2 b o eb eo e1 e2 es el =
    e2 ∙ ap (λ t. t ++ o) e1 ∙ append_assoc t0 b o ∙ (λ i. t0 ++ (eb i ++ eo i)) ∙ ap (λ t. t0 ++ t) (sym (lead_last s ls l)) ∙ (λ i. t0 ++ lead (es i) (el i ++ l ∷ []))

-- how many cells they take
pub lead_wide : (s s0 : Strokes) (ls ls0 : List Bool) (l : Bool) (b o : List ℕ) (w p : ℕ) → b ≡ bars s ls → w ≡ cells_of_text b → o ≡ own_piece s l → p ≡ cells_of_text o → s ≡ s0 → ls ≡ ls0
    → HasWidth (w + p) (lead s0 (ls0 ++ l ∷ []))
lead_wide s s0 ls ls0 l b o w p eb ew eo ep es el =
    subst (λ (t : List ℕ). HasWidth (w + p) t) (λ i. lead (es i) (el i ++ l ∷ []))
    (lead_width s ls l (w + p) (λ i. (ew ∙ ap cells_of_text eb) i + (ep ∙ ap cells_of_text eo) i))

-- no more than a text that ends with them can
pub lead_fits : (s : Strokes) (ls : List Bool) (l : Bool) (t0 t1 t2 b o : List ℕ) (w p : ℕ) → b ≡ bars s ls → w ≡ cells_of_text b → o ≡ own_piece s l → p ≡ cells_of_text o → t1 ≡ t0 ++ b → t2 ≡ t1 ++ o → w + p ≤ 2 * length t2
lead_fits s ls l t0 t1 t2 b o w p eb ew eo ep e1 e2 =
    let both : cells_of_text (b ++ o) ≡ cells_of_text b + cells_of_text o =
    (λ i. cells_of_text (eb i ++ eo i)) ∙ (bars_width s ls).cells (own_piece s l) ∙ (λ i. cells_of_text (sym eb i) + cells_of_text (sym eo i)) in
    let few = few_cells (b ++ o) in
    let long = length-append b o in
    let one : length t1 ≡ length t0 + length b = ap (λ (t : List ℕ). length t) e1 ∙ length-append t0 b in
    let two : length t2 ≡ length t1 + length o = ap (λ (t : List ℕ). length t) e2 ∙ length-append t1 o in
    omega (arith, both, few, long, one, two, ew, ep)
