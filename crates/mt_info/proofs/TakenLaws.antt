-- Words that may stand first in a line, taken one by one.
use Rattle.std.proofs.Common.{◌≡◌, ◌≢◌, ℕ, ◌-◌, ◌<◌, ◌^◌, Bool, true, false, nat_eq, List, [], ◌∷◌, ◌++◌, length, length-drop, take, drop, get_or, Option, Some, None, refl, sym, ap, ◌∙◌, arith, codes, decimal}
use Rattle.std.specs.List.{starts_with}
use Rattle.std.specs.Option.{ForSome}
use Rattle.std.specs.Cmp.Lexicographic.{bytes_decides}
use Rattle.std.proofs.Math.Seq.{take-append_seam}
use Rattle.std.proofs.lemmas.List.{take-append-drop, take_all, append_cancel_left}
use Rattle.std.proofs.lemmas.Fmt.{decimal_injective}
use Rattle.mt_lines.specs.Words.{begins}
use Rattle.mt_info.specs.declared.read.Tail.{Tail}
use Rattle.mt_info.specs.RowLine.{word_if, tag}
use Rattle.mt_info.specs.Reading.{is_first_word, end_words, tail_words, IsTail}

-- a word stands first where it is set, if what follows does not begin with it
pub first_if : (w : List ℕ) (b : Bool) (rest : List (List ℕ)) → is_first_word w rest ≡ false → is_first_word w (word_if b w ++ rest) ≡ b
first_if w true rest h = (bytes_decides w w).1 refl
first_if w false rest h = h

-- one that may stand first was taken: it is told whether it was set, and what stands after it is left
pub took : (w : List ℕ) (old rest new : List (List ℕ)) (b r : Bool) → old ≡ word_if b w ++ rest → is_first_word w rest ≡ false → r ≡ is_first_word w old → old ≡ word_if r w ++ new → (r ≡ b) × (new ≡ rest)
took w old rest new b r is other here taken =
    let same : r ≡ b = here ∙ ap (is_first_word w) is ∙ first_if w b rest other in
    (same, go b (ap (λ q. word_if q w ++ new) (sym same) ∙ sym taken ∙ is))
  where
    go : (b : Bool) → word_if b w ++ new ≡ word_if b w ++ rest → new ≡ rest
    go true e = ap (drop 1) e
    go false e = e

-- a tag's word is its name and its number
pub tag_text : (name word : List ℕ) (n : ℕ) → starts_with nat_eq word name ≡ true → take (length word - length name) (drop (length name) word) ≡ decimal n → word ≡ name ++ decimal n
tag_text name word n h e =
    let all = take_all (length word - length name) (drop (length name) word) (omega (arith, length-drop (length name) word)) in
    sym (take-append-drop (length name) word) ∙ (λ i. sym ((bytes_decides name (take (length name) word)).0 h) i ++ (sym all ∙ e) i)

begins_name : (name ds : List ℕ) → starts_with nat_eq (name ++ ds) name ≡ true
begins_name name ds = (bytes_decides name (take (length name) (name ++ ds))).1 (sym (take-append_seam name ds))

-- a tag was taken, if one stood first
pub record TagTaken (name : List ℕ) (old new : List (List ℕ)) (g : Option ℕ) : Type 0 where
  pub low : ForSome g (λ n. n < 2 ^ 64)
  pub taken : old ≡ tag name g ++ new
  pub none : g ≡ None → begins name old ≡ false

-- it is the one that stood there, and what stands after it is left
pub tag_took : (name : List ℕ) (old rest new : List (List ℕ)) (o g : Option ℕ) → ForSome o (λ n. n < 2 ^ 64) → old ≡ tag name o ++ rest → begins name rest ≡ false → TagTaken name old new g → (g ≡ o) × (new ≡ rest)
tag_took name old rest new None None low is other t = (refl, sym t.taken ∙ is)
tag_took name old rest new None (Some g) low is other t =
    absurd (let here : begins name rest ≡ true = ap (begins name) (sym is ∙ t.taken) ∙ begins_name name (decimal g) in cc)
tag_took name old rest new (Some n) None low is other t =
    absurd (let here : begins name old ≡ true = ap (begins name) is ∙ begins_name name (decimal n) in let none = t.none refl in cc)
tag_took name old rest new (Some n) (Some g) low is other t =
    let same = sym t.taken ∙ is in
    (ap Some (decimal_injective g n (t.low g refl) (low n refl) (append_cancel_left name (decimal g) (decimal n) (ap (λ ws. get_or ws 0 []) same))), ap (drop 1) same)

-- a tag that stands first is read, where its number is one
pub no_tag : (name : List ℕ) (old rest : List (List ℕ)) (o : Option ℕ) → ForSome o (λ n. n < 2 ^ 64) → old ≡ tag name o ++ rest → begins name rest ≡ false
    → begins name old ≡ true → ((n : ℕ) (more : List (List ℕ)) → n < 2 ^ 64 → old ≢ (name ++ decimal n) ∷ more) → ⊥
no_tag name old rest None low is other here none = let h : begins name rest ≡ true = ap (begins name) (sym is) ∙ here in cc
no_tag name old rest (Some n) low is other here none = none n rest (low n refl) is

-- the words of a tail after its tags
abbrev pub past_via : Tail → List (List ℕ)
past_via t = word_if t.unbindable (codes "unbindable") ++ end_words t.kind t.source

abbrev pub past_master : Tail → List (List ℕ)
past_master t = tag (codes "propagate_from:") t.via ++ past_via t

abbrev pub past_shared : Tail → List (List ℕ)
past_shared t = tag (codes "master:") t.master ++ past_master t

-- no word after a tag begins as it does
pub behind_via : (b : Bool) (kind source : List ℕ) → begins (codes "propagate_from:") (word_if b (codes "unbindable") ++ end_words kind source) ≡ false
behind_via true kind source = refl
behind_via false kind source = refl

pub behind_master : (v : Option ℕ) (b : Bool) (kind source : List ℕ) → begins (codes "master:") (tag (codes "propagate_from:") v ++ (word_if b (codes "unbindable") ++ end_words kind source)) ≡ false
behind_master (Some g) b kind source = refl
behind_master None true kind source = refl
behind_master None false kind source = refl

pub behind_shared : (o v : Option ℕ) (b : Bool) (kind source : List ℕ) → begins (codes "shared:") (tag (codes "master:") o ++ (tag (codes "propagate_from:") v ++ (word_if b (codes "unbindable") ++ end_words kind source))) ≡ false
behind_shared (Some g) v b kind source = refl
behind_shared None (Some g) b kind source = refl
behind_shared None None true kind source = refl
behind_shared None None false kind source = refl

-- the tags that were taken of the words of a tail are its own
pub record TwoTaken (t : Tail) (g h : Option ℕ) (rest2 : List (List ℕ)) : Type 0 where
  pub shared : g ≡ t.shared
  pub master : h ≡ t.master
  pub rest : rest2 ≡ past_master t

pub two_taken : (t : Tail) → IsTail t → (rest0 rest1 rest2 : List (List ℕ)) (g h : Option ℕ) → rest0 ≡ tail_words t
    → TagTaken (codes "shared:") rest0 rest1 g → TagTaken (codes "master:") rest1 rest2 h → TwoTaken t g h rest2
two_taken t valid rest0 rest1 rest2 g h is shared master =
    let s = tag_took (codes "shared:") rest0 (past_shared t) rest1 t.shared g valid.shared is (behind_shared t.master t.via t.unbindable t.kind t.source) shared in
    let m = tag_took (codes "master:") rest1 (past_master t) rest2 t.master h valid.master s.1 (behind_master t.via t.unbindable t.kind t.source) master in
    record { shared = s.0; master = m.0; rest = m.1 }

pub via_taken : (t : Tail) → IsTail t → (rest2 rest3 : List (List ℕ)) (v : Option ℕ) → rest2 ≡ past_master t → TagTaken (codes "propagate_from:") rest2 rest3 v → (v ≡ t.via) × (rest3 ≡ past_via t)
via_taken t valid rest2 rest3 v is via = tag_took (codes "propagate_from:") rest2 (past_via t) rest3 t.via v valid.via is (behind_via t.unbindable t.kind t.source) via
