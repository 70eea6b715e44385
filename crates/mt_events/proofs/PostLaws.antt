-- The lines of a post.
use Rattle.std.proofs.Common.{◌≡◌, ◌≢◌, ℕ, ◌+◌, ◌<◌, ◌≤◌, ◌^◌, true, false, not, ◌&&◌, ◌==◌, List, [], ◌∷◌, ◌++◌, map, length, IsTrue, refl, sym, ap, subst, ◌∙◌, arith, append_assoc, append-nil, decimal}
use Rattle.std.specs.List.{list_all, flat_map, join_with_byte, AllByRecursion}
use Rattle.std.proofs.lemmas.Grind.{flat_map-append}
use Rattle.std.proofs.lemmas.List.{append_cancel_left}
use Rattle.std.proofs.lemmas.Fmt.{decimal_injective}
use Rattle.std.proofs.lemmas.Bool.Decides.{nat_tests}
use Rattle.std.proofs.lemmas.List.Folds.{flat_map-map}
use Rattle.mt_skel.specs.Keyed.{rises}
use Rattle.mt_info.specs.Table.{row_id}
use Rattle.mt_info.proofs.RowLineLaws.{line-injective}
use Rattle.mt_info.specs.declared.row.Row.{Row}
use Rattle.mt_info.specs.RowLine.{line}
use Rattle.mt_info.specs.Laws.{IsRow}
use Rattle.mt_info.proofs.WordLaws.{lacks, all-append, decimal-lacks}
use Rattle.mt_skel.proofs.MiddleLaws.{and-true}
use Rattle.mt_info.proofs.LineEndLaws.{decimal-lacks-end, line-lacks-end, joined-lacks-end}
use Rattle.mt_lines.specs.Words.{pieces, words, begins}
use Rattle.mt_lines.proofs.PieceLaws.{pieces_joined, joined_pieces}
use Rattle.mt_events.specs.Posts.{PostView, IsPost, itself, is_change, event_words, gone_line, row_line, minus, equals, post_lines, post_text, ended}

-- the text of a post in three parts
pub post_pieces : (p : PostView) (text0 text1 text2 text3 : List ℕ)
    → text1 ≡ text0 ++ ended (join_with_byte 32 (event_words p.space p.number (length p.gone + length p.rows)))
    → text2 ≡ text1 ++ flat_map (λ i. ended (gone_line i)) p.gone
    → text3 ≡ text2 ++ flat_map (λ r. ended (row_line r)) p.rows
    → text3 ≡ text0 ++ post_text p
unfolding post_text
post_pieces p text0 text1 text2 text3 e1 e2 e3 =
    let event : List ℕ = ended (join_with_byte 32 (event_words p.space p.number (length p.gone + length p.rows))) in
    let gone : List ℕ = flat_map (λ i. ended (gone_line i)) p.gone in
    let rows : List ℕ = flat_map (λ r. ended (row_line r)) p.rows in
    let lines : flat_map ended (map gone_line p.gone ++ map row_line p.rows) ≡ gone ++ rows = flat_map-append ended (map gone_line p.gone) (map row_line p.rows) ∙ (λ k. flat_map-map ended gone_line p.gone k ++ flat_map-map ended row_line p.rows k) in
    joined text0 text1 text2 text3 event gone rows e1 e2 e3 ∙ ap (λ t. text0 ++ (event ++ t)) (sym lines)
  where
    joined : (text0 text1 text2 text3 a b c : List ℕ) → text1 ≡ text0 ++ a → text2 ≡ text1 ++ b → text3 ≡ text2 ++ c → text3 ≡ text0 ++ (a ++ (b ++ c))
    joined text0 text1 text2 text3 a b c e1 e2 e3 = rw (e3, e2, e1) (simp append_assoc)

abbrev pub post_with : ℕ → ℕ → List ℕ → List Row → PostView
post_with space number gone rows = record { space = space; number = number; gone = gone; rows = rows }

-- posts of one namespace and number are equal where their lists are
pub post_same : (space number : ℕ) (gone left : List ℕ) (rows news : List Row) → gone ≡ left → rows ≡ news → post_with space number gone rows ≡ post_with space number left news
post_same space number gone left rows news e f = λ k. post_with space number (e k) (f k)

-- lines of one kind, in front of others
module _ {X : Type 0} (f : X → List ℕ) (start : List ℕ) (each : (x : X) (rest : List (List ℕ)) → begins start (f x ∷ rest) ≡ true) where
  clash : (x : X) (rest s : List (List ℕ)) → s ≡ f x ∷ rest → begins start s ≡ false → ⊥
  clash x rest s e other = let here : begins start s ≡ true = ap (begins start) e ∙ each x rest in cc

  -- what stands after them
  pub same_behind : (xs ys : List X) (r s : List (List ℕ)) → map f xs ++ r ≡ map f ys ++ s → begins start r ≡ false → begins start s ≡ false → r ≡ s
  same_behind [] [] r s e h k = e
  same_behind [] (y ∷ ys) r s e h k = absurd (clash y (map f ys ++ s) r e h)
  same_behind (x ∷ xs) [] r s e h k = absurd (clash x (map f xs ++ r) s (sym e) k)
  same_behind (x ∷ xs) (y ∷ ys) r s e h k =
      let both : f x ∷ (map f xs ++ r) ≡ f y ∷ (map f ys ++ s) = e in
      same_behind xs ys r s (cc) h k

  -- a line that is none of theirs
  pub no_line_at : {Valid : X → Type 0} (done ys : List X) (l : List ℕ) (more s : List (List ℕ)) → map f done ++ l ∷ more ≡ map f ys ++ s → begins start (l ∷ more) ≡ true → begins start s ≡ false
      → AllByRecursion Valid ys → ((y : X) → Valid y → l ≢ f y) → ⊥
  no_line_at [] [] l more s e h k valid none = let h_2 : begins start s ≡ true = ap (begins start) (sym e) ∙ h in cc
  no_line_at [] (y ∷ ys) l more s e h k valid none =
      let both : l ∷ more ≡ f y ∷ (map f ys ++ s) = e in
      none y valid.0 (cc)
  no_line_at (d ∷ done) [] l more s e h k valid none = clash d (map f done ++ l ∷ more) s (sym e) k
  no_line_at (d ∷ done) (y ∷ ys) l more s e h k valid none =
      let both : f d ∷ (map f done ++ l ∷ more) ≡ f y ∷ (map f ys ++ s) = e in
      no_line_at done ys l more s (cc) h k valid.1 none

  -- and the lines themselves, where a line tells what it is of
  pub same_lines : {Valid : X → Type 0} → ((x y : X) → Valid x → Valid y → f x ≡ f y → x ≡ y) → (xs ys : List X) (r s : List (List ℕ)) → map f xs ++ r ≡ map f ys ++ s → begins start r ≡ false → begins start s ≡ false
      → AllByRecursion Valid xs → AllByRecursion Valid ys → xs ≡ ys
  same_lines tells [] [] r s e h k p q = refl
  same_lines tells [] (y ∷ ys) r s e h k p q = absurd (clash y (map f ys ++ s) r e h)
  same_lines tells (x ∷ xs) [] r s e h k p q = absurd (clash x (map f xs ++ r) s (sym e) k)
  same_lines tells (x ∷ xs) (y ∷ ys) r s e h k p q =
      let both : f x ∷ (map f xs ++ r) ≡ f y ∷ (map f ys ++ s) = e in
      let here : f x ≡ f y = cc in
      let later : map f xs ++ r ≡ map f ys ++ s = cc in
      λ i. tells x y p.0 q.0 here i ∷ same_lines tells xs ys r s later h k p.1 q.1 i

-- the line of a mount that left begins with a minus, and that of a row with an equals sign
pub gone_begins : (i : ℕ) (rest : List (List ℕ)) → begins minus (gone_line i ∷ rest) ≡ true
gone_begins i rest = refl

pub row_begins : (r : Row) (rest : List (List ℕ)) → begins equals (row_line r ∷ rest) ≡ true
row_begins r rest = refl

-- so where the rows come, no line of a mount that left comes any more
pub rows_end : (rows : List Row) → begins minus (map row_line rows ++ [] ∷ []) ≡ false
rows_end [] = refl
rows_end (r ∷ rows) = refl

-- the first line
abbrev pub event_line : PostView → List ℕ
event_line p = join_with_byte 32 (event_words p.space p.number (length p.gone + length p.rows))

pub event_lacks : (space number count : ℕ) → space < 2 ^ 64 → number < 2 ^ 64 → count < 2 ^ 64 → list_all (lacks 32) (event_words space number count) ≡ true
event_lacks space number count a b d =
    and-true (lacks 32 (decimal space)) _ (decimal-lacks space a) (and-true (lacks 32 (decimal number)) _ (decimal-lacks number b) (and-true (lacks 32 (decimal count)) true (decimal-lacks count d) refl))

pub event_split : (line : List ℕ) (old more rest : List (List ℕ)) (space number count : ℕ) → space < 2 ^ 64 → number < 2 ^ 64 → count < 2 ^ 64 → old ≡ line ∷ more → old ≡ join_with_byte 32 (event_words space number count) ∷ rest
    → words line ≡ event_words space number count
event_split line old more rest space number count a b d e f =
    let both : line ∷ more ≡ join_with_byte 32 (event_words space number count) ∷ rest = sym e ∙ f in
    let is : line ≡ join_with_byte 32 (event_words space number count) = cc in
    ap words is ∙ pieces_joined 32 _ _ (event_lacks space number count a b d)

-- lines of which the first has the words of an event begin with the first line of a post
pub event_is : (line : List ℕ) (old more ws : List (List ℕ)) (space number count : ℕ) → old ≡ line ∷ more → ws ≡ words line → ws ≡ event_words space number count → old ≡ join_with_byte 32 (event_words space number count) ∷ more
event_is line old more ws space number count e w f =
    e ∙ ap (λ l. l ∷ more) (sym (joined_pieces 32 line) ∙ ap (join_with_byte 32) (sym w ∙ f))

-- the lines of a text
ended_lines : (ls : List (List ℕ)) → flat_map ended ls ≡ join_with_byte 10 (ls ++ [] ∷ [])
ended_lines [] = refl
ended_lines (l ∷ []) = append-nil (l ++ 10 ∷ [])
ended_lines (l ∷ m ∷ ls) = append_assoc l (10 ∷ []) (flat_map ended (m ∷ ls)) ∙ ap (λ t. l ++ 10 ∷ t) (ended_lines (m ∷ ls))

-- lines of one kind that lack it
each-lacks : {X : Type 0} {Valid : X → Type 0} (f : X → List ℕ) → ((x : X) → Valid x → lacks 10 (f x) ≡ true) → (xs : List X) → AllByRecursion Valid xs → list_all (lacks 10) (map f xs) ≡ true
each-lacks f each [] h = refl
each-lacks f each (x ∷ xs) h = and-true (lacks 10 (f x)) _ (each x h.0) (each-lacks f each xs h.1)

event-lacks-end : (space number count : ℕ) → space < 2 ^ 64 → number < 2 ^ 64 → count < 2 ^ 64 → lacks 10 (join_with_byte 32 (event_words space number count)) ≡ true
event-lacks-end space number count a b d =
    joined-lacks-end 32 (event_words space number count) refl
    (and-true (lacks 10 (decimal space)) _ (decimal-lacks-end space a) (and-true (lacks 10 (decimal number)) _ (decimal-lacks-end number b) (and-true (lacks 10 (decimal count)) true (decimal-lacks-end count d) refl)))

-- what stands after those of the mounts that left
abbrev tail_lines : PostView → List (List ℕ)
tail_lines p = map row_line p.rows ++ [] ∷ []

pub post_split : (text : List ℕ) (p : PostView) → IsPost p → text ≡ post_text p → pieces 10 text ≡ event_line p ∷ (map gone_line p.gone ++ tail_lines p)
unfolding post_text
post_split text p h e =
    let gone = each-lacks gone_line (λ i low. all-append (λ b. not (b == 10)) minus (decimal i) refl (decimal-lacks-end i low)) p.gone h.gone in
    let rows = each-lacks row_line (λ r valid. all-append (λ b. not (b == 10)) equals (line r) refl (line-lacks-end r valid)) p.rows h.rows in
    let lacking : list_all (lacks 10) (post_lines p ++ [] ∷ []) ≡ true =
    all-append (lacks 10) (post_lines p) ([] ∷ [])
    (and-true (lacks 10 (event_line p)) _ (event-lacks-end p.space p.number (length p.gone + length p.rows) h.space h.number h.counted) (all-append (lacks 10) (map gone_line p.gone) (map row_line p.rows) gone rows)) refl in
    ap (pieces 10) (e ∙ ended_lines (post_lines p))
    ∙ pieces_joined 10 (event_line p) ((map gone_line p.gone ++ map row_line p.rows) ++ [] ∷ []) lacking
    ∙ ap (λ ls. event_line p ∷ ls) (append_assoc (map gone_line p.gone) (map row_line p.rows) ([] ∷ []))

-- a text whose lines are, part by part, those of a post is its text
pub post_is : (text : List ℕ) (p : PostView) (count : ℕ) (whole past_event past_gone past_rows : List (List ℕ)) → whole ≡ pieces 10 text → whole ≡ join_with_byte 32 (event_words p.space p.number count) ∷ past_event → count ≡ length p.gone + length p.rows
    → past_event ≡ map gone_line p.gone ++ past_gone → past_gone ≡ map row_line p.rows ++ past_rows → past_rows ≡ [] ∷ [] → text ≡ post_text p
unfolding post_text
post_is text p count whole past_event past_gone past_rows is e n g r end =
    let lines : pieces 10 text ≡ event_line p ∷ (map gone_line p.gone ++ tail_lines p) =
    sym is ∙ e ∙ (λ k. join_with_byte 32 (event_words p.space p.number (n k)) ∷ (g ∙ ap (λ w. map gone_line p.gone ++ w) (r ∙ ap (λ w. map row_line p.rows ++ w) end)) k) in
    sym (joined_pieces 10 text)
    ∙ ap (join_with_byte 10) (lines ∙ ap (λ ls. event_line p ∷ ls) (sym (append_assoc (map gone_line p.gone) (map row_line p.rows) ([] ∷ []))))
    ∙ sym (ended_lines (post_lines p))

-- a line tells what it is of
gone_tells : (i j : ℕ) → i < 2 ^ 64 → j < 2 ^ 64 → gone_line i ≡ gone_line j → i ≡ j
gone_tells i j a b e = decimal_injective i j a b (append_cancel_left minus (decimal i) (decimal j) e)

row_tells : (r s : Row) → IsRow r → IsRow s → row_line r ≡ row_line s → r ≡ s
row_tells r s a b e = line-injective r s a b (append_cancel_left equals (line r) (line s) e)

abbrev pub second : List (List ℕ) → List ℕ
second (a ∷ b ∷ rest) = b
second _ = []

abbrev pub third : List (List ℕ) → List ℕ
third (a ∷ b ∷ c ∷ rest) = c
third _ = []

abbrev pub fourth : List (List ℕ) → List ℕ
fourth (a ∷ b ∷ c ∷ d ∷ rest) = d
fourth _ = []

event_tells : (space number count space_2 number_2 count_2 : ℕ) → space < 2 ^ 64 → number < 2 ^ 64 → count < 2 ^ 64 → space_2 < 2 ^ 64 → number_2 < 2 ^ 64 → count_2 < 2 ^ 64
    → join_with_byte 32 (event_words space number count) ≡ join_with_byte 32 (event_words space_2 number_2 count_2) → (space ≡ space_2) × (number ≡ number_2) × (count ≡ count_2)
event_tells space number count space_2 number_2 count_2 a b d a_2 b_2 d_2 e =
    let same : event_words space number count ≡ event_words space_2 number_2 count_2 =
    sym (pieces_joined 32 _ _ (event_lacks space number count a b d)) ∙ ap (pieces 32) e ∙ pieces_joined 32 _ _ (event_lacks space_2 number_2 count_2 a_2 b_2 d_2) in
    (decimal_injective space space_2 a a_2 (ap second same), decimal_injective number number_2 b b_2 (ap third same), decimal_injective count count_2 d d_2 (ap fourth same))

-- what is left behind each part, and what is read in front of it
module _ {text : List ℕ} (p : PostView) (h : IsPost p) (e : text ≡ post_text p) {whole past : List (List ℕ)} {first : List ℕ} (is : whole ≡ pieces 10 text) (begun : whole ≡ first ∷ past) where
  both : first ∷ past ≡ event_line p ∷ (map gone_line p.gone ++ tail_lines p)
  both = sym begun ∙ is ∙ post_split text p h e

  pub behind_event : past ≡ map gone_line p.gone ++ tail_lines p
  behind_event = let lines = both in cc

  module _ {past_gone : List (List ℕ)} (gone : List ℕ) (g : past ≡ map gone_line gone ++ past_gone) (none : begins minus past_gone ≡ false) where
    pub behind_gone : past_gone ≡ tail_lines p
    behind_gone = same_behind gone_line minus gone_begins gone p.gone past_gone (tail_lines p) (sym g ∙ behind_event) none (rows_end p.rows)

    module _ (past_rows : List (List ℕ)) (rows : List Row) (r : past_gone ≡ map row_line rows ++ past_rows) (after : begins equals past_rows ≡ false) where
      pub behind_rows : past_rows ≡ [] ∷ []
      behind_rows = same_behind row_line equals row_begins rows p.rows past_rows ([] ∷ []) (sym r ∙ behind_gone) after refl

      parts_tell : (space number count : ℕ) → first ≡ join_with_byte 32 (event_words space number count) → space < 2 ^ 64 → number < 2 ^ 64 → count < 2 ^ 64 → AllByRecursion (λ i. i < 2 ^ 64) gone → AllByRecursion IsRow rows
          → (space ≡ p.space) × (number ≡ p.number) × (count ≡ length p.gone + length p.rows) × (gone ≡ p.gone) × (rows ≡ p.rows)
      parts_tell space number count f a b d small valid =
          let lines = both in
          let told = event_tells space number count p.space p.number (length p.gone + length p.rows) a b d h.space h.number h.counted (cc) in (
            told.0,
            told.1,
            told.2,
            same_lines gone_line minus gone_begins {Valid = λ i. i < 2 ^ 64} gone_tells gone p.gone past_gone (tail_lines p) (sym g ∙ behind_event) none (rows_end p.rows) small h.gone,
            same_lines row_line equals row_begins {Valid = IsRow} row_tells rows p.rows past_rows ([] ∷ []) (sym r ∙ behind_gone) after refl valid h.rows,
          )

-- what is read of the text of a post can be one
pub can_be_post : {text : List ℕ} (p : PostView) → IsPost p → text ≡ post_text p → (space number count : ℕ) → space < 2 ^ 64 → number < 2 ^ 64 → count < 2 ^ 64
    → (gone : List ℕ) (rows : List Row) → AllByRecursion (λ i. i < 2 ^ 64) gone → AllByRecursion IsRow rows
    → {whole past_event past_gone : List (List ℕ)} (past_rows : List (List ℕ)) → whole ≡ pieces 10 text → whole ≡ join_with_byte 32 (event_words space number count) ∷ past_event
    → past_event ≡ map gone_line gone ++ past_gone → begins minus past_gone ≡ false → past_gone ≡ map row_line rows ++ past_rows → begins equals past_rows ≡ false
    → (1 ≤ number) × IsTrue (rises itself gone && rises row_id rows && is_change gone rows && (count == length gone + length rows))
can_be_post p h e space number count a b d gone rows small valid past_rows is begun g none r after =
    let t = parts_tell p h e is begun gone g none past_rows rows r after space number count refl a b d small valid in
    let counted : (length p.gone + length p.rows == length p.gone + length p.rows) ≡ true = grind (arith, nat_tests) in
    rw (t.1, t.2, t.3, t.4) (h.first, and-true _ _ (and-true _ _ (and-true _ _ h.rising_gone h.rising_rows) h.change) counted)

-- a text tells of which post it is
pub text_tells : (p q : PostView) → IsPost p → IsPost q → post_text p ≡ post_text q → p ≡ q
text_tells p q h k e =
    let t = parts_tell q k e refl (post_split (post_text p) p h refl) p.gone refl (rows_end p.rows) ([] ∷ []) p.rows refl refl p.space p.number (length p.gone + length p.rows) refl h.space h.number h.counted h.gone h.rows in
    λ i. record { space = t.0 i; number = t.1 i; gone = t.3 i; rows = t.4 i }

pub texts_tell : (ps qs : List PostView) → AllByRecursion IsPost ps → AllByRecursion IsPost qs → map post_text ps ≡ map post_text qs → ps ≡ qs
texts_tell [] [] h k e = refl
texts_tell [] (q ∷ qs) h k e = let both : [] ≡ post_text q ∷ map post_text qs = e in cc
texts_tell (p ∷ ps) [] h k e = let both : post_text p ∷ map post_text ps ≡ [] = e in cc
texts_tell (p ∷ ps) (q ∷ qs) h k e =
    let both : post_text p ∷ map post_text ps ≡ post_text q ∷ map post_text qs = e in
    let first : post_text p ≡ post_text q = cc in
    let later : map post_text ps ≡ map post_text qs = cc in
    λ i. text_tells p q h.0 k.0 first i ∷ texts_tell ps qs h.1 k.1 later i

-- a post that was read has in its fields what every post has there by its type
pub post_valid : (space number count : ℕ) (gone : List ℕ) (rows : List Row) (p : PostView) → p ≡ post_with space number gone rows → count ≡ length gone + length rows
    → (space < 2 ^ 64) × (number < 2 ^ 64) × (count < 2 ^ 64) → AllByRecursion (λ i. i < 2 ^ 64) gone → AllByRecursion IsRow rows
    → (IsTrue (rises itself p.gone) × IsTrue (rises row_id p.rows)) × ((1 ≤ p.number) × IsTrue (is_change p.gone p.rows)) → IsPost p
post_valid space number count gone rows p is counted small ids valid told =
    let whole = subst (λ q. (IsTrue (rises itself q.gone) × IsTrue (rises row_id q.rows)) × ((1 ≤ q.number) × IsTrue (is_change q.gone q.rows))) is told in
    subst IsPost (sym is) (record {
      space = small.0;
      number = small.1;
      first = whole.1.0;
      gone = ids;
      rows = valid;
      counted = subst (λ k. k < 2 ^ 64) counted small.2;
      rising_gone = whole.0.0;
      rising_rows = whole.0.1;
      change = whole.1.1;
    })
