-- What cannot come first where a line, a row or a heading is refused, and what was read of an opening.
use Rattle.std.proofs.Common.{None, Option, MatchOption, append_assoc, ◌≡◌, ◌≢◌, ◌==◌, Bool, MatchBool, ℕ, ◌+◌, ◌<◌, ◌^◌, true, false, List, [], ◌∷◌, ◌++◌, map, length, refl, sym, ap, ◌∙◌, arith, codes, decimal, inl, inr, ◌≤◌, subst, append-nil, length-append, fold, drop, get_or, IsTrue, Some}
use Rattle.std.specs.List.{join_with_byte, AllByRecursion, flat_map, list_all}
use Rattle.std.proofs.lemmas.List.{append_cancel_left, length-map}
use Rattle.std.proofs.lemmas.Bool.{false≢true}
use Rattle.std.proofs.lemmas.Option.{same_Some}
use Rattle.std.proofs.lemmas.Bool.Decides.{nat_tests}
use Rattle.std.proofs.lemmas.Fmt.{decimal_injective}
use Rattle.mt_lines.specs.Words.{words}
use Rattle.mt_lines.proofs.PieceLaws.{pieces_joined, joined_pieces}
use Rattle.mt_info.proofs.WordLaws.{lacks, decimal-lacks}
use Rattle.mt_skel.proofs.MiddleLaws.{and-true}
use Rattle.mt_lines.specs.Lines.{Item, Text}
use Rattle.mt_info.specs.Laws.{IsRow}
use Rattle.mt_info.specs.RowLine.{line, whole_line}
use Rattle.mt_info.specs.declared.row.Row.{Row}
use Rattle.mt_info.proofs.RowLineLaws.{line-injective}
use Rattle.mt_events.proofs.PostLaws.{second, third, fourth}
use Rattle.mt_client.specs.Requests.{is_refusal}
use Rattle.mt_client.specs.Limits.{most_rows, most_opening_lines}
use Rattle.mt_client.specs.Reading.{texts, ComeFirst, NoneFirst, AreSoMany, printed}
use Rattle.mt_client.specs.Mirroring.{counted_line, heading_words, IsShown, heading_line, part_lines, opening_lines, opening_with, HasOpened}
use Rattle.mt_client.specs.Awaited.{IsOneRefusal, IsRefusedOr, AreRowLines, IsOpening}
use Rattle.mt_client.proofs.RelayLaws.{printed-append, KnownByLines, items_alike, items_cut, first_alike, prepended, come_prepended}
use Rattle.mt_skel.specs.Rising.{is_above, rises_after}
use Rattle.mt_skel.proofs.RisingLaws.{after_kept}
use Rattle.mt_skel.specs.Keyed.{rises}
use Rattle.mt_events.specs.Mirrors.{MirrorView}
use Rattle.mt_events.specs.Posts.{ended}
use Rattle.mt_events.specs.declared.opening.Part.{Part}
use Rattle.mt_events.specs.declared.opening.Scope.{Scope}
use Rattle.mt_events.specs.declared.opening.Scope.TheVariants.{One, All}
use Rattle.mt_events.specs.Texts.{count_text, part_text, lines_of_parts, opening_text}
use Rattle.mt_client.specs.declared.opening.Heading.{Heading}
use Rattle.mt_client.specs.Finding.{mirror_space, parts_lines, found_lines, AreOf, AreShown, part_found, opening_found, HasFound, HasWatched, IsFinding, IsPartWithin, ArePartLines}

-- the first of the lines that come first
pub first_taken : {seen first : List ℕ} {lines others : List (List ℕ)} {before middle : Option (List Item)} (later : List Item) → ComeFirst before (seen ∷ []) middle → lines ≡ first ∷ others → before ≡ Some (texts lines ++ later) → (first ≡ seen) × (middle ≡ Some (texts others ++ later))
first_taken later there is e =
    let r = there.known _ e in
    let f = first_alike (sym r.2 ∙ ap (λ ls. texts ls ++ later) is) in
    (sym f.0, r.1 ∙ ap Some f.1)

-- what cannot come first where no line does
pub needs_line : {kind : List (List ℕ) → Type 0} {before : Option (List Item)} → ((lines : List (List ℕ)) → kind lines → (first : List ℕ) × (others : List (List ℕ)) × (lines ≡ first ∷ others)) → NoneFirst (AreSoMany 1) before → NoneFirst kind before
needs_line some none lines later k e =
    let s = some lines k in
    none (s.0 ∷ []) (texts s.1 ++ later) refl (e ∙ ap (λ ls. Some (texts ls ++ later)) s.2)

pub refused_some : {kind : List (List ℕ) → Type 0} → ((lines : List (List ℕ)) → kind lines → (first : List ℕ) × (others : List (List ℕ)) × (lines ≡ first ∷ others)) → (lines : List (List ℕ)) → IsRefusedOr kind lines → (first : List ℕ) × (others : List (List ℕ)) × (lines ≡ first ∷ others)
refused_some some lines (inl r) = (r.0, [], r.2)
refused_some some lines (inr k) = some lines k

-- a line that does not refuse
pub no_refusal : {seen : List ℕ} {before middle : Option (List Item)} → ComeFirst before (seen ∷ []) middle → is_refusal seen ≡ false → NoneFirst IsOneRefusal before
no_refusal there tells lines later r e =
    let t = first_taken later there r.2 e in
    false≢true (sym tells ∙ ap is_refusal (sym t.0) ∙ r.1)

pub unrefused_or : {kind : List (List ℕ) → Type 0} {before : Option (List Item)} → NoneFirst IsOneRefusal before → NoneFirst kind before → NoneFirst (IsRefusedOr kind) before
unrefused_or refusal none lines later (inl r) e = refusal lines later r e
unrefused_or refusal none lines later (inr k) e = none lines later k e

-- a line that counts tells the number, and the first line of a namespace its numbers
pub counted_tells : (n m : ℕ) → n < 2 ^ 64 → m < 2 ^ 64 → counted_line n ≡ counted_line m → n ≡ m
counted_tells n m a b e = decimal_injective n m a b (append_cancel_left (codes "ok ") (decimal n) (decimal m) e)

pub number_told : (number count : ℕ) (seen : List ℕ) → number < 2 ^ 64 → count < 2 ^ 64 → seen ≡ counted_line number → MatchBool (number == count) (seen ≡ counted_line count) (seen ≢ counted_line count)
number_told number count seen a b is = go (number == count) refl
  where
    go : (same : Bool) → (number == count) ≡ same → MatchBool same (seen ≡ counted_line count) (seen ≢ counted_line count)
    go true e = let n : number ≡ count = grind (arith, nat_tests) in is ∙ ap counted_line n
    go false e = λ f. let n = counted_tells number count a b (sym is ∙ f) in grind (arith, nat_tests)

-- the words of a first line
pub heading_lacks : (space number count : ℕ) → space < 2 ^ 64 → number < 2 ^ 64 → count < 2 ^ 64 → list_all (lacks 32) (heading_words space number count) ≡ true
heading_lacks space number count a b d =
    and-true (lacks 32 (decimal space)) _ (decimal-lacks space a) (and-true (lacks 32 (decimal number)) _ (decimal-lacks number b) (and-true (lacks 32 (decimal count)) true (decimal-lacks count d) refl))

pub heading_tells : (space number count space_2 number_2 count_2 : ℕ) → space < 2 ^ 64 → number < 2 ^ 64 → count < 2 ^ 64 → space_2 < 2 ^ 64 → number_2 < 2 ^ 64 → count_2 < 2 ^ 64
    → join_with_byte 32 (heading_words space number count) ≡ join_with_byte 32 (heading_words space_2 number_2 count_2) → (space ≡ space_2) × (number ≡ number_2) × (count ≡ count_2)
heading_tells space number count space_2 number_2 count_2 a b d a_2 b_2 d_2 e =
    let same : heading_words space number count ≡ heading_words space_2 number_2 count_2 =
    sym (pieces_joined 32 _ _ (heading_lacks space number count a b d)) ∙ ap words e ∙ pieces_joined 32 _ _ (heading_lacks space_2 number_2 count_2 a_2 b_2 d_2) in
    (decimal_injective space space_2 a a_2 (ap second same), decimal_injective number number_2 b b_2 (ap third same), decimal_injective count count_2 d d_2 (ap fourth same))

-- rows and their lines
abbrev pub row_items : KnownByLines
row_items = record { X = Row; IsValid = IsRow; lines_of = λ row. line row ∷ []; all = map line; none = refl; both = λ row rows. refl; some = λ row. omega arith; alike = λ r n middle later p q e. let f = first_alike e in (line-injective r n p q f.0, f.1) }

pub few : (n : ℕ) → n ≤ most_rows → n < 2 ^ 64
few n le = omega (arith, le)

-- so does the number of its lines
few_lines : (n : ℕ) → n ≤ most_opening_lines → n < 2 ^ 64
few_lines n le = omega (arith, le)

-- the text of an opening
pub rows_text : (rows : List Row) → printed (map line rows) ≡ flat_map whole_line rows
rows_text [] = refl
rows_text (r ∷ rows) = ap (λ x. ended (line r) ++ x) (rows_text rows)

heading_text : (space number count rest : List ℕ)
    → ended (join_with_byte 32 (codes "space" ∷ space ∷ number ∷ count ∷ [])) ++ rest ≡ codes "space " ++ space ++ codes " " ++ number ++ codes " " ++ count ++ 10 ∷ [] ++ rest
heading_text space number count rest = simp append_assoc refl

pub part_is : (m : MirrorView) → printed (part_lines m) ≡ part_text (part_found m)
part_is m = ap (λ x. ended (heading_line m) ++ x) (rows_text m.rows) ∙ heading_text (decimal m.space) (decimal m.number) (decimal (length m.rows)) (flat_map whole_line m.rows)

pub opening_is : (m : MirrorView) → printed (opening_lines m) ≡ opening_text (opening_with m)
opening_is m =
    let n : 1 + length m.rows ≡ 0 + (1 + length m.rows) = omega arith in
    ap (λ x. ended (counted_line (1 + length m.rows)) ++ x) (part_is m ∙ sym (append-nil _)) ∙ ap (λ x. count_text x ++ flat_map part_text (opening_with m).parts) n

-- a line is the first one of a namespace where its words are, and none where they are not
pub heading_is : (r : Option Heading) (line : List ℕ) (ws : List (List ℕ)) → ws ≡ words line
    → MatchOption r ((space number count : ℕ) → space < 2 ^ 64 → number < 2 ^ 64 → count < 2 ^ 64 → ws ≢ heading_words space number count) (λ h. ws ≡ heading_words h.space h.number h.count)
    → MatchOption r ((space number count : ℕ) → space < 2 ^ 64 → number < 2 ^ 64 → count < 2 ^ 64 → line ≢ join_with_byte 32 (heading_words space number count)) (λ h. line ≡ join_with_byte 32 (heading_words h.space h.number h.count))
heading_is (Some h) line ws is e = sym (joined_pieces 32 line) ∙ ap (join_with_byte 32) (sym is ∙ e)
heading_is None line ws is none = λ space number count a b d e. none space number count a b d (is ∙ ap words e ∙ pieces_joined 32 _ _ (heading_lacks space number count a b d))

-- how many lines namespaces have
part_count : (m : MirrorView) (parts : List MirrorView) → length (parts_lines (m ∷ parts)) ≡ 1 + length m.rows + length (parts_lines parts)
part_count m parts =
    let l = length-append (map line m.rows) (parts_lines parts) in
    let r = length-map m.rows line in
    omega (arith, l, r)

-- lines determine the namespace that they show
shown_alike : (m n : MirrorView) (middle later : List Item) → IsShown m → IsShown n → texts (part_lines m) ++ middle ≡ texts (part_lines n) ++ later → (m ≡ n) × (middle ≡ later)
shown_alike m n middle later s t e =
    let both : Text (heading_line m) ∷ (texts (map line m.rows) ++ middle) ≡ Text (heading_line n) ∷ (texts (map line n.rows) ++ later) = e in
    let here : heading_line m ≡ heading_line n = cc in
    let rest : texts (map line m.rows) ++ middle ≡ texts (map line n.rows) ++ later = cc in
    let w = heading_tells m.space m.number (length m.rows) n.space n.number (length n.rows) s.space s.number (few (length m.rows) s.counted) t.space t.number (few (length n.rows) t.counted) here in
    let r = items_alike row_items m.rows n.rows later s.rows t.rows (length-map m.rows line ∙ w.2 ∙ sym (length-map n.rows line)) (come_prepended (map line m.rows) (Some middle)) (prepended (map line m.rows) middle ∙ ap Some rest) in
    (λ i. record { space = w.0 i; number = w.1 i; rows = r.0 i }, same_Some middle later r.1)

-- two openings of one namespace that come first are one, and end in one place
pub opened_alike : (space : ℕ) (before middle : Option (List Item)) (later : List Item) (mirror found : MirrorView) → HasOpened space before middle mirror → IsShown found → before ≡ Some (texts (opening_lines found) ++ later) → (mirror ≡ found) × (middle ≡ Some later)
opened_alike space before middle later mirror found o s e =
    let r = o.read.known _ e in
    let f = first_alike (sym r.2) in
    let a = shown_alike mirror found r.0 later o.shown s f.1 in
    (a.0, r.1 ∙ ap Some a.1)

-- namespaces are known by their lines
abbrev part_items : KnownByLines
part_items = record { X = MirrorView; IsValid = IsShown; lines_of = part_lines; all = parts_lines; none = refl; both = λ m parts. refl; some = λ m. omega arith; alike = shown_alike }

pub parts_cut : (count left : ℕ) (parts : List MirrorView) (before middle : Option (List Item)) → ComeFirst before (parts_lines parts) middle → length (parts_lines parts) + left ≡ count → 0 < left → AllByRecursion IsShown parts → NoneFirst (IsPartWithin left) middle
    → NoneFirst (ArePartLines count) before
parts_cut count left parts before middle came many some shown none lines later k e =
    let n = k.many in
    items_cut part_items parts k.found later shown k.shown (omega (arith, many, n, some)) came (e ∙ ap (λ ls. Some (texts ls ++ later)) k.all)
    (λ m rest is within. let l = length-map m.rows line in none (part_lines m) rest (record { found = m; shown = is; within = omega (arith, l, many, n, within); all = refl }))

-- the numbers of a first line, and what is behind it, where the lines of a namespace come first
within_told : (left : ℕ) (h : Heading) (seen : List ℕ) (before middle : Option (List Item)) (later : List Item) (lines : List (List ℕ)) → ComeFirst before (seen ∷ []) middle → seen ≡ join_with_byte 32 (heading_words h.space h.number h.count)
    → (h.space < 2 ^ 64) × (h.number < 2 ^ 64) × (h.count < 2 ^ 64) → (k : IsPartWithin left lines) → before ≡ Some (texts lines ++ later) → (h.count ≡ length k.found.rows) × (middle ≡ Some (texts (map line k.found.rows) ++ later))
within_told left h seen before middle later lines there is small k e =
    let t = first_taken later there k.all e in
    let w = heading_tells h.space h.number h.count k.found.space k.found.number (length k.found.rows) small.0 small.1 small.2 k.shown.space k.shown.number (few (length k.found.rows) k.shown.counted) (sym is ∙ sym t.0) in
    (w.2, t.1)

pub within_needs_room : (left : ℕ) (h : Heading) (seen : List ℕ) (before middle : Option (List Item)) → ComeFirst before (seen ∷ []) middle → seen ≡ join_with_byte 32 (heading_words h.space h.number h.count)
    → (h.space < 2 ^ 64) × (h.number < 2 ^ 64) × (h.count < 2 ^ 64) → left ≤ h.count → NoneFirst (IsPartWithin left) before
within_needs_room left h seen before middle there is small over lines later k e =
    let t = within_told left h seen before middle later lines there is small k e in
    let same = t.0 in
    let within = k.within in
    omega (arith, same, within, over)

-- nor where its first line tells more rows than there may be
pub within_needs_few : (left : ℕ) (h : Heading) (seen : List ℕ) (before middle : Option (List Item)) → ComeFirst before (seen ∷ []) middle → seen ≡ join_with_byte 32 (heading_words h.space h.number h.count)
    → (h.space < 2 ^ 64) × (h.number < 2 ^ 64) × (h.count < 2 ^ 64) → most_rows < h.count → NoneFirst (IsPartWithin left) before
within_needs_few left h seen before middle there is small many lines later k e =
    let t = within_told left h seen before middle later lines there is small k e in
    let same = t.0 in
    let few = k.shown.counted in
    omega (arith, same, few, many)

-- no namespace comes first where fewer rows stand behind its first line than it tells
pub within_needs_rows : (left : ℕ) (h : Heading) (seen : List ℕ) (before middle : Option (List Item)) → ComeFirst before (seen ∷ []) middle → seen ≡ join_with_byte 32 (heading_words h.space h.number h.count)
    → (h.space < 2 ^ 64) × (h.number < 2 ^ 64) × (h.count < 2 ^ 64) → NoneFirst (AreRowLines h.count) middle → NoneFirst (IsPartWithin left) before
within_needs_rows left h seen before middle there is small none lines later k e =
    let t = within_told left h seen before middle later lines there is small k e in
    none (map line k.found.rows) later (record { rows = k.found.rows; valid = k.shown.rows; rising = k.shown.rising; many = sym t.0; all = refl }) t.1

-- how many lines come for the namespaces, and what is behind the first line, where the lines of an opening come first
finding_told : (scope : Scope) (count : ℕ) (seen : List ℕ) (before middle : Option (List Item)) (later : List Item) (lines : List (List ℕ)) → ComeFirst before (seen ∷ []) middle → seen ≡ counted_line count → count < 2 ^ 64 → (k : IsFinding scope lines) → before ≡ Some (texts lines ++ later)
    → (length (parts_lines k.found) ≡ count) × (middle ≡ Some (texts (parts_lines k.found) ++ later))
finding_told scope count seen before middle later lines there is small k e =
    let t = first_taken later there k.all e in
    (counted_tells (length (parts_lines k.found)) count (few_lines (length (parts_lines k.found)) k.shown.counted) small (t.0 ∙ is), t.1)

-- an opening has no more lines than there may be
pub finding_needs_few : (scope : Scope) (count : ℕ) (seen : List ℕ) (before middle : Option (List Item)) → ComeFirst before (seen ∷ []) middle → is_refusal seen ≡ false → seen ≡ counted_line count → count < 2 ^ 64 → most_opening_lines < count
    → NoneFirst (IsRefusedOr (IsFinding scope)) before
finding_needs_few scope count seen before middle there tells is small many =
    unrefused_or (no_refusal there tells) (λ lines later k e.
    let t = finding_told scope count seen before middle later lines there is small k e in
    let same = t.0 in
    let few = k.shown.counted in
    omega (arith, same, few, many))

pub finding_needs_parts : (scope : Scope) (count : ℕ) (seen : List ℕ) (before middle : Option (List Item)) → ComeFirst before (seen ∷ []) middle → is_refusal seen ≡ false → seen ≡ counted_line count → count < 2 ^ 64 → NoneFirst (ArePartLines count) middle
    → NoneFirst (IsRefusedOr (IsFinding scope)) before
finding_needs_parts scope count seen before middle there tells is small none =
    unrefused_or (no_refusal there tells) (λ lines later k e.
    let t = finding_told scope count seen before middle later lines there is small k e in
    none (parts_lines k.found) later (record { found = k.found; shown = k.shown.each; many = t.0; all = refl }) t.1)

pub finding_needs_scope : (scope : Scope) (count : ℕ) (seen : List ℕ) (parts : List MirrorView) (before middle after : Option (List Item)) → ComeFirst before (seen ∷ []) middle → is_refusal seen ≡ false → seen ≡ counted_line count → count < 2 ^ 64
    → ComeFirst middle (parts_lines parts) after → length (parts_lines parts) ≡ count → AllByRecursion IsShown parts → (AreOf scope parts → ⊥) → NoneFirst (IsRefusedOr (IsFinding scope)) before
finding_needs_scope scope count seen parts before middle after there tells is small came many shown other =
    unrefused_or (no_refusal there tells) (λ lines later k e.
    let t = finding_told scope count seen before middle later lines there is small k e in
    let same = items_alike part_items parts k.found later shown k.shown.each (many ∙ sym t.0) came t.1 in
    other (subst (AreOf scope) (sym same.0) k.shown.of))

-- the namespaces of an opening that comes first are those that were found, and end in one place
pub found_alike : (scope : Scope) (before middle : Option (List Item)) (later : List Item) (parts news : List MirrorView) → HasFound scope before middle parts → AreShown scope news → before ≡ Some (texts (found_lines news) ++ later) → (parts ≡ news) × (middle ≡ Some later)
found_alike scope before middle later parts news f s e =
    let r = f.read.known _ e in
    let t = first_alike (sym r.2) in
    let n = counted_tells (length (parts_lines parts)) (length (parts_lines news)) (few_lines (length (parts_lines parts)) f.shown.counted) (few_lines (length (parts_lines news)) s.counted) t.0 in
    let a = items_alike part_items parts news later f.shown.each s.each n (come_prepended (parts_lines parts) (Some r.0)) (prepended (parts_lines parts) r.0 ∙ ap Some t.1) in
    (a.0, r.1 ∙ a.1)

-- the text of an opening
parts_text : (parts : List MirrorView) → printed (parts_lines parts) ≡ flat_map part_text (map part_found parts)
parts_text [] = refl
parts_text (m ∷ parts) = printed-append (part_lines m) (parts_lines parts) ∙ (λ i. part_is m i ++ parts_text parts i)

lines_from : (n : ℕ) (parts : List MirrorView) → fold (λ n (p : Part). n + (1 + length p.table)) n (map part_found parts) ≡ n + length (parts_lines parts)
lines_from n [] = omega arith
lines_from n (m ∷ parts) =
    let ih = lines_from (n + (1 + length m.rows)) parts in
    let c = part_count m parts in
    omega (arith, ih, c)

pub found_is : (scope : Scope) (parts : List MirrorView) → printed (found_lines parts) ≡ opening_text (opening_found scope parts)
found_is scope parts =
    let l = lines_from 0 parts in
    let many : length (parts_lines parts) ≡ lines_of_parts (map part_found parts) = omega (arith, l) in
    (λ i. ended (counted_line (length (parts_lines parts))) ++ parts_text parts i) ∙ ap (λ n. count_text n ++ flat_map part_text (map part_found parts)) many

-- the lines of what a watcher finds are the text of its opening
pub watched_whole : (scope : Scope) (parts : List MirrorView) (before after : Option (List Item)) → HasFound scope before after parts → HasWatched scope before after parts
watched_whole scope parts before after f = record { lines = found_lines parts; shown = f.shown; read = f.read; text = found_is scope parts }

-- numbers that rise, one namespace after another
pub rising_kept : (o : Option ℕ) (i : ℕ) (x d : MirrorView) (space : ℕ) (all : List MirrorView) → x ≡ get_or all i d → i < length all → rises_after mirror_space o (drop i all) ≡ rises mirror_space all → space ≡ x.space → true ≡ is_above o space
    → rises_after mirror_space (Some space) (drop (i + 1) all) ≡ rises mirror_space all
rising_kept o i x d space all at lt e same above =
    ap (λ k. rises_after mirror_space (Some k) (drop (i + 1) all)) same ∙ after_kept mirror_space o i x d all at lt e (above ∙ ap (is_above o) same)

-- the opening of a watcher of one namespace
one_opening : (m : MirrorView) → found_lines (m ∷ []) ≡ opening_lines m
one_opening m =
    let c = part_count m [] in
    let many : length (parts_lines (m ∷ [])) ≡ 1 + length m.rows = omega (arith, c) in
    λ i. counted_line (many i) ∷ append-nil (part_lines m) i

pub opening_needs_finding : (space : ℕ) (before : Option (List Item)) → NoneFirst (IsRefusedOr (IsFinding (One space))) before → NoneFirst (IsRefusedOr (IsOpening space)) before
opening_needs_finding space before none lines later (inl r) e = none lines later (inl r) e
opening_needs_finding space before none lines later (inr k) e =
    none lines later
    (inr (record {
      found = k.found ∷ [];
      shown = record { each = (k.shown, tt); counted = let c = part_count k.found [] in let small = k.shown.counted in omega (arith, c, small); of = ap (λ n. n ∷ []) k.of };
      all = k.all ∙ sym (one_opening k.found);
    })) e

-- the namespaces of a scope rise
pub rises_of : (scope : Scope) (parts : List MirrorView) → AreOf scope parts → IsTrue (rises mirror_space parts)
rises_of All parts of = of.0
rises_of (One space) [] of = let no : [] ≡ space ∷ [] = of in cc
rises_of (One space) (m ∷ []) of = refl
rises_of (One space) (m ∷ n ∷ parts) of = let no : m.space ∷ (n.space ∷ map mirror_space parts) ≡ space ∷ [] = of in cc
