-- The lines of bytes of which the front is known.
use Rattle.std.specs.Io.KnownBytes.{Consumes, IsAtEnd, prepend_known}
use Rattle.std.proofs.KnownBytes.{Consumes-trans}
use Rattle.memchr.specs.Find.{IsFirstByte, is_byte}
use Rattle.std.proofs.Math.Seq.{take-length}
use Rattle.std.proofs.Math.Dec.{eqb-suc-zero}
use Rattle.std.proofs.lemmas.Bool.{cases_lt}
use Rattle.std.proofs.lemmas.List.{take_all, append-nil, take-append-drop}
use Rattle.mt_lines.specs.declared.line.Line.{Line}
use Rattle.mt_lines.specs.declared.line.Line.TheVariants as line
use Rattle.mt_lines.specs.declared.line.ReadFault.{ReadFault}
use Rattle.mt_lines.specs.declared.line.ReadFault.TheVariants as fault
use Rattle.mt_lines.specs.Reading.{IsNext, IsNextKnown}
use Rattle.std.proofs.Common.{Result, Ok, Err, inl, inr, Option, Some, None, MatchOption, MatchBool, add-one, append_assoc, zero, slice_index, eq-eqb, length-append, ◌≡◌, ℕ, suc, ◌+◌, ◌<◌, ◌≤◌, ◌==◌, if◌then◌else◌, List, [], ◌∷◌, ◌++◌, length, take, drop, refl, ap, sym, ◌∙◌, arith, Bool, true, false, eqb}
use Rattle.std.proofs.lemmas.Bool.{ne_eqb, eqb-true}
use Rattle.std.proofs.lemmas.Bool.Decides.{nat_tests}
use Rattle.mt_lines.specs.Lines.{Item, lines_of, Unbroken, slack, Text, TooLong, Unended, Endless, between_line_ends, items, cons_first, by_length, last_items}

-- a line of which this many bytes were seen, and as many kept as the limit allows
pub record Consumed (limit seen : ℕ) (kept : List ℕ) (from to : Option (List ℕ)) : Type 0 where
  pub text : List ℕ
  pub count : seen ≡ length text
  pub unbroken : Unbroken text
  pub front : kept ≡ take limit text
  pub known : Consumes from to text

-- a first line that is whole is the first piece
pub pieces-line : (text rest : List ℕ) → Unbroken text → between_line_ends (text ++ 10 ∷ rest) ≡ text ∷ between_line_ends rest
pieces-line [] rest h = refl
pieces-line (b ∷ text) rest h = rw (ne_eqb b 10 h.0, pieces-line text rest h.1) refl

-- bytes with no line end are one piece
pub pieces-unbroken : (text : List ℕ) → Unbroken text → between_line_ends text ≡ text ∷ []
pieces-unbroken [] h = refl
pieces-unbroken (b ∷ text) h = rw (ne_eqb b 10 h.0, pieces-unbroken text h.1) refl

-- there is a first piece
pub pieces-cons : (bytes : List ℕ) → (p : List ℕ) × (ps : List (List ℕ)) × (between_line_ends bytes ≡ p ∷ ps)
pieces-cons [] = ([], [], refl)
pieces-cons (b ∷ bs) =
    let r = pieces-cons bs in
    elim (eqb b 10) as (λ t. (p : List ℕ) × (ps : List (List ℕ)) × ((if t then [] ∷ between_line_ends bs else cons_first b (between_line_ends bs)) ≡ p ∷ ps)) [
      | true ↦ ([], between_line_ends bs, refl)
      | false ↦ (b ∷ r.0, r.1, rw r.2 refl)
    ]

-- the first piece begins with an unbroken front
pub pieces-front : (text rest : List ℕ) → Unbroken text → (p : List ℕ) × (ps : List (List ℕ)) × (between_line_ends (text ++ rest) ≡ (text ++ p) ∷ ps)
pieces-front [] rest h = pieces-cons rest
pieces-front (b ∷ text) rest h =
    let r = pieces-front text rest h.1 in (r.0, r.1, rw (ne_eqb b 10 h.0, r.2) refl)

-- what a line is by its length, in each of the three cases
pub by_length-short : (limit n : ℕ) (short : Item) → n ≤ limit → by_length limit n short ≡ short
by_length-short limit n short h = grind (arith, nat_tests)

pub by_length-long : (limit n : ℕ) (short : Item) → limit < n → n ≤ limit + slack → by_length limit n short ≡ TooLong
by_length-long limit n short h k = grind (arith, nat_tests)

pub by_length-endless : (limit n : ℕ) (short : Item) → limit + slack < n → by_length limit n short ≡ Endless
by_length-endless limit n short h = grind (arith, nat_tests)

-- a whole line, and then the rest
pub lines_of-line : (limit : ℕ) (text rest : List ℕ) → Unbroken text → lines_of limit (text ++ 10 ∷ rest) ≡ by_length limit (length text) (Text text) ∷ lines_of limit rest
unfolding lines_of
lines_of-line limit text rest h =
    let r = pieces-cons rest in rw (pieces-line text rest h, r.2) refl

-- the last bytes, with no line end
pub lines_of-last : (limit : ℕ) (text : List ℕ) → Unbroken text → lines_of limit text ≡ last_items limit text
unfolding lines_of
lines_of-last limit text h = rw (pieces-unbroken text h) refl

-- a first piece that is too long to be looked through, whatever follows it
items-endless : (limit b : ℕ) (p : List ℕ) (ps : List (List ℕ)) → limit + slack < length (b ∷ p) → (more : List Item) × (items limit ((b ∷ p) ∷ ps) ≡ Endless ∷ more)
items-endless limit b p [] h = ([], rw (by_length-endless limit (length (b ∷ p)) Unended h) refl)
items-endless limit b p (q ∷ ps) h = (items limit (q ∷ ps), rw (by_length-endless limit (length (b ∷ p)) (Text (b ∷ p)) h) refl)

-- an unbroken front that is too long to be looked through, whatever follows it
pub lines_of-endless : (limit : ℕ) (text rest : List ℕ) → Unbroken text → limit + slack < length text → (more : List Item) × (lines_of limit (text ++ rest) ≡ Endless ∷ more)
unfolding lines_of
lines_of-endless limit [] rest h n = absurd (omega arith)
lines_of-endless limit (b ∷ text) rest h n =
    let r = pieces-front (b ∷ text) rest h in
    let long : limit + slack < length (b ∷ (text ++ r.0)) = simp length-append (omega arith) in
    let e = items-endless limit b (text ++ r.0) r.1 long in
    (e.0, rw r.2 e.1)

-- two unbroken lists in a row
pub Unbroken-append : (xs ys : List ℕ) → Unbroken xs → Unbroken ys → Unbroken (xs ++ ys)
Unbroken-append [] ys h k = k
Unbroken-append (x ∷ xs) ys h k = (h.0, Unbroken-append xs ys h.1 k)

-- a front in which no byte is a line end
pub Unbroken-below : (hay : List ℕ) (k : ℕ) → ((j : ℕ) → j < k → (slice_index hay j == 10) ≡ true → ⊥) → k ≤ length hay → Unbroken (take k hay)
Unbroken-below hay zero h n = tt
Unbroken-below [] (suc k) h n = absurd (omega arith)
Unbroken-below (b ∷ hay) (suc k) h n =
    (λ e. h 0 (omega arith) (eq-eqb b 10 e), Unbroken-below hay k (λ j lt. h (suc j) (omega arith)) (omega arith))

-- what begins at a line end
pub drop-at_ten : (hay : List ℕ) (k : ℕ) → k < length hay → (slice_index hay k == 10) ≡ true → drop k hay ≡ 10 ∷ drop (suc k) hay
drop-at_ten [] k n e = absurd (omega arith)
drop-at_ten (b ∷ hay) zero n e = let is : b ≡ 10 = eqb-true b 10 e in ap (λ x. x ∷ hay) is
drop-at_ten (b ∷ hay) (suc k) n e = drop-at_ten hay k (omega arith) e

-- the record of a line's front, after one more piece
pub Consumed-more : (limit seen : ℕ) (kept piece new_kept : List ℕ) (from mid to : Option (List ℕ)) (c : Consumed limit seen kept from mid) → Consumes mid to piece → Unbroken piece → new_kept ≡ take limit (c.text ++ piece) → Consumed limit (seen + length piece) new_kept from to
Consumed-more limit seen kept piece new_kept from mid to c more unbroken front = record {
  text = c.text ++ piece;
  count = simp length-append (omega (arith, c.count));
  unbroken = Unbroken-append c.text piece c.unbroken unbroken;
  front = front;
  known = Consumes-trans from mid to c.text piece c.known more;
}

-- a test of the length for 0
pub empty_cases : (xs : List ℕ) (b : Bool) → b ≡ (length xs == 0) → MatchBool b (xs ≡ []) (0 < length xs)
empty_cases [] b e = rw e refl
empty_cases (x ∷ xs) b e = rw (e, eqb-suc-zero (length xs)) (omega arith)

-- what a search for the first line end found
pub line_end_cases : (hay : List ℕ) (r : Option ℕ) → IsFirstByte (is_byte 10) hay r → MatchOption r (Unbroken hay) (λ k. Unbroken (take k hay) × (k < length hay) × (drop k hay ≡ 10 ∷ drop (k + 1) hay))
line_end_cases hay None h =
    let u = Unbroken-below hay (length hay) (λ j lt. h j (omega arith) lt) (omega arith) in rw (take-length hay) at u
line_end_cases hay (Some k) h =
    let before = h.0 in
    (Unbroken-below hay k (λ j lt. before.before j (omega arith) lt) (omega (arith, before.high)), before.high, rw add-one (drop-at_ten hay k before.high h.1))

-- a whole line is judged by its length
pub judge_next : (limit : ℕ) (text before after kept new_kept : List ℕ) (r : Result Line ReadFault) → Unbroken text → before ≡ text ++ 10 ∷ after → kept ≡ take limit text → (length text ≤ limit → (r ≡ Ok line.Text) × (new_kept ≡ kept)) → (limit < length text → length text ≤ limit + slack → r ≡ Ok line.TooLong) → (limit + slack < length text → r ≡ Err fault.Endless) → IsNext limit before r new_kept after
judge_next limit text before after kept new_kept r u split front short long endless =
    let line = lines_of-line limit text after u in
    elim (cases_lt limit (length text)) [
      | inr fits ↦
          let all : take limit text ≡ text = take_all limit text fits in
          let e : new_kept ≡ text = (short fits).1 ∙ front ∙ all in
          rw ((short fits).0, split, e) (line ∙ ap (λ x. x ∷ lines_of limit after) (by_length-short limit (length text) (Text text) fits))
      | inl over ↦ elim (cases_lt (limit + slack) (length text)) [
        | inr within ↦
            rw (long over within, split) (line ∙ ap (λ x. x ∷ lines_of limit after) (by_length-long limit (length text) (Text text) over within))
        | inl beyond ↦
            rw (endless beyond, split) (lines_of limit after, line ∙ ap (λ x. x ∷ lines_of limit after) (by_length-endless limit (length text) (Text text) beyond))
      ]
    ]

-- at the end of the input
pub finish_next : (limit : ℕ) (text before after new_kept : List ℕ) (r : Line) → Unbroken text → before ≡ text ++ after → after ≡ [] → length text ≤ limit + slack → (length text ≡ 0 → r ≡ line.End) → (0 < length text → length text ≤ limit → r ≡ line.Unended) → (limit < length text → r ≡ line.TooLong) → IsNext limit before (Ok r) new_kept after
finish_next limit [] before after new_kept r u split end within none short long =
    let e : r ≡ line.End = none refl in rw e (rw (split, end, lines_of-last limit [] tt) (refl, refl))
finish_next limit (b ∷ text) before after new_kept r u split end within none short long =
    let last = lines_of-last limit (b ∷ text) u in
    let whole : before ≡ b ∷ text = split ∙ rw end (append-nil (b ∷ text)) in
    elim (cases_lt limit (length (b ∷ text))) [
      | inr fits ↦ rw (short (omega arith) fits, whole) (last ∙ ap (λ x. x ∷ []) (by_length-short limit (length (b ∷ text)) Unended fits), end)
      | inl over ↦ rw (long over, whole, end, lines_of-last limit [] tt) (last ∙ ap (λ x. x ∷ []) (by_length-long limit (length (b ∷ text)) Unended over within))
    ]

-- the whole of an unbroken list, as a front
pub Unbroken-all : (chunk : List ℕ) (k : ℕ) → k ≡ length chunk → Unbroken chunk → Unbroken (take k chunk)
Unbroken-all chunk k e u = rw (e, take-length chunk) u

-- a piece of what was read ahead is the front of what is known to be left
pub ahead_consumed : (piece rest ahead : List ℕ) (later : Option (List ℕ)) → ahead ≡ piece ++ rest → Consumes (prepend_known ahead later) (prepend_known rest later) piece
ahead_consumed piece rest ahead None e = tt
ahead_consumed piece rest ahead (Some xs) e = ap (λ (x : List ℕ). x ++ xs) e ∙ append_assoc piece rest xs

-- `judge_next`, `finish_next` and `lines_of-endless` of bytes that may be known
pub judge_known : (limit : ℕ) (text : List ℕ) (before after : Option (List ℕ)) (kept new_kept : List ℕ) (r : Result Line ReadFault) → Unbroken text → Consumes before after (text ++ 10 ∷ []) → kept ≡ take limit text → (length text ≤ limit → (r ≡ Ok line.Text) × (new_kept ≡ kept)) → (limit < length text → length text ≤ limit + slack → r ≡ Ok line.TooLong) → (limit + slack < length text → r ≡ Err fault.Endless) → IsNextKnown limit before r new_kept after
judge_known limit text None after kept new_kept r u split front short long endless = tt
judge_known limit text (Some xs) None kept new_kept r u split front short long endless = absurd split
judge_known limit text (Some xs) (Some ys) kept new_kept r u split front short long endless =
    judge_next limit text xs ys kept new_kept r u (split ∙ append_assoc text (10 ∷ []) ys) front short long endless

pub finish_known : (limit : ℕ) (text : List ℕ) (before after : Option (List ℕ)) (new_kept : List ℕ) (r : Line) → Unbroken text → Consumes before after text → IsAtEnd after → length text ≤ limit + slack → (length text ≡ 0 → r ≡ line.End) → (0 < length text → length text ≤ limit → r ≡ line.Unended) → (limit < length text → r ≡ line.TooLong) → IsNextKnown limit before (Ok r) new_kept after
finish_known limit text None after new_kept r u split end within none short long = tt
finish_known limit text (Some xs) None new_kept r u split end within none short long = absurd split
finish_known limit text (Some xs) (Some ys) new_kept r u split end within none short long = finish_next limit text xs ys new_kept r u split end within none short long

pub endless_known : (limit : ℕ) (text : List ℕ) (before after : Option (List ℕ)) (kept : List ℕ) → Unbroken text → limit + slack < length text → Consumes before after text → IsNextKnown limit before (Err fault.Endless) kept after
endless_known limit text None after kept u long split = tt
endless_known limit text (Some xs) None kept u long split = absurd split
endless_known limit text (Some xs) (Some ys) kept u long split = let e = lines_of-endless limit text ys u long in (e.0, rw split e.1)

-- the same of this many bytes, as a call took them of a reader whose input it left alone
pub ahead_taken : (n : ℕ) (ahead rest : List ℕ) (later later' : Option (List ℕ)) → rest ≡ drop n ahead → later' ≡ later → Consumes (prepend_known ahead later) (prepend_known rest later') (take n ahead)
ahead_taken n ahead rest later later' e same = rw (same, e) (ahead_consumed (take n ahead) (drop n ahead) ahead later (sym (take-append-drop n ahead)))

-- and of those up to a line end, with it
pub line_taken : (n : ℕ) (ahead rest : List ℕ) (later later' : Option (List ℕ)) → drop n ahead ≡ 10 ∷ drop (n + 1) ahead → rest ≡ drop 1 (drop n ahead) → later' ≡ later → Consumes (prepend_known ahead later) (prepend_known rest later') (take n ahead ++ 10 ∷ [])
line_taken n ahead rest later later' d e same =
    let is : rest ≡ drop (n + 1) ahead = e ∙ ap (drop 1) d in
    let whole : ahead ≡ (take n ahead ++ 10 ∷ []) ++ rest = sym (take-append-drop n ahead) ∙ ap (λ x. take n ahead ++ x) (d ∙ ap (λ x. 10 ∷ x) (sym is)) ∙ sym (append_assoc (take n ahead) (10 ∷ []) rest) in
    rw same (ahead_consumed (take n ahead ++ 10 ∷ []) rest ahead later whole)

-- what is known to be left, told in another way
pub known-same : {A : Type 0} (known : A → Option (List ℕ)) (ahead ahead' : List ℕ) (input input' : A) → ahead ≡ ahead' → input ≡ input' → prepend_known ahead (known input) ≡ prepend_known ahead' (known input')
known-same known ahead ahead' input input' e f = rw (e, f) refl
