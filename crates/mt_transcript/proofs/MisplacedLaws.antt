-- The first of the lines below so many others that does not stand where it may.
use Rattle.std.proofs.Common.{arith, ◌≡◌, ℕ, suc, ◌+◌, ◌-◌, ◌<◌, ◌≤◌, Bool, false, ◌||◌, List, [], ◌∷◌, ◌++◌, length, take, drop, map, get_or, Option, Some, None, option_map, slice_get, slice_range, filter_map, refl, sym, ap, ◌∙◌}
use Rattle.std.specs.List.{list_any, last_or, cons_option, range_with_len, drop-map}
use Rattle.std.specs.Option.{option_map_or}
use Rattle.std.proofs.Math.ListN.{get_or-map}
use Rattle.std.proofs.lemmas.List.{take_more, take_rest, drop_more, length-map}
use Rattle.std.proofs.lemmas.List.Folds.{list_any_more}
use Rattle.mt_transcript.specs.Lines.{ReadLine, line_viewed}
use Rattle.mt_transcript.specs.Misplaced.{takes_answer, is_sent, said_above, why_not, misplaced_at, misplaced_in}
use Rattle.mt_transcript.specs.Sent.{ends_input}
use Rattle.mt_transcript.specs.declared.lines.TranscriptLine.{TranscriptLine}
use Rattle.mt_transcript.specs.declared.misplaced.Above.{Above}
use Rattle.mt_transcript.specs.declared.misplaced.Misplaced.{Misplaced}
use Rattle.mt_transcript.specs.declared.misplaced.Why.{Why}

-- the first one that is misplaced of the lines below n others
abbrev pub first_below : List ReadLine → ℕ → Option Misplaced
first_below lines n = slice_get (filter_map (misplaced_at lines) (range_with_len n (length lines - n))) 0

-- what is found where one comes of the first of more numbers
abbrev first_after : List ReadLine → ℕ → ℕ → Option Misplaced → Option Misplaced
first_after lines n more one = slice_get (cons_option one (filter_map (misplaced_at lines) (range_with_len (n + 1) more))) 0

below_one : (lines : List ReadLine) (n : ℕ) (one : Option Misplaced) → n < length lines → misplaced_at lines n ≡ one → first_below lines n ≡ first_after lines n (length lines - (n + 1)) one
below_one lines n one lt e =
    let more : length lines - n ≡ suc (length lines - (n + 1)) = omega (arith, lt)
    in ap (λ (k : ℕ). slice_get (filter_map (misplaced_at lines) (range_with_len n k)) 0) more ∙ ap (first_after lines n (length lines - (n + 1))) e

none_below : (lines : List ReadLine) (n : ℕ) → length lines ≤ n → first_below lines n ≡ None
none_below lines n le =
    let none : length lines - n ≡ 0 = omega (arith, le)
    in ap (λ (k : ℕ). slice_get (filter_map (misplaced_at lines) (range_with_len n k)) 0) none

-- what lines say of the next, and one more
abbrev with_line : Above → ReadLine → Above
with_line a l = record { takes_answer = takes_answer l.kind; is_sent = a.is_sent || is_sent l.kind; ends = a.ends || ends_input l.text }

abbrev said_by : Option ReadLine → Bool → Bool → Above
said_by last sent ends = record { takes_answer = option_map_or (λ (l : ReadLine). takes_answer l.kind) last false; is_sent = sent; ends = ends }

abbrev sends : ReadLine → Bool
sends l = is_sent l.kind

abbrev ends_by : ReadLine → Bool
ends_by l = ends_input l.text

last_after : (o : Option ReadLine) (lines : List ReadLine) (l : ReadLine) → last_or o (lines ++ l ∷ []) ≡ Some l
last_after o [] l = refl
last_after o (x ∷ xs) l = last_after (Some x) xs l

above_more : (lines : List ReadLine) (n : ℕ) (d : ReadLine) → n < length lines → said_above (take (n + 1) lines) ≡ with_line (said_above (take n lines)) (get_or lines n d)
above_more lines n d lt =
    let last : last_or None (take (n + 1) lines) ≡ Some (get_or lines n d) = ap (last_or None) (take_more lines n d lt) ∙ last_after None (take n lines) (get_or lines n d)
    in ap (λ (o : Option ReadLine). said_by o (list_any sends (take (n + 1) lines)) (list_any ends_by (take (n + 1) lines))) last
    ∙ ap (λ (b : Bool). said_by (Some (get_or lines n d)) b (list_any ends_by (take (n + 1) lines))) (list_any_more sends lines n d lt)
    ∙ ap (said_by (Some (get_or lines n d)) (list_any sends (take n lines) || sends (get_or lines n d))) (list_any_more ends_by lines n d lt)

-- a line of a transcript, below those that say this
module _ (lines : List TranscriptLine) (n : ℕ) (d : TranscriptLine) (a : Above) (inside : n < length lines) (said : a ≡ said_above (take n (map line_viewed lines))) where
  abbrev views : List ReadLine
  views = map line_viewed lines

  abbrev rest : List ReadLine
  rest = line_viewed (get_or lines n d) ∷ map line_viewed (slice_range lines (n + 1) (length lines))

  abbrev one_here : Why → Misplaced
  one_here why = record { number = n + 1; why = why }

  within : n < length views
  within = omega (arith, inside, length-map lines line_viewed)

  here : (why : Option Why) → why ≡ why_not a rest → misplaced_at views n ≡ option_map one_here why
  here why is =
      let left : drop n views ≡ rest =
      drop-map line_viewed n lines
      ∙ ap (map line_viewed) (drop_more lines n d inside ∙ ap (λ (ls : List TranscriptLine). get_or lines n d ∷ ls) (sym (take_rest lines (n + 1))))
      in ap (λ (r : List ReadLine). option_map one_here (why_not (said_above (take n views)) r)) left
      ∙ ap (λ (x : Above). option_map one_here (why_not x rest)) (sym said) ∙ ap (option_map one_here) (sym is)

  pub found : (why : Why) → Some why ≡ why_not a rest → first_below views n ≡ misplaced_in views → Some (record { number = n + 1; why = why }) ≡ misplaced_in views
  found why is first = sym (below_one views n (Some (one_here why)) within (here (Some why) is)) ∙ first

  pub passed : None ≡ why_not a rest → first_below views n ≡ misplaced_in views → first_below views (n + 1) ≡ misplaced_in views
  passed is first = sym (below_one views n None within (here None is)) ∙ first

  pub said_below : (more : Above) → more ≡ with_line a (line_viewed (get_or lines n d)) → more ≡ said_above (take (n + 1) views)
  said_below more is =
      is ∙ ap (λ (x : Above). with_line x (line_viewed (get_or lines n d))) said
      ∙ sym (above_more views n (line_viewed d) within ∙ ap (with_line (said_above (take n views))) (get_or-map line_viewed lines n d))

pub all_passed : (lines : List TranscriptLine) (n : ℕ) → length lines ≤ n → first_below (map line_viewed lines) n ≡ misplaced_in (map line_viewed lines) → None ≡ misplaced_in (map line_viewed lines)
all_passed lines n le first =
    let over : length (map line_viewed lines) ≤ n = omega (arith, le, length-map lines line_viewed)
    in sym (none_below (map line_viewed lines) n over) ∙ first
