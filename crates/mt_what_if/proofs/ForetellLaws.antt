-- Lines that are tried in turn, and what is told of them.
use Rattle.std.proofs.Common.{◌≡◌, ◌⊎◌, ℕ, ◌+◌, ◌<◌, ◌≤◌, List, [], ◌∷◌, ◌++◌, length, drop, get_or, refl, ap, sym, subst, ◌∙◌, append_assoc, append-nil, inl, inr}
use Rattle.std.proofs.lemmas.List.{drop_more, drop_all}
use Rattle.mt_skel.specs.declared.fault.Fault.{Fault}
use Rattle.mt_propagate.specs.World.{WorldView}
use Rattle.mt_what_if.specs.Foretelling.{changes_if_each, IsForetold, AreForetold}
use Rattle.mt_what_if.specs.LinesTold.{tried_text}
use Rattle.mt_what_if.specs.Reasons.{reason_told}
use Rattle.mt_what_if.specs.Taken.{taken_told}
use Rattle.mt_what_if.specs.Trials.{TrialView, world_after, for_next}
use Rattle.mt_what_if.specs.Tried.{IsLineTried}
use Rattle.mt_what_if.specs.declared.foretelling.Question.{Question}
use Rattle.mt_what_if.specs.declared.asked.AskedLine.{AskedLine}
use Rattle.mt_what_if.specs.declared.trying.Outcome.{Outcome}
use Rattle.mt_what_if.specs.declared.trying.Outcome.TheVariants.{Done, Refused}

-- none is left
pub none_foretold : (q : Question) (n : ℕ) (t : TrialView) → AreForetold q n [] t t Done []
none_foretold q n t = (refl, refl, refl)

-- the first one is refused
pub refused_foretold :
    (q : Question) (n : ℕ) (line : AskedLine) (lines : List AskedLine) (t u : TrialView) (fault : Fault) (told : List ℕ)
    → IsForetold q n line t u (Refused fault) told → AreForetold q n (line ∷ lines) t u (Refused fault) told
refused_foretold q n line lines t u fault told f = inl (fault, refl, f)

-- the first one is done, and the others are answered behind it
pub done_foretold :
    (q : Question) (n : ℕ) (line : AskedLine) (lines : List AskedLine) (t mid u : TrialView) (outcome : Outcome) (first rest : List ℕ)
    → IsForetold q n line t mid Done first → AreForetold q (n + 1) lines mid u outcome rest → AreForetold q n (line ∷ lines) t u outcome (first ++ rest)
done_foretold q n line lines t mid u outcome first rest f r = inr (mid, first, rest, refl, f, r)

-- what changes from one world to another one, where these are the worlds before and after the line
pub changes_by_trials :
    (q : Question) (t u : TrialView) (w0 w v : WorldView) → w0 ≡ t.start → w ≡ world_after t → v ≡ world_after u
    → changes_if_each q w0 w v ≡ changes_if_each q t.start (world_after t) (world_after u)
changes_by_trials q t u w0 w v e f g =
    ap (λ (x : WorldView). changes_if_each q x w v) e ∙ ap (λ (x : WorldView). changes_if_each q t.start x v) f
    ∙ ap (λ (x : WorldView). changes_if_each q t.start (world_after t) x) g

-- what is told of a line with these changes is what is told of it
pub line_foretold :
    (q : Question) (n : ℕ) (line : AskedLine) (t u : TrialView) (w0 w v : WorldView) (outcome : Outcome) (before after taken changes why made none : List ℕ)
    → after ≡ before ++ tried_text q.manner.telling n line.words.now taken outcome changes why → taken ≡ taken_told u.given
    → why ≡ reason_told q.names.now u outcome → changes ≡ made
    → made ≡ none ++ changes_if_each q w0 w v → none ≡ [] → w0 ≡ t.start → w ≡ world_after t → v ≡ world_after u
    → IsLineTried q.tables.now line (for_next t) (record { trial = u; outcome = outcome })
    → (told : List ℕ) × (after ≡ before ++ told) × IsForetold q n line t u outcome told
line_foretold q n line t u w0 w v outcome before after taken changes why made none e given because same more empty f g h tried = (
  tried_text q.manner.telling n line.words.now taken outcome changes why,
  e,
  record {
    tried = tried;
    told = ap (λ (x : List ℕ). tried_text q.manner.telling n line.words.now x outcome changes why) given
        ∙ ap (λ (x : List ℕ). tried_text q.manner.telling n line.words.now (taken_told u.given) outcome changes x) because
        ∙ ap (λ (x : List ℕ). tried_text q.manner.telling n line.words.now (taken_told u.given) outcome x (reason_told q.names.now u outcome))
        (same ∙ more ∙ ap (λ (x : List ℕ). x ++ changes_if_each q w0 w v) empty ∙ changes_by_trials q t u w0 w v f g h);
  },
)

-- what was told stands in front of all that may be told of these lines
abbrev pub Leads : Question → ℕ → List AskedLine → TrialView → TrialView → List ℕ → List ℕ → Type 0
Leads q n lines t mid before now =
    (told : List ℕ) × (now ≡ before ++ told)
    × ((u : TrialView) (outcome : Outcome) (rest : List ℕ) → AreForetold q n lines mid u outcome rest → AreForetold q 1 q.lines.now t u outcome (told ++ rest))

-- a line is told behind that
abbrev pub IsTold : Question → ℕ → AskedLine → TrialView → TrialView → Outcome → List ℕ → List ℕ → Type 0
IsTold q n line mid u outcome now after = (told : List ℕ) × (after ≡ now ++ told) × IsForetold q n line mid u outcome told

-- the line at a place, and those behind it
pub lines_left :
    (lines : List AskedLine) (i : ℕ) (line : AskedLine) → i < length lines → line ≡ get_or lines i line → drop i lines ≡ line ∷ drop (i + 1) lines
lines_left lines i line inside at = drop_more lines i line inside ∙ ap (λ (x : AskedLine). x ∷ drop (i + 1) lines) (sym at)

-- it is told with what came of it
pub told_with :
    (q : Question) (n : ℕ) (line : AskedLine) (mid u : TrialView) (outcome came : Outcome) (told : List ℕ)
    → outcome ≡ came → IsForetold q n line mid u outcome told → IsForetold q n line mid u came told
told_with q n line mid u outcome came told is f = subst (λ (x : Outcome). IsForetold q n line mid u x told) is f

-- a refused line is the last one that is told
pub refused_told :
    (q : Question) (i : ℕ) (line : AskedLine) (t mid u : TrialView) (outcome : Outcome) (fault : Fault) (before now after : List ℕ)
    → i < length q.lines.now → line ≡ get_or q.lines.now i line → Leads q (i + 1) (drop i q.lines.now) t mid before now
    → IsTold q (i + 1) line mid u outcome now after → outcome ≡ Refused fault
    → (told : List ℕ) × (after ≡ before ++ told) × AreForetold q 1 q.lines.now t u (Refused fault) told
refused_told q i line t mid u outcome fault before now after inside at l s is = (
  l.0 ++ s.0,
  s.1 ∙ ap (λ (x : List ℕ). x ++ s.0) l.1 ∙ append_assoc before l.0 s.0,
  l.2 u (Refused fault) s.0
      (subst (λ (x : List AskedLine). AreForetold q (i + 1) x mid u (Refused fault) s.0) (sym (lines_left q.lines.now i line inside at))
      (refused_foretold q (i + 1) line (drop (i + 1) q.lines.now) mid u fault s.0 (told_with q (i + 1) line mid u outcome (Refused fault) s.0 is s.2))),
)

-- a line that is done is told in front of those behind it
pub done_told :
    (q : Question) (i : ℕ) (line : AskedLine) (t mid u : TrialView) (outcome : Outcome) (before now after : List ℕ)
    → i < length q.lines.now → line ≡ get_or q.lines.now i line → Leads q (i + 1) (drop i q.lines.now) t mid before now
    → IsTold q (i + 1) line mid u outcome now after → outcome ≡ Done → Leads q (i + 1 + 1) (drop (i + 1) q.lines.now) t u before after
done_told q i line t mid u outcome before now after inside at l s is = (
  l.0 ++ s.0,
  s.1 ∙ ap (λ (x : List ℕ). x ++ s.0) l.1 ∙ append_assoc before l.0 s.0,
  λ (v : TrialView) (last : Outcome) (rest : List ℕ) (r : AreForetold q (i + 1 + 1) (drop (i + 1) q.lines.now) u v last rest).
      subst (λ (x : List ℕ). AreForetold q 1 q.lines.now t v last x) (sym (append_assoc l.0 s.0 rest))
      (l.2 v last (s.0 ++ rest)
      (subst (λ (x : List AskedLine). AreForetold q (i + 1) x mid v last (s.0 ++ rest)) (sym (lines_left q.lines.now i line inside at))
      (done_foretold q (i + 1) line (drop (i + 1) q.lines.now) mid u v last s.0 rest (told_with q (i + 1) line mid u outcome Done s.0 is s.2) r))),
)

-- all lines are told
pub all_told :
    (q : Question) (i : ℕ) (t mid : TrialView) (before now : List ℕ) → length q.lines.now ≤ i
    → Leads q (i + 1) (drop i q.lines.now) t mid before now → (told : List ℕ) × (now ≡ before ++ told) × AreForetold q 1 q.lines.now t mid Done told
all_told q i t mid before now outside l = (
  l.0,
  l.1,
  subst (λ (x : List ℕ). AreForetold q 1 q.lines.now t mid Done x) (append-nil l.0)
      (l.2 mid Done [] (subst (λ (x : List AskedLine). AreForetold q (i + 1) x mid mid Done []) (sym (drop_all i q.lines.now outside)) (none_foretold q (i + 1) mid))),
)
