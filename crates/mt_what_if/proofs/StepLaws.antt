-- Lines that are tried in turn, and their steps.
use Rattle.std.proofs.Common.{◌≡◌, ◌⊎◌, ℕ, ◌+◌, ◌<◌, ◌≤◌, List, [], ◌∷◌, ◌++◌, length, drop, get_or, refl, ap, sym, subst, ◌∙◌, append_assoc, append-nil, inl, inr}
use Rattle.std.proofs.lemmas.List.{drop_all}
use Rattle.mt_skel.specs.declared.fault.Fault.{Fault}
use Rattle.mt_propagate.specs.World.{WorldView}
use Rattle.mt_book.specs.declared.command.Command.{Command}
use Rattle.mt_render.specs.PageData.{StepTexts}
use Rattle.mt_what_if.specs.Steps.{step_told, IsPageStep, AreSteps}
use Rattle.mt_what_if.specs.Trials.{TrialView, world_after, for_next}
use Rattle.mt_what_if.specs.Tried.{IsLineTried}
use Rattle.mt_what_if.specs.declared.foretelling.Question.{Question}
use Rattle.mt_what_if.specs.declared.asked.AskedLine.{AskedLine}
use Rattle.mt_what_if.specs.declared.trying.Outcome.{Outcome}
use Rattle.mt_what_if.specs.declared.trying.Outcome.TheVariants.{Done, Refused}
use Rattle.mt_what_if.proofs.ForetellLaws.{lines_left}

-- a line that was tried, where these are the worlds and what was given
pub line_step :
    (q : Question) (line : AskedLine) (t mid u : TrialView) (outcome : Outcome) (w : WorldView) (step : StepTexts)
    → mid ≡ for_next t → IsLineTried q.tables.now line mid (record { trial = u; outcome = outcome }) → u.start ≡ mid.start → w ≡ world_after t
    → step ≡ step_told q line.words.now outcome u.given u.start w (world_after u) → IsPageStep q line t u outcome step
line_step q line t mid u outcome w step begun tried start before told = record {
  tried = subst (λ (x : TrialView). IsLineTried q.tables.now line x (record { trial = u; outcome = outcome })) begun tried;
  told = told ∙ ap (λ (x : WorldView). step_told q line.words.now outcome u.given x w (world_after u)) (start ∙ ap (λ (x : TrialView). x.start) begun)
      ∙ ap (λ (x : WorldView). step_told q line.words.now outcome u.given t.start x (world_after u)) before;
}

-- the steps so far stand in front of all that may come of these lines
abbrev pub Precedes : Question → List AskedLine → TrialView → TrialView → List StepTexts → Type 0
Precedes q lines t mid steps =
    (u : TrialView) (outcome : Outcome) (rest : List StepTexts) → AreSteps q lines mid u outcome rest → AreSteps q q.lines.now t u outcome (steps ++ rest)

-- a step is added behind them
abbrev pub IsAdded : Question → AskedLine → TrialView → TrialView → Outcome → List StepTexts → List StepTexts → Type 0
IsAdded q line mid u outcome steps more = (step : StepTexts) × (more ≡ steps ++ step ∷ []) × IsPageStep q line mid u outcome step

-- with what came of it
pub step_with :
    (q : Question) (line : AskedLine) (mid u : TrialView) (outcome came : Outcome) (step : StepTexts)
    → outcome ≡ came → IsPageStep q line mid u outcome step → IsPageStep q line mid u came step
step_with q line mid u outcome came step is s = subst (λ (x : Outcome). IsPageStep q line mid u x step) is s

-- a refused line has the last step
pub refused_step :
    (q : Question) (i : ℕ) (line : AskedLine) (t mid u : TrialView) (outcome : Outcome) (fault : Fault) (steps more : List StepTexts)
    → i < length q.lines.now → line ≡ get_or q.lines.now i line → Precedes q (drop i q.lines.now) t mid steps
    → IsAdded q line mid u outcome steps more → outcome ≡ Refused fault → AreSteps q q.lines.now t u (Refused fault) more
refused_step q i line t mid u outcome fault steps more inside at p a is =
    subst (λ (x : List StepTexts). AreSteps q q.lines.now t u (Refused fault) x) (sym a.1)
    (p u (Refused fault) (a.0 ∷ [])
    (subst (λ (x : List AskedLine). AreSteps q x mid u (Refused fault) (a.0 ∷ [])) (sym (lines_left q.lines.now i line inside at))
    (inl (fault, a.0, refl, refl, step_with q line mid u outcome (Refused fault) a.0 is a.2))))

-- a line that is done has its step in front of those behind it
pub done_step :
    (q : Question) (i : ℕ) (line : AskedLine) (t mid u : TrialView) (outcome : Outcome) (steps more : List StepTexts)
    → i < length q.lines.now → line ≡ get_or q.lines.now i line → Precedes q (drop i q.lines.now) t mid steps
    → IsAdded q line mid u outcome steps more → outcome ≡ Done → Precedes q (drop (i + 1) q.lines.now) t u more
done_step q i line t mid u outcome steps more inside at p a is = λ (v : TrialView) (last : Outcome) (rest : List StepTexts) (r : AreSteps q (drop (i + 1) q.lines.now) u v last rest).
    subst (λ (x : List StepTexts). AreSteps q q.lines.now t v last (x ++ rest)) (sym a.1)
    (subst (λ (x : List StepTexts). AreSteps q q.lines.now t v last x) (sym (append_assoc steps (a.0 ∷ []) rest))
    (p v last (a.0 ∷ rest)
    (subst (λ (x : List AskedLine). AreSteps q x mid v last (a.0 ∷ rest)) (sym (lines_left q.lines.now i line inside at))
    (inr (u, a.0, rest, refl, step_with q line mid u outcome Done a.0 is a.2, r)))))

-- there is no further line
pub all_steps :
    (q : Question) (i : ℕ) (t mid : TrialView) (steps : List StepTexts) → length q.lines.now ≤ i → Precedes q (drop i q.lines.now) t mid steps
    → AreSteps q q.lines.now t mid Done steps
all_steps q i t mid steps outside p =
    subst (λ (x : List StepTexts). AreSteps q q.lines.now t mid Done x) (append-nil steps)
    (p mid Done [] (subst (λ (x : List AskedLine). AreSteps q x mid mid Done []) (sym (drop_all i q.lines.now outside)) (refl, refl, refl)))
