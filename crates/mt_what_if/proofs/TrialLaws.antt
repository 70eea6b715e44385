-- The world after one more command.
use Rattle.std.proofs.Common.{◌≡◌, ℕ, Bool, true, false, if◌then◌else◌, List, [], ◌∷◌, ◌++◌, Result, Ok, Err, refl, ap, sym, subst, ◌∙◌}
use Rattle.mt_skel.specs.declared.fault.Fault.{Fault}
use Rattle.mt_skel.specs.declared.fault.Fault.TheVariants.{TooMany}
use Rattle.mt_propagate.specs.World.{WorldView}
use Rattle.mt_propagate.specs.WellFormed.{IsWellFormed}
use Rattle.mt_book.specs.Step.{step, next_world, world_or, after_from}
use Rattle.mt_book.specs.declared.command.Command.{Command}
use Rattle.mt_book.specs.declared.command.Reply.{Reply}
use Rattle.mt_book.specs.Attempts.{has_numbers, tried}
use Rattle.mt_what_if.specs.Trials.{TrialView, Ended, IsTrial, world_after, names_made, attempt, attempt_as, all_done, stopped, then_tried}

pub after_one_more : (w : WorldView) (cs : List Command) (c : Command) → after_from w (cs ++ c ∷ []) ≡ next_world (after_from w cs) c
after_one_more w [] c = refl
after_one_more w (d ∷ cs) c = after_one_more (next_world w d) cs c

-- a command that is done leads to the next world
by_numbers : (b : Bool) (x : Result (WorldView × Reply) Fault) (w v : WorldView) (r : Reply) → (if b then x else Err TooMany) ≡ Ok (v, r) → world_or w x ≡ v
by_numbers true x w v r e = ap (world_or w) e
by_numbers false x w v r e = cc

pub next_done : (w v : WorldView) (c : Command) (r : Reply) → tried w c ≡ Ok (v, r) → next_world w c ≡ v
next_done w v c r e = by_numbers (has_numbers w) (step w c) w v r e

-- the commands with one more lead there
pub leads_on : (w v u : WorldView) (cs : List Command) (c : Command) (r : Reply) → v ≡ after_from w cs → tried v c ≡ Ok (u, r) → u ≡ after_from w (cs ++ c ∷ [])
leads_on w v u cs c r e t = sym (next_done v u c r t) ∙ ap (λ (x : WorldView). next_world x c) e ∙ sym (after_one_more w cs c)

-- no command was tried yet on two equal worlds
pub begun : (w u v : WorldView) (cs : List Command) → IsWellFormed w → u ≡ w → v ≡ w → cs ≡ [] → IsTrial u v cs
begun w u v cs h start now none =
    record { start = subst IsWellFormed (sym start) h; now = subst IsWellFormed (sym now) h; leads = now ∙ sym start ∙ sym (ap (after_from u) none) }

-- one more command leads on
pub tried_on :
    (w v u : WorldView) (cs ds : List Command) (c d : Command) (r : Reply) → IsTrial w v cs → tried v c ≡ Ok (u, r) → IsWellFormed u → d ≡ c → ds ≡ cs ++ d ∷ [] → IsTrial w u ds
tried_on w v u cs ds c d r t e h same more = record {
  start = t.start;
  now = h;
  leads = leads_on w v u cs c r t.leads e ∙ sym (ap (after_from w) (more ∙ ap (λ (x : Command). cs ++ x ∷ []) same));
}

-- a command that is done is accepted
pub attempt_done :
    (t s : TrialView) (w v : WorldView) (cs : List Command) (ns : List (List ℕ)) (c d : Command) (r : Reply)
    → s ≡ t → w ≡ world_after s → tried w c ≡ Ok (v, r) → d ≡ c → cs ≡ s.commands ++ d ∷ [] → ns ≡ s.names ++ names_made c
    → attempt t c ≡ all_done (record s { commands = cs; names = ns })
unfolding attempt
attempt_done t s w v cs ns c d r same e h copy more named =
    ap (λ (x : TrialView). attempt_as x c (tried (world_after x) c)) (sym same)
    ∙ ap (λ (x : WorldView). attempt_as s c (tried x c)) (sym e) ∙ ap (attempt_as s c) h
    ∙ ap (λ (xs : List Command). all_done (record s { commands = xs; names = s.names ++ names_made c })) (sym (more ∙ ap (λ (x : Command). s.commands ++ x ∷ []) copy))
    ∙ ap (λ (xs : List (List ℕ)). all_done (record s { commands = cs; names = xs })) (sym named)

-- one that is refused is the one that is refused
pub attempt_refused :
    (t s : TrialView) (w : WorldView) (cs rs : List Command) (c d : Command) (f : Fault)
    → s ≡ t → w ≡ world_after s → tried w c ≡ Err f → cs ≡ s.commands → d ≡ c → rs ≡ s.refused ++ d ∷ []
    → attempt t c ≡ stopped (record s { commands = cs; refused = rs }) f
unfolding attempt
attempt_refused t s w cs rs c d f same e h back copy more =
    ap (λ (x : TrialView). attempt_as x c (tried (world_after x) c)) (sym same)
    ∙ ap (λ (x : WorldView). attempt_as s c (tried x c)) (sym e) ∙ ap (attempt_as s c) h
    ∙ ap (λ (xs : List Command). stopped (record s { refused = xs }) f) (sym (more ∙ ap (λ (x : Command). s.refused ++ x ∷ []) copy))
    ∙ ap (λ (xs : List Command). stopped (record s { commands = xs; refused = rs }) f) (sym back)

-- behind what is done more is tried
pub then_more : (e : Ended) (more : TrialView → Ended) (u : TrialView) → e ≡ all_done u → then_tried e more ≡ more u
unfolding then_tried
then_more e more u h = ap (λ (x : Ended). then_tried x more) h

-- and behind what is refused it is not
pub then_stopped : (e : Ended) (more : TrialView → Ended) (u : TrialView) (f : Fault) → e ≡ stopped u f → then_tried e more ≡ stopped u f
unfolding then_tried
then_stopped e more u f h = ap (λ (x : Ended). then_tried x more) h
