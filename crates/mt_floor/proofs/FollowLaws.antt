-- The headline of the events that a call does, and of the posts that a watcher was told.
use Rattle.std.proofs.Common.{◌≡◌, ℕ, List, ◌++◌, Some, slice_get, Ok, sym, ap, ◌∙◌, append_assoc}
use Rattle.std.specs.Prelude.{Result}
use Rattle.mt_skel.specs.declared.fault.Fault.{Fault}
use Rattle.mt_events.specs.Posts.{PostView}
use Rattle.mt_events.specs.declared.opening.Opening.{Opening}
use Rattle.mt_events.specs.Following.{IsRun}
use Rattle.mt_floor.specs.declared.event.Event.{Event}
use Rattle.mt_floor.specs.declared.event.Answer.{Answer}
use Rattle.mt_floor.specs.declared.event.Answer.TheVariants.{Opened}
use Rattle.mt_floor.specs.Schedule.{FloorView, empty_floor, run}
use Rattle.mt_floor.specs.Headline.{answers, posted_since, followed_since, WatchersFollow, HeadlineHolds, TellTables}
use Rattle.mt_floor.proofs.RunLaws.{run_state, run_told}
use Rattle.mt_floor.proofs.HeadLaws.{held_at, run_from_opening, in_order}
use Rattle.mt_floor.proofs.TableLaws.{rebuild, posts_tell}

-- the headline holds of every list of events
pub all_follow : (capacity : ℕ) (es : List Event) → WatchersFollow capacity es
all_follow capacity es at key o is = (in_order capacity es at key o is, rebuild capacity es at key o is)

-- events that were done after others
pub headline_holds : (old now : FloorView) (es : List Event) (told : List (Result Answer Fault)) → run old es ≡ (now, told) → HeadlineHolds old es told now
headline_holds old now es told is capacity before from = record {
  floor = sym (ap (λ (q : FloorView × List (Result Answer Fault)). q.0) is) ∙ ap (λ (f : FloorView). (run f es).0) from ∙ sym (run_state (empty_floor capacity) before es);
  answered = run_told (empty_floor capacity) before es ∙ ap (λ l. answers capacity before ++ l) (ap (λ (f : FloorView). (run f es).1) (sym from) ∙ ap (λ (q : FloorView × List (Result Answer Fault)). q.1) is);
  watchers = all_follow capacity (before ++ es);
}

-- the first of the posts that were posted to a watcher are in order, and tell its tables
module _ (capacity : ℕ) (es : List Event) (at key : ℕ) (o : Opening) (is : slice_get (answers capacity es) at ≡ Some (Ok (Opened key o))) (ps rest : List PostView) (first : posted_since capacity es at key ≡ ps ++ rest) where
  followed : followed_since capacity es at o.scope ≡ ps ++ (rest ++ (held_at capacity es at key o is).first.not_posted)
  followed = let h = held_at capacity es at key o is in h.first.posted_is ∙ ap (λ l. l ++ h.first.not_posted) first ∙ append_assoc ps rest h.first.not_posted

  pub told_in_order : IsRun o ps
  told_in_order = run_from_opening capacity es at key o is ps _ followed

  pub told_tables : TellTables capacity es o ps
  told_tables = posts_tell capacity es at key o is ps _ followed
