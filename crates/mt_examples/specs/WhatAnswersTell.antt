-- What the answers tell of a watcher that lags: it has taken what was posted to it, a prefix of what it follows, and has the table
-- as of that (this project's rule).
use Rattle.std.specs.Prelude.{◌≡◌, refl, ℕ, false, List, [], ◌∷◌, ◌++◌, map}
use Rattle.mt_examples.specs.Prelude.{private_root, computed}
use Rattle.mt_info.specs.Table.{table_of}
use Rattle.mt_events.specs.Posts.{PostView}
use Rattle.mt_events.specs.declared.opening.Scope.TheVariants.{All}
use Rattle.mt_events.specs.Following.{table_made}
use Rattle.mt_book.specs.Step.{after}
use Rattle.mt_floor.specs.declared.event.Event.{Event}
use Rattle.mt_floor.specs.declared.event.Event.TheVariants.{Apply, PostNext, Open, Take, Close}
use Rattle.mt_floor.specs.Watcher.{opening_of}
use Rattle.mt_floor.specs.Schedule.{has_open}
use Rattle.mt_floor.specs.Headline.{floor_after, accepted_before, taken_since, posted_since, followed_since}
use Rattle.mt_examples.specs.WatchersInTime.{ro, rw}

-- the watcher begins at event 4
abbrev pub schedule : List Event
schedule = map (λ c. Apply c) private_root ++ Open All ∷ ro ∷ PostNext ∷ rw ∷ PostNext ∷ Take 1 ∷ Take 1 ∷ ro ∷ PostNext ∷ Close 1 ∷ []

abbrev pub numbers : List PostView → List ℕ
numbers ps = map (λ (p : PostView). p.number) ps

pub taken : numbers (taken_since 1 schedule 4 1) ≡ 2 ∷ []
unfolding computed
taken = refl

pub posted : numbers (posted_since 1 schedule 4 1) ≡ 2 ∷ []
unfolding computed
posted = refl

pub followed : numbers (followed_since 1 schedule 4 All) ≡ 2 ∷ 3 ∷ 4 ∷ []
unfolding computed
followed = refl

pub shut : has_open 1 (floor_after 1 schedule) ≡ false
unfolding computed
shut = refl

pub table : table_made (opening_of (accepted_before 1 schedule 4) All) 1 (taken_since 1 schedule 4 1) ≡ table_of (after (accepted_before 1 schedule 6)) 1
unfolding computed
table = refl
