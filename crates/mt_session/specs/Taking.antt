-- What is always true of the watcher of a session of threads, and how far a loop of takes is. No public clause cites this module.
-- A word with no source is this project's rule.
use Rattle.std.specs.Prelude.{◌≡◌, List, length, Option, Some, None}
use Rattle.std.specs.List.{flat_map}
use Rattle.mt_events.specs.Posts.{PostView, post_text}
use Rattle.mt_events.specs.Following.{IsRun}
use Rattle.mt_desk.specs.Calls.{WatcherView}
use Rattle.mt_events.specs.Texts.{lines_of_posts}
use Rattle.mt_session.specs.SharedTurns.{with_taken_posts}
use Rattle.mt_events.specs.declared.texts.PrintedPosts.{PrintedPosts}

-- what the session's watcher took is a run from its opening
abbrev pub IsRunning : Option WatcherView → Type 0
IsRunning None = Unit {0}
IsRunning (Some w) = IsRun w.half.opening w.half.taken

-- posts were taken, and this was printed of them
pub record HasPrinted (w : WatcherView) (printed : PrintedPosts) (now : WatcherView) : Type 0 where
  pub posts : List PostView
  pub watcher : now ≡ with_taken_posts w posts
  pub text : printed.text.items ≡ flat_map post_text posts
  pub lines : printed.lines ≡ lines_of_posts posts
  pub count : printed.posts ≡ length posts
