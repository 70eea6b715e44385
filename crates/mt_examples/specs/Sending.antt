-- What the tests of queues keep of a sender: it sends the posts of namespace 1, from the first.
-- A word with no source is this project's rule.
use Rattle.std.specs.Prelude.{◌≡◌, ℕ, ◌+◌, IsTrue}
use Rattle.mt_events.specs.Following.{names_space, start_of, posts_in, IsRun}
use Rattle.mt_events.specs.declared.opening.Opening.{Opening}
use Rattle.mt_queue.specs.Halves.{SenderView}

-- a watcher that follows namespace 1 and found no post of it
pub record IsFromFirst (o : Opening) : Type 0 where
  pub start : start_of o 1 ≡ 0
  pub follows : IsTrue (names_space o.scope 1)

-- this is the number of the next post
pub record IsNext (number : ℕ) (s : SenderView) : Type 0 where
  pub from : IsFromFirst s.opening
  pub run : IsRun s.opening s.sent
  pub number_is : number ≡ posts_in 1 s.sent + 1
