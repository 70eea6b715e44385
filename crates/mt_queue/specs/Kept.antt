-- What a line, its halves and what is left of them keep, and what they are read as.
-- A word with no source is this project's rule.
use Rattle.std.specs.Prelude.{◌≡◌, ℕ, true, false, length, Option}
use Rattle.crossbeam_queue.specs.declared.array_queue.Doing.{Doing}
use Rattle.crossbeam_queue.specs.declared.array_queue.Slotted.{Slotted}
use Rattle.crossbeam_queue.specs.Passes.{Pass, view, IsPassOf, ruled_capacity}
use Rattle.mt_events.specs.declared.opening.Opening.{Opening}
use Rattle.mt_events.specs.Following.{IsRun}
use Rattle.mt_queue.specs.declared.rule.PassView.{PassView}
use Rattle.mt_queue.specs.PassViews.{Item}
use Rattle.mt_queue.specs.Halves.{LineView, SenderView, ReceiverView, TailView}

abbrev pub QueueOf : Type 0 → Type 0 → Type 0
QueueOf Q A = Slotted (Option Item) (Doing Item PassView) Q A

module _ {Q A : Type 0} where
  -- a line that is not in use keeps one pass, which may do both, and all that was sent is taken
  pub record IsIdle (sends takes : QueueOf Q A) (pass : Pass Item PassView) : Type 0 where
    pub one : IsPassOf sends pass
    pub other : IsPassOf takes pass
    pub may_push : (view pass).pushes ≡ true
    pub may_pop : (view pass).pops ≡ true
    pub empty : (view pass).sent ≡ (view pass).taken

  -- a sender keeps the pass that may push, and what it sent is a run from its opening
  pub record IsSending (queue : QueueOf Q A) (pass : Pass Item PassView) : Type 0 where
    pub queue_is : IsPassOf queue pass
    pub capacity : (view pass).capacity ≡ ruled_capacity queue
    pub may_push : (view pass).pushes ≡ true
    pub no_pop : (view pass).pops ≡ false
    pub run : IsRun (view pass).opening.opening (view pass).sent

  -- it counts what it sent
  abbrev pub IsSender : QueueOf Q A → Pass Item PassView → ℕ → Type 0
  IsSender queue pass count = IsSending queue pass × (count ≡ length (view pass).sent)

  -- a receiver keeps the pass that may pop and the opening, and what it took is a run from there
  pub record IsTaking (queue : QueueOf Q A) (pass : Pass Item PassView) (opening : Opening) : Type 0 where
    pub queue_is : IsPassOf queue pass
    pub may_pop : (view pass).pops ≡ true
    pub no_push : (view pass).pushes ≡ false
    pub opening_is : (view pass).heard.opening ≡ opening
    pub run : IsRun (view pass).heard.opening (view pass).taken

  -- it counts what it took
  abbrev pub IsReceiver : QueueOf Q A → Pass Item PassView → Opening → ℕ → Type 0
  IsReceiver queue pass opening count = IsTaking queue pass opening × (count ≡ length (view pass).taken)

  -- both halves put together keep the one pass, which may do both
  pub record IsLeft (sends takes : QueueOf Q A) (pass : Pass Item PassView) : Type 0 where
    pub one : IsPassOf sends pass
    pub other : IsPassOf takes pass
    pub may_push : (view pass).pushes ≡ true
    pub may_pop : (view pass).pops ≡ true

  abbrev pub line_view : QueueOf Q A → Pass Item PassView → LineView
  line_view queue pass = record { line = pass.table_id; capacity = ruled_capacity queue }

  abbrev pub tail_view : QueueOf Q A → Pass Item PassView → TailView
  tail_view queue pass = record { line = pass.table_id; capacity = ruled_capacity queue; sent = (view pass).sent; taken = (view pass).taken }

abbrev pub sender_view : Pass Item PassView → SenderView
sender_view pass = record { line = pass.table_id; opening = (view pass).opening.opening; tag = (view pass).opening.tag; capacity = (view pass).capacity; sent = (view pass).sent; met = (view pass).met }

abbrev pub receiver_view : Pass Item PassView → ReceiverView
receiver_view pass = record { line = pass.table_id; opening = (view pass).heard.opening; tag = (view pass).heard.tag; taken = (view pass).taken; told = (view pass).told }
