-- What a history and a witness keep, and what they are read as.
-- A word with no source is this project's rule.
use Rattle.std.specs.Prelude.{◌≡◌, ℕ, Option, []}
use Rattle.crossbeam_queue.specs.declared.array_queue.Doing.{Doing}
use Rattle.crossbeam_queue.specs.declared.array_queue.Slotted.{Slotted}
use Rattle.crossbeam_queue.specs.Passes.{Pass, view, IsPassOf}
use Rattle.mt_desk.specs.declared.history_rule.PassView.{PassView}
use Rattle.mt_desk.specs.Entries.{HistoryView, WitnessView}
use Rattle.mt_desk.specs.HistoryViews.{keeper, caller}

abbrev pub HistoryQueue : Type 0 → Type 0 → Type 0
HistoryQueue Q A = Slotted (Option ℕ) (Doing ℕ PassView) Q A

module _ {Q A : Type 0} where
  -- what lies under the lock keeps the pass that knows the history
  pub record IsKeeping (queue : HistoryQueue Q A) (pass : Pass ℕ PassView) : Type 0 where
    pub own : IsPassOf queue pass
    pub knows : view pass ≡ keeper (view pass).all (view pass).next

-- a session keeps the pass of its number
pub record IsCalling (pass : Pass ℕ PassView) : Type 0 where
  pub none_out : pass.me.1 ≡ []
  pub calls : view pass ≡ caller (view pass).by (view pass).seen

abbrev pub history_view : Pass ℕ PassView → HistoryView
history_view pass = record { table = pass.table_id; log = (view pass).all }

abbrev pub witness_view : Pass ℕ PassView → WitnessView
witness_view pass = record { table = pass.table_id; by = (view pass).by; seen = (view pass).seen }
