-- The rule: there is one history. One pass knows it, and each session's pass a beginning that has all entries of its number.
use Rattle.std.specs.Prelude.{◌≡◌, ◌≢◌, ℕ, ◌<◌, ◌≤◌, true, List, []}
use mathlib.Core.Option.{some}
use lib.ListN.{get_elem?}
use Rattle.mt_desk.specs.declared.act.LogEntry.{LogEntry}
use Rattle.mt_desk.specs.declared.history_rule.PassView.{PassView}
use Rattle.mt_desk.specs.Entries.{acts_by, IsSeen}

abbrev pub KnowsAll : ℕ → List LogEntry → ℕ → ℕ → PassView → Type 0
KnowsAll desk log next pass v = (pass ≡ desk) × (v.all ≡ log) × (v.next ≡ next)

abbrev pub KnowsOwn : (ℕ → ℕ) → List LogEntry → ℕ → ℕ → ℕ → List LogEntry → Type 0
KnowsOwn owner log next pass by seen = (pass ≡ owner by) × (by < next) × IsSeen by seen log

abbrev pub FitsLog : ℕ → (ℕ → ℕ) → List LogEntry → ℕ → ℕ → PassView → Type 0
FitsLog desk owner log next pass v =
    (v.knows ≡ true → KnowsAll desk log next pass v)
    × (v.calls ≡ true → KnowsOwn owner log next pass v.by v.seen)
    × (v.pairs ≡ true → (v.by ≢ v.other) × KnowsOwn owner log next pass v.other v.beside)

pub record KeepsHistory (items : List ℕ) (views : List PassView) : Type 0 where
  -- the pass that knows the history, and the one of each session
  pub desk : ℕ
  pub owner : ℕ → ℕ
  pub log : List LogEntry
  -- the number of the next session
  pub next : ℕ
  pub each : (pass : ℕ) (v : PassView) → get_elem? views pass ≡ some v → FitsLog desk owner log next pass v
  pub fresh : (n : ℕ) → next ≤ n → acts_by n log ≡ []
