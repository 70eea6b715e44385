-- What is known where a command or a watcher is not refused.
use Rattle.std.proofs.Common.{◌≡◌, false, length, nat_le, None, arith}
use Rattle.std.proofs.lemmas.Bool.Decides.{nat_tests}
use Rattle.mt_events.specs.declared.opening.Scope.{Scope}
use Rattle.mt_book.specs.Book.{command_limit}
use Rattle.mt_floor.specs.Watcher.{is_missing}
use Rattle.mt_floor.specs.Schedule.{FloorView, too_many_watchers, command_refusal, opening_refusal}

-- a command may be tried
pub record IsAllowedCommand (s : FloorView) : Type 0 where
  pub running : s.stopped ≡ false
  pub few : nat_le command_limit (length s.journal) ≡ false

pub command_allowed : (s : FloorView) → command_refusal s ≡ None → IsAllowedCommand s
command_allowed s none = record { running = grind (arith, nat_tests); few = grind (arith, nat_tests) }

-- a watcher begins
pub record IsAllowedOpening (s : FloorView) (scope : Scope) : Type 0 where
  pub there : is_missing s.journal scope ≡ false
  pub few : too_many_watchers s ≡ false
  pub running : s.stopped ≡ false

pub opening_allowed : (s : FloorView) (scope : Scope) → opening_refusal s scope ≡ None → IsAllowedOpening s scope
opening_allowed s scope none = record { there = grind (arith, nat_tests); few = grind (arith, nat_tests); running = grind (arith, nat_tests) }
