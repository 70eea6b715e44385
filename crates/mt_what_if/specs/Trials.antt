-- Commands that are tried one after another on a world.
-- A word with no source is this project's rule.
use Rattle.std.specs.Prelude.{◌≡◌, ℕ, ◌-◌, List, [], ◌∷◌, ◌++◌, Result, Ok, Err}
use Rattle.mt_skel.specs.declared.fault.Fault.{Fault}
use Rattle.mt_propagate.specs.World.{WorldView}
use Rattle.mt_propagate.specs.WellFormed.{IsWellFormed}
use Rattle.mt_book.specs.Step.{after_from}
use Rattle.mt_book.specs.Attempts.{tried}
use Rattle.mt_book.specs.declared.command.Command.{Command}
use Rattle.mt_book.specs.declared.command.Command.TheVariants.{MakeFs}
use Rattle.mt_book.specs.declared.command.Reply.{Reply}
use Rattle.mt_what_if.specs.declared.trying.Outcome.{Outcome}
use Rattle.mt_what_if.specs.declared.trying.Outcome.TheVariants.{Done, Refused}

-- a world, and the commands that it accepted, in their order; the names that its filesystems are known by; and of one line those of the
-- commands that it was given without asking for them, and the command for which it is refused, if it is
pub record TrialView : Type 0 where
  pub start : WorldView
  pub commands : List Command
  pub names : List (List ℕ)
  pub given : List Command
  pub refused : List Command

-- the world after them
abbrev pub world_after : TrialView → WorldView
world_after t = after_from t.start t.commands

-- the namespace that was made last
abbrev pub last_space : WorldView → ℕ
last_space w = w.next_space - 1

-- both worlds are well-formed, and the commands lead from one to the other
pub record IsTrial (w v : WorldView) (cs : List Command) : Type 0 where
  pub start : IsWellFormed w
  pub now : IsWellFormed v
  pub leads : v ≡ after_from w cs

-- one more command is accepted, one is refused, and one was given to a line
abbrev pub names_made : Command → List (List ℕ)
names_made (MakeFs name kind source) = name ∷ []
names_made c = []

abbrev pub with_command : TrialView → Command → TrialView
with_command t c = record t { commands = t.commands ++ c ∷ []; names = t.names ++ names_made c }

abbrev pub with_refused : TrialView → Command → TrialView
with_refused t c = record t { refused = t.refused ++ c ∷ [] }

abbrev pub with_given : TrialView → Command → TrialView
with_given t c = record t { given = t.given ++ c ∷ [] }

-- another line begins: it was given nothing yet, and is not refused
abbrev pub for_next : TrialView → TrialView
for_next t = record t { given = []; refused = [] }

-- what comes of commands that are tried in turn: all are accepted, or one is refused, and those after it are not tried
pub record Ended : Type 0 where
  pub trial : TrialView
  pub outcome : Outcome

abbrev pub all_done : TrialView → Ended
all_done t = record { trial = t; outcome = Done }

abbrev pub stopped : TrialView → Fault → Ended
stopped t fault = record { trial = t; outcome = Refused fault }

-- more are tried only behind such as are all accepted
abbrev pub next_tried : Outcome → TrialView → (TrialView → Ended) → Ended
next_tried Done t more = more t
next_tried (Refused fault) t more = stopped t fault

unfoldable pub then_tried : Ended → (TrialView → Ended) → Ended
then_tried e more = next_tried e.outcome e.trial more

-- a command is tried: it is accepted, or it is the one that is refused, and changes nothing
abbrev pub attempt_as : TrialView → Command → Result (WorldView × Reply) Fault → Ended
attempt_as t c (Ok p) = all_done (with_command t c)
attempt_as t c (Err fault) = stopped (with_refused t c) fault

unfoldable pub attempt : TrialView → Command → Ended
attempt t c = attempt_as t c (tried (world_after t) c)

-- commands are given to a line, one after another
unfoldable pub give : TrialView → Command → Ended
give t c = then_tried (attempt t c) (λ u. all_done (with_given u c))

abbrev pub give_all : TrialView → List Command → Ended
give_all t [] = all_done t
give_all t (c ∷ cs) = then_tried (give t c) (λ u. give_all u cs)
