-- An opening of a line, with a number that tells it from the line's other openings.
-- A word with no source is this project's rule.
use Rattle.std.specs.Prelude.{ℕ, []}
use Rattle.mt_events.specs.declared.opening.Scope.TheVariants.{All}
use Rattle.mt_events.specs.declared.opening.Opening.{Opening}
use Rattle.mt_queue.specs.declared.rule.TaggedOpening.{TaggedOpening}

abbrev pub tagged : Opening → ℕ → TaggedOpening
tagged o tag = record { opening = o; tag = tag }

-- what stands for the opening of a line that was never opened
abbrev pub no_opening : TaggedOpening
no_opening = record { opening = record { scope = All; parts = [] }; tag = 0 }
