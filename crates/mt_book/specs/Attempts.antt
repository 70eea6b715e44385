-- Commands that are tried on a world.
-- A word with no source is this project's rule.
use Rattle.std.specs.Prelude.{ℕ, ◌^◌, Bool, ◌&&◌, nat_lt, if◌then◌else◌, Result, Err}
use Rattle.mt_skel.specs.declared.fault.Fault.{Fault}
use Rattle.mt_skel.specs.declared.fault.Fault.TheVariants.{TooMany}
use Rattle.mt_propagate.specs.World.{WorldView}
use Rattle.mt_book.specs.Step.{step}
use Rattle.mt_book.specs.declared.command.Command.{Command}
use Rattle.mt_book.specs.declared.command.Reply.{Reply}

-- numbers are left for all that a command may make
abbrev pub has_numbers : WorldView → Bool
has_numbers w = nat_lt w.next_mount (2 ^ 63) && nat_lt w.peering.next (2 ^ 63) && nat_lt w.next_space (2 ^ 63)

-- what a command does, where numbers are left
abbrev pub tried : WorldView → Command → Result (WorldView × Reply) Fault
tried w c = if has_numbers w then step w c else Err TooMany
