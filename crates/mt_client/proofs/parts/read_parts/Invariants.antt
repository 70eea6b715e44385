use Rattle.std.proofs.Common.{◌≡◌, ◌+◌, length}
use Rattle.std.specs.List.{AllByRecursion}
use Rattle.mt_client.specs.Calls.{AreRead}
use Rattle.mt_client.specs.Mirroring.{IsShown}
use Rattle.mt_client.specs.Finding.{parts_lines}
use Rattle.mt_client.proofs.parts.read_parts.Given as goal

-- the lines of some namespaces were read, and so many are left
abbrev pub invariant-parts : goal.invariant-parts
invariant-parts g l = record { many : length (parts_lines l.parts.items) + l.left ≡ l.initial.count; shown : AllByRecursion IsShown l.parts.items; read : AreRead (parts_lines l.parts.items) l.initial.lines l.lines }

abbrev pub decreases-parts : goal.decreases-parts
decreases-parts g l = l.left
