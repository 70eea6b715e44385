use Rattle.std.proofs.Common.{◌≡◌, ◌≤◌, ◌+◌, ◌*◌, drop}
use Rattle.mt_terminal.specs.Terminal.{cells_by}
use Rattle.mt_terminal.proofs.terminal.cells_of_text.Given as goal

-- the cells counted, and those to come, and two at most for each step
abbrev pub invariant-bytes : goal.invariant-bytes
invariant-bytes l = (l.count + cells_by (drop l._byte-index l.text) l.rest ≡ cells_by l.text l.text) × (l.count ≤ 2 * l._byte-index)
