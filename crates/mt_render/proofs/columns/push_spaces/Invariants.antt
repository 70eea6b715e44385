use Rattle.std.proofs.Common.{◌≡◌, ◌++◌, replicate}
use Rattle.mt_render.proofs.columns.push_spaces.Given as goal

abbrev pub invariant-spaces : goal.invariant-spaces
invariant-spaces l = l.text.items ≡ l.initial.text.items ++ replicate l._step 32
