use Rattle.std.proofs.Common.{◌≡◌, ℕ, take, nat_eq}
use Rattle.std.specs.HashSet.{contains}
use Rattle.mt_render.specs.Steps.{has_step}
use Rattle.mt_render.proofs.forest.drawn_ids.Given as goal

-- the mounts of the rows that came
abbrev pub invariant-drawn : goal.invariant-drawn
invariant-drawn l = (i : ℕ) → contains nat_eq l.ids i ≡ has_step (take l.step-index l.drawn) i
