use Rattle.std.proofs.Common.{◌≡◌, ◌≤◌, take, length, vec_len}
use Rattle.mt_render.specs.Leads.{IsBarred}
use Rattle.mt_render.proofs.leads.Path.rise.Given as goal

-- a front of the way is left
abbrev pub invariant-levels : goal.invariant-levels
invariant-levels l = record {
  front : take l.depth l.self.lasts.items ≡ take l.depth l.initial.self.lasts.items;
  strokes : l.self.strokes ≡ l.initial.self.strokes;
  barred : IsBarred l.self;
}

abbrev pub decreases-levels : goal.decreases-levels
decreases-levels l = vec_len l.self.lasts
