use Rattle.std.proofs.Common.{◌≡◌, [], ◌-◌}
use Rattle.mt_session.specs.Requests.{taken}
use Rattle.mt_session.proofs.session.take_told.Given as goal

-- so many posts are left to be taken
abbrev pub invariant-posts : goal.invariant-posts
invariant-posts l = record {
  idle : l.floor.due ≡ [];
  taken : taken l.floor l.key (l.count - l._index) ≡ taken l.initial.floor l.key l.count;
}
