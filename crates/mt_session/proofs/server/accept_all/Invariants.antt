use Rattle.std.proofs.Common.{◌≡◌, ℕ, ◌<◌, ◌≤◌, ◌++◌, replicate, IsTrue, false}
use Rattle.mt_session.proofs.server.accept_all.Given as goal

-- fewer have failed in succession than end a server; each look has said no
abbrev pub invariant-accepting : goal.invariant-accepting
invariant-accepting g l =
    (l.failures < 1000)
    × (IsTrue g.D.Door.counts → g.D.Door.failures l.initial.door ≡ 0 → g.D.Door.failures l.door ≡ l.failures)
    × (IsTrue g.D.Door.counts → g.D.Door.asked l.initial.door ≤ g.D.Door.asked l.door)
    × (IsTrue g.L.Lookout.notes → (n : ℕ) × (g.L.Lookout.looks l.lookout ≡ replicate n false ++ g.L.Lookout.looks l.initial.lookout))
