use Rattle.std.proofs.Common.{◌≡◌, ◌+◌, false, arith, ap, sym}
use Rattle.mt_session.specs.Accepting.{is_over}
use Rattle.mt_session.proofs.AcceptLaws.{still_below, looked_again}
use Rattle.mt_session.proofs.server.accept_all.Goals as goal

pub accepting-preserved-in-Arrived : goal.accepting-preserved-in-Arrived
accepting-preserved-in-Arrived g c =
    let said : is_over c.accept_one.result ≡ false = ap is_over c.in-Arrived.is in (
      still_below c.accept_one.result c.accept_one.new.failures (λ e. cc) c.accept_one.ensures.gives_up c.accept_one.ensures.within,
      λ counts none. sym (c.accept_one.ensures.counted counts (c.accepting.invariant.1 counts none) said),
      λ counts. omega (arith, c.accept_one.ensures.asked counts, c.accepting.invariant.2 counts),
      λ notes. let l = c.accepting.invariant.3 notes in (l.0 + 1, looked_again l.0 c.accept_one.result (g.L.Lookout.looks c.args.lookout.now) (g.L.Lookout.looks c.accepting.lookout) (g.L.Lookout.looks c.accept_one.new.lookout) said l.1 (c.accept_one.ensures.looked notes)),
    )

pub accepting-preserved : goal.accepting-preserved
accepting-preserved g c =
    let said : is_over c.accept_one.result ≡ false = ap is_over c.in-Missed.is in (
      still_below c.accept_one.result c.accept_one.new.failures (λ e. cc) c.accept_one.ensures.gives_up c.accept_one.ensures.within,
      λ counts none. sym (c.accept_one.ensures.counted counts (c.accepting.invariant.1 counts none) said),
      λ counts. omega (arith, c.accept_one.ensures.asked counts, c.accepting.invariant.2 counts),
      λ notes. let l = c.accepting.invariant.3 notes in (l.0 + 1, looked_again l.0 c.accept_one.result (g.L.Lookout.looks c.args.lookout.now) (g.L.Lookout.looks c.accepting.lookout) (g.L.Lookout.looks c.accept_one.new.lookout) said l.1 (c.accept_one.ensures.looked notes)),
    )
