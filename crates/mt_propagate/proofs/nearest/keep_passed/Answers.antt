use Rattle.std.proofs.Common.{◌<◌, ◌-◌, Some, subst, arith}
use Rattle.mt_peers.specs.Masters.{master_of}
use Rattle.mt_peers.specs.Ways.{IsAbove}
use Rattle.mt_peers.proofs.WayLaws.{above-rest}
use Rattle.mt_propagate.specs.declared.nearest.Above.{Above}
use Rattle.mt_propagate.specs.Planned.{stands}
use Rattle.mt_propagate.proofs.NearestLaws.{known-passed, found-more}
use Rattle.mt_propagate.proofs.nearest.keep_passed.Goals as goal

pub passed-smaller : goal.passed-smaller
passed-smaller c =
    let es = c.args.world.now.peers.peers in
    let known = known-passed (stands c.args.standing.now) es c.passed.found c.passed.here c.passed.rest c.args.end.up c.known_above-known.result c.passed.invariant.found c.passed.invariant.above c.passed-test.true c.known_above-known.ensures in
    let low = known.low in
    let lt = c.if-rest-known.false in
    omega (arith, low, lt)

pub passed-preserved : goal.passed-preserved
passed-preserved c =
    let p = stands c.args.standing.now in
    let es = c.args.world.now.peers.peers in
    let here = c.passed.here in
    let rest = c.passed.rest in
    let end = c.args.end in
    let step = c.known_above-known.result in
    let x : Above = record { up = c.args.end.up; steps = c.passed.rest } in
    let known = known-passed p es c.passed.found here rest end.up step c.passed.invariant.found c.passed.invariant.above c.passed-test.true c.known_above-known.ensures in
    let lt : step.steps < rest = omega (arith, c.if-rest-known.false) in
    record {
      found =
          found-more p es c.passed.found c.insert.new.self here x c.passed.invariant.found
          (record { above = c.passed.invariant.above; low = c.passed-test.true; high = omega (arith, c.passed.invariant.within) })
          c.in_ok-insert.ensures.updates.0;
      above =
          subst (λ m. IsAbove p (master_of es) m end.up (rest - step.steps)) c.in-Some.is
          (above-rest p (master_of es) (Some here) step.up end.up step.steps rest c.passed.invariant.above known.above lt);
      within = omega (arith, c.passed.invariant.within);
    }
