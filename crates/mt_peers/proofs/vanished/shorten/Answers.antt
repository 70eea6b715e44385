use Rattle.std.proofs.Common.{◌≡◌, ◌<◌, ◌-◌, nat_eq, [], Some, sym, ◌∙◌, subst, arith}
use Rattle.indexmap.specs.IndexMap.{get}
use Rattle.mt_peers.specs.declared.vanished.Above.{Above}
use Rattle.mt_peers.specs.Peers.{has_member}
use Rattle.mt_peers.specs.Masters.{master_of}
use Rattle.mt_peers.specs.Ways.{IsAbove}
use Rattle.mt_peers.proofs.WayLaws.{above-dead, above-rest}
use Rattle.mt_peers.proofs.VanishedLaws.{written-vanished, written-near}
use Rattle.mt_peers.proofs.vanished.shorten.Goals as goal

pub passed-preserved : goal.passed-preserved
passed-preserved c =
    let here = c.passed.here in
    let rest = c.passed.rest in
    let found = c.in-Some.found in
    let end = c.args.end in
    let x : Above = record { up = c.args.end.up; steps = c.passed.rest } in
    let lt : found.steps < rest = omega (arith, c.if-rest-found.false) in
    record {
      kept = λ old new v a. written-vanished old new c.passed.vanished c.put.new.vanished here x c.put.ensures.written (c.passed.invariant.kept old new v a) (c.passed.invariant.above old new v a);
      above = λ old new v a.
          let b = c.passed.invariant.above old new v a in
          let off = above-dead (has_member new) (master_of old) here rest end.up b (omega (arith, lt)) in
          let there : get nat_eq c.passed.vanished here ≡ Some found = sym c.get.ensures.value ∙ sym c.copied.ensures ∙ c.in-Some.is in
          let known = (c.passed.invariant.kept old new v a).known here found off there in
          subst (λ m. IsAbove (has_member new) (master_of old) m end.up (rest - found.steps)) c.in-Some-up.is (above-rest (has_member new) (master_of old) (Some here) found.up end.up found.steps rest b known lt);
      near = written-near [] [] c.passed.vanished c.put.new.vanished here x c.put.ensures.written c.args.most c.passed.invariant.near (omega (arith, lt)) c.passed.invariant.within;
      within = omega (arith, c.passed.invariant.within);
      room = omega (arith, c.passed.invariant.room, c.put.ensures.room);
    }
