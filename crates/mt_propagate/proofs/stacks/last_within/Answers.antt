use Rattle.std.proofs.Common.{◌≡◌, ◌<◌, ◌-◌, ◌+◌, suc, Option, Some, sym, ap, ◌∙◌, arith}
use Rattle.indexmap.specs.IndexMap.{get}
use Rattle.mt_skel.specs.Chain.{follow}
use Rattle.mt_skel.proofs.ChainLaws.{follow-step}
use Rattle.mt_mounts.specs.declared.mount.Mount.{Mount}
use Rattle.mt_mounts.specs.Forest.{place_eq, root_place}
use Rattle.mt_propagate.proofs.stacks.last_within.Goals as goal

pub stack-preserved : goal.stack-preserved
stack-preserved c =
    let next : Mount → Option Mount = λ m. get place_eq c.args.standing.now (root_place m) in
    let n = c.args.steps in
    let more : c.stack._step < n = omega arith in
    let on : next c.stack.here ≡ Some c.in-Some.next = sym c.get.ensures.value ∙ sym c.copied.ensures ∙ c.in-Some.is in
    let fuel : n - c.stack._step ≡ suc (n - (c.stack._step + 1)) = omega arith in
    record {
      within = omega arith;
      leads = sym (follow-step next (n - (c.stack._step + 1)) c.stack.here c.in-Some.next on) ∙ ap (λ k. follow next k c.stack.here) (sym fuel) ∙ c.stack.invariant.leads;
    }
