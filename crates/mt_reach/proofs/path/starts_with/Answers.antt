use Rattle.std.proofs.Common.{ap, sym, ◌∙◌, drop, ◌+◌, ◌&&◌}
use Rattle.std.specs.List.{starts_with}
use Rattle.std.specs.Str.{bytes_eq}
use Rattle.mt_reach.proofs.BeginLaws.{begins_step}
use Rattle.mt_reach.proofs.path.starts_with.Goals as goal

pub returns-then-not-is_same : goal.returns-then-not-is_same
returns-then-not-is_same c =
    let e = begins_step c.args.first.now c.first.below.rest.now c.next.new.self.rest.now c.first.name-index c.in-Some.other.now c.name-item.result c.name-item.result c.first-test.true c.name-item.is c.in-Some.ensures.steps in
    ap (λ b. b && starts_with bytes_eq c.next.new.self.rest.now (drop (c.first.name-index + 1) c.args.first.now)) c.if-not-is_same.ensures ∙ sym e ∙ c.first.invariant

pub first-preserved : goal.first-preserved
first-preserved c =
    let e = begins_step c.args.first.now c.first.below.rest.now c.next.new.self.rest.now c.first.name-index c.in-Some.other.now c.name-item.result c.name-item.result c.first-test.true c.name-item.is c.in-Some.ensures.steps in
    ap (λ b. b && starts_with bytes_eq c.next.new.self.rest.now (drop (c.first.name-index + 1) c.args.first.now)) c.if-not-is_same.ensures ∙ sym e ∙ c.first.invariant
