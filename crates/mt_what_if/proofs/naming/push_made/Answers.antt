use Rattle.std.proofs.Common.{◌+◌, ◌-◌, ◌∷◌, ◌++◌, [], map, ap, ◌∙◌, arith}
use Rattle.std.specs.List.{range_with_len}
use Rattle.mt_what_if.specs.Naming.{made_space}
use Rattle.mt_what_if.specs.KnownSpaces.{TitledSpace}
use Rattle.mt_what_if.proofs.MadeLaws.{made_step}
use Rattle.mt_what_if.proofs.naming.push_made.Goals as goal

pub numbers-preserved : goal.numbers-preserved
numbers-preserved c =
    made_step c.args.last c.numbers.number c.args.next c.numbers.spaces.items c.push.new.self.items
    (c.args.spaces.now.items ++ map (made_space c.args.last) (range_with_len (c.args.last + 1) (c.args.next - (c.args.last + 1))))
    (omega (arith, c.numbers-test.true))
    (c.in_ok-push.ensures.items ∙ ap (λ (s : TitledSpace). c.numbers.spaces.items ++ s ∷ []) c.in_ok-made_space.ensures) c.numbers.invariant
