use Rattle.std.proofs.Common.{sym, arith}
use Rattle.std.proofs.lemmas.Result.{on_ok_weaker}
use Rattle.mt_propagate.specs.World.{world_view}
use Rattle.mt_propagate.proofs.CountedLaws.{least-looks, bound-looks, most-looks, free-looks}
use Rattle.mt_propagate.proofs.receivers.receivers_counted.Goals as goal

pub returns-in-Some-clause-least : goal.returns-in-Some-clause-least
returns-in-Some-clause-least c =
    let all = least-looks (world_view c.args.world.now) c.args.place c.in-Some.group (sym c.in-Some.ensures) in
    on_ok_weaker c.targets_of.result (λ some. omega (arith, all, some)) c.targets_of.ensures.counted

pub returns-in-Some-clause-most : goal.returns-in-Some-clause-most
returns-in-Some-clause-most c h =
    let all = most-looks (world_view c.args.world.now) c.args.place c.in-Some.group (sym c.in-Some.ensures) h in
    let some = c.targets_of.ensures.most in
    omega (arith, all, some)

pub returns-in-Some-clause-twice : goal.returns-in-Some-clause-twice
returns-in-Some-clause-twice c free =
    let all = free-looks (world_view c.args.world.now) c.args.place c.in-Some.group (sym c.in-Some.ensures) c.targets_of.ensures.rising free in
    let some = c.targets_of.ensures.most in
    omega (arith, all, some)

pub returns-in-Some-clause-bound : goal.returns-in-Some-clause-bound
returns-in-Some-clause-bound c =
    let all = bound-looks (world_view c.args.world.now) c.args.place c.in-Some.group (sym c.in-Some.ensures) c.targets_of.ensures.rising in
    let some = c.targets_of.ensures.most in
    omega (arith, all, some)
