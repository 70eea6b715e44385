use Rattle.std.proofs.Common.{◌≡◌, ◌+◌, Some, take, drop, ap, sym, ◌∙◌, arith}
use Rattle.std.proofs.lemmas.List.{take_all}
use Rattle.mt_skel.proofs.ListLaws.{take_next, split_next}
use Rattle.mt_skel.proofs.SkeletonLaws.{number_at, child_at, none_below}
use Rattle.mt_skel.proofs.NodeLaws.{root_place, sound}
use Rattle.mt_skel.proofs.skel.Skel.find.Goals as goal

pub loop-name-init : goal.loop-name-init
loop-name-init c = root_place c.self.invariant.laid_out _ c.self.view_is _ _ c.requires c.index.ensures

pub returns-in_err-here : goal.returns-in_err-here
returns-in_err-here c =
    let path = c.args.path.now in
    let i = c.loop-name.name-index in
    let split = split_next path i c.name-item.result (omega (arith, c.loop-name-test.true)) c.name-item.is in
    c.from_residual.ensures ∙ sym (none_below c.args.self.now (sound c.self.invariant.laid_out _ c.self.view_is) c.args.fs c.loop-name.here (take i path) (drop (i + 1) path) path c.name-item.result c.loop-name.invariant (sym c.child.ensures.child ∙ c.in_err-here.was) split)

pub loop-name-preserved : goal.loop-name-preserved
loop-name-preserved c =
    let path = c.args.path.now in
    let i = c.loop-name.name-index in
    let next = take_next path i c.name-item.result (omega (arith, c.loop-name-test.true)) c.name-item.is in
    child_at c.args.self.now c.args.fs c.loop-name.here c.in_ok-here.here (take i path) c.name-item.result c.loop-name.invariant (sym c.child.ensures.child ∙ c.in_ok-here.was)
    ∙ ap (λ p. Some (record { fs = c.args.fs; path = p })) (sym next)

pub returns : goal.returns
returns c =
    let whole : take c.loop-name.name-index c.args.path.now ≡ c.args.path.now = take_all c.loop-name.name-index c.args.path.now (omega (arith, c.loop-name-test.false)) in
    sym (number_at c.args.self.now (sound c.self.invariant.laid_out _ c.self.view_is) (record { fs = c.args.fs; path = c.args.path.now }) c.loop-name.here (c.loop-name.invariant ∙ ap (λ p. Some (record { fs = c.args.fs; path = p })) whole))
