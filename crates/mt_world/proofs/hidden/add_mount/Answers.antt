use Rattle.std.proofs.Common.{◌≡◌, ◌∙◌, ap, sym, subst, refl, None}
use Rattle.std.specs.Option.{is_some}
use Rattle.mt_mounts.specs.declared.mount.Mount.{Mount}
use Rattle.mt_propagate.specs.World.{WorldView, world_view}
use Rattle.mt_world.specs.Hidden.{HasMoreHidden, IsHidden}
use Rattle.mt_world.specs.Fitting.{why_unfit}
use Rattle.mt_world.proofs.HiddenLaws.{hidden_beside, hidden_there}
use Rattle.mt_world.proofs.FitLaws.{none_there}
use Rattle.mt_world.proofs.hidden.add_mount.Goals as goal

pub returns-clause-beside : goal.returns-clause-beside
returns-clause-beside c =
    let w = world_view c.args.world.now in
    let m : Mount = record { id = w.next_mount; space = c.args.space; place = c.args.place; root = c.args.root; attrs = c.new.result } in
    let fit : why_unfit w m ≡ None = none_there _ (ap is_some (sym c.why_unfit.ensures) ∙ sym c.is_some.ensures ∙ c.if-is_some.false) in
    subst (HasMoreHidden c.args.space w) (sym c.in_ok-add_leaf.ensures.done) (hidden_beside w m c.requires.sound refl fit)

pub returns-clause-mount : goal.returns-clause-mount
returns-clause-mount c =
    let w = world_view c.args.world.now in
    let m : Mount = record { id = w.next_mount; space = c.args.space; place = c.args.place; root = c.args.root; attrs = c.new.result } in
    let fit : why_unfit w m ≡ None = none_there _ (ap is_some (sym c.why_unfit.ensures) ∙ sym c.is_some.ensures ∙ c.if-is_some.false) in
    subst (λ (v : WorldView). IsHidden w v m) (sym c.in_ok-add_leaf.ensures.done) (hidden_there w m c.requires.sound refl fit)

pub returns-clause-spaces : goal.returns-clause-spaces
returns-clause-spaces c = ap (λ (v : WorldView). v.next_space) c.in_ok-add_leaf.ensures.done
