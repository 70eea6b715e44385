use Rattle.std.proofs.Common.{ℕ, List, [], ◌∷◌, eqb, ◌||◌, ◌&&◌, sym, ap, ◌∙◌}
use Rattle.mt_mounts.specs.Forest.{is_below}
use Rattle.mt_skel.specs.Keyed.{among}
use Rattle.mt_propagate.specs.World.{WorldView, world_view}
use Rattle.mt_setattr.specs.Change.{with_change}
use Rattle.mt_setattr.proofs.ChosenLaws.{among-subtree, changed-from}
use Rattle.mt_setattr.proofs.setting.change_from.Goals as goal

pub returns-in_ok-reserve_change-clause-done : goal.returns-in_ok-reserve_change-clause-done
returns-in_ok-reserve_change-clause-done c =
    let w = world_view c.args.world.now in
    let v = world_view c.reserve_change.new.world in
    let i = c.args.top in
    let same = c.in_ok-reserve_change.ensures.world in
    c.change_all.ensures.world ∙ changed-from v c.args.change.now i c.deref.result.now (λ j.
    ap (λ (ids : List ℕ). among ids j) (c.deref.ensures.value ∙ c.in_ok-ids.ensures.subtree) ∙ among-subtree w.forest i c.requires.there j
    ∙ ap (λ (u : WorldView). eqb i j || is_below u.forest i j) (sym same)
    ∙ ap (λ b. eqb i j || (b && is_below v.forest i j)) (sym c.if-change.true))
    ∙ ap (λ (u : WorldView). with_change u c.args.change.now i) same

pub returns-in_ok-reserve_change-2-clause-done : goal.returns-in_ok-reserve_change-2-clause-done
returns-in_ok-reserve_change-2-clause-done c =
    let v = world_view c.reserve_change-else-change.new.world in
    let i = c.args.top in
    c.change_all-else-change.ensures.world ∙ changed-from v c.args.change.now i (i ∷ []) (λ j. ap (λ b. eqb i j || (b && is_below v.forest i j)) (sym c.if-change.false))
    ∙ ap (λ (u : WorldView). with_change u c.args.change.now i) c.in_ok-reserve_change-2.ensures.world
