use Rattle.std.proofs.Common.{ℕ, List, map, take, refl, sym, ap, ◌∙◌, arith, length, ◌≡◌}
use Rattle.std.proofs.Math.Seq.{take-length}
use Rattle.mt_skel.specs.Keyed.{among}
use Rattle.mt_mounts.specs.ForestView.{ForestView}
use Rattle.mt_setattr.specs.Change.{changed_mount}
use Rattle.mt_setattr.proofs.SettingLaws.{none-changed, set-step, skip-step}
use Rattle.mt_setattr.proofs.setting.change_attrs.Goals as goal
use Rattle.mt_setattr.proofs.setting.change_attrs.Goals.{in-Some, in_default}

pub loop-id-init : goal.loop-id-init
loop-id-init c = record {
  told = none-changed c.args.change.now c.args.forest.now.mounts;
  room = omega arith;
  since = refl;
}

pub loop-id-preserved : goal.loop-id-preserved
loop-id-preserved c =
    let old = c.args.forest.now.mounts in
    let now = c.loop-id.forest.mounts in
    record {
      told = elim c.match-get.branch [
        | in-Some w ↦
            ap (λ f. f.mounts) w.forest-is ∙ w.set_attrs.ensures.mounts
            ∙ set-step c.args.change.now c.args.ids.now c.loop-id.id-index old now c.loop-id-test.true c.loop-id.invariant.told
            w.in-Some.mount w.attrs_after.result w.set_attrs.ensures.rising (sym c.get.ensures ∙ w.in-Some.is) w.attrs_after.ensures
        | in_default w ↦
            ap (λ f. f.mounts) w.forest-is
            ∙ skip-step c.args.change.now c.args.ids.now c.loop-id.id-index old now c.loop-id-test.true c.loop-id.invariant.told (sym c.get.ensures ∙ w.in_default.is)
      ];
      room = elim c.match-get.branch [
        | in-Some w ↦ let e = ap (λ (f : ForestView). f.room) w.forest-is in omega (arith, e, w.set_attrs.ensures.room, c.loop-id.invariant.room)
        | in_default w ↦ let e = ap (λ (f : ForestView). f.room) w.forest-is in omega (arith, e, c.loop-id.invariant.room)
      ];
      since = elim c.match-get.branch [
        | in-Some w ↦ ap (λ (f : ForestView). f.since) w.forest-is ∙ w.set_attrs.ensures.since ∙ c.loop-id.invariant.since
        | in_default w ↦ ap (λ (f : ForestView). f.since) w.forest-is ∙ c.loop-id.invariant.since
      ];
    }

pub returns-clause-mounts : goal.returns-clause-mounts
returns-clause-mounts c =
    let n : c.loop-id.id-index ≡ length c.args.ids.now = omega arith in
    c.loop-id.invariant.told ∙ ap (λ (k : ℕ). map (changed_mount c.args.change.now (among (take k c.args.ids.now))) c.args.forest.now.mounts) n
    ∙ ap (λ (ids : List ℕ). map (changed_mount c.args.change.now (among ids)) c.args.forest.now.mounts) (take-length c.args.ids.now)
