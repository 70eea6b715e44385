-- What the tests of a mount say.
use Rattle.std.proofs.Common.{◌≡◌, Bool, true, false, not, eqb-true, Option, Some, None, refl, sym, ap, ◌∙◌, if◌then◌else◌}
use Rattle.std.specs.Prelude.{IsTrue, is_some}
use Rattle.std.specs.Option.{option_map_or}
use Rattle.mt_skel.specs.Skeleton.{holds}
use Rattle.mt_mounts.specs.declared.mount.Mount.{Mount}
use Rattle.mt_mounts.specs.declared.mount.Place.{Place}
use Rattle.mt_mounts.specs.Forest.{mount_at, on, root_mount}
use Rattle.mt_propagate.specs.World.{WorldView}
use Rattle.mt_propagate.proofs.AddedLaws.{Fits}
use Rattle.mt_world.specs.declared.misfit.Misfit.{Misfit}
use Rattle.mt_world.specs.declared.misfit.Misfit.TheVariants.{NoParent}
use Rattle.mt_world.specs.Fitting.{why_unfit, why_unplaced, why_unplaced_on, why_second_root}

-- where a reason is not given, what it is given for is not so, and what follows it gives none
passed : (b : Bool) (r : Misfit) (rest : Option Misfit) → (if b then Some r else rest) ≡ None → (b ≡ false) × (rest ≡ None)
passed true r rest e = absurd (let v : Some r ≡ None = e in cc)
passed false r rest e = (refl, e)

pub none_there : {X : Type 0} (o : Option X) → is_some o ≡ false → o ≡ None
none_there None e = refl
none_there (Some x) e = absurd (cc)

not_false : (b : Bool) → not b ≡ false → b ≡ true
not_false true e = refl
not_false false e = absurd (cc)

-- a mount for which no reason is given fits
pub fits : (w : WorldView) (m : Mount) → why_unfit w m ≡ None → Fits w.skel w.forest m
fits w m e =
    let first = passed _ _ _ e in
    let second = passed _ _ _ first.1 in
    record {
      absent = none_there (mount_at w.forest m.id) first.0;
      placed = λ p at. (on_one p at second.1).0;
      free = λ p at. (on_one p at second.1).1;
      first = λ at. let root = passed _ _ _ (ap (λ o. option_map_or (why_unplaced w m.space) o (why_second_root w m.space)) (sym at) ∙ second.1) in none_there (root_mount w.forest m.space) root.0;
    }
  where
    by : (p : Place) (o : Option Mount) → mount_at w.forest p.mount ≡ o → option_map_or (why_unplaced_on w m.space p) o (Some NoParent) ≡ None
        → ((q : Mount) × (mount_at w.forest p.mount ≡ Some q) × (q.space ≡ m.space) × IsTrue (holds w.skel q.root p.dir)) × (on w.forest p ≡ None)
    by p None at f = absurd (let v : Some NoParent ≡ None = f in cc)
    by p (Some q) at f =
        let one = passed _ _ _ f in
        let two = passed _ _ _ one.1 in
        let three = passed _ _ _ two.1 in
        ((q, at, eqb-true q.space m.space (not_false _ one.0), not_false _ two.0), none_there (on w.forest p) three.0)

    on_one : (p : Place) → m.place ≡ Some p → option_map_or (why_unplaced w m.space) m.place (why_second_root w m.space) ≡ None
        → ((q : Mount) × (mount_at w.forest p.mount ≡ Some q) × (q.space ≡ m.space) × IsTrue (holds w.skel q.root p.dir)) × (on w.forest p ≡ None)
    on_one p at f = by p (mount_at w.forest p.mount) refl (ap (λ o. option_map_or (why_unplaced w m.space) o (why_second_root w m.space)) (sym at) ∙ f)
