use Rattle.std.proofs.Common.{◌≡◌, ◌≢◌, ℕ, Bool, true, false, cond, ◌==◌, eq-eqb, Option, Some, None, refl, sym, ap, ◌∙◌}
use Rattle.std.specs.Prelude.{unwrap_or}
use Rattle.std.proofs.lemmas.Bool.{ne_eqb}
use Rattle.mt_skel.proofs.KeyedLaws.{row_at-key}
use Rattle.mt_mounts.specs.declared.mount.Mount.{Mount}
use Rattle.mt_mounts.specs.declared.mount.Place.{Place}
use Rattle.mt_mounts.specs.Forest.{id_of, mount_at}
use Rattle.mt_propagate.specs.World.{WorldView, world_view}
use Rattle.mt_propagate.specs.Named.{unknown, mount_or_unknown}
use Rattle.mt_propagate.specs.Plans.{member_of, top_of}
use Rattle.mt_bind.specs.Opening.{unplaced_top}
use Rattle.mt_bind.proofs.opening.source.Goals as goal

none_here : (b : Bool) → ◌≡◌ {A = Option Place} (cond b None None) None
none_here true = refl
none_here false = refl

-- a mount other than the top is as it is in the world
other : (w : WorldView) (top dir i : ℕ) → i ≢ top → mount_or_unknown w i ≡ unplaced_top top (member_of w top dir i)
other w top dir i off = by (mount_at w.forest i) refl ∙ ap (λ b. unplaced_top top (cond b (top_of w top dir) (mount_or_unknown w i))) (sym (ne_eqb i top off))
  where
    by : (o : Option Mount) → mount_at w.forest i ≡ o → unwrap_or o unknown ≡ unplaced_top top (unwrap_or o unknown)
    by None e = ap (λ (p : Option Place). record unknown { place = p }) (sym (none_here (0 == top)))
    by (Some m) e = ap (λ b. record m { place = cond b None m.place }) (sym (ne_eqb m.id top (λ same. off (sym (row_at-key id_of i w.forest m e) ∙ same))))

-- and the top stands nowhere
bare : (w : WorldView) (top dir i : ℕ) → i ≡ top → ◌≡◌ {A = Mount} (record (mount_or_unknown w i) { place = None; root = dir }) (unplaced_top top (member_of w top dir i))
bare w top dir i same =
    ap (λ k. record (mount_or_unknown w k) { place = None; root = dir }) same ∙ by (mount_at w.forest top) refl
    ∙ ap (λ b. unplaced_top top (cond b (top_of w top dir) (mount_or_unknown w i))) (sym (eq-eqb i top same))
  where
    by : (o : Option Mount) → mount_at w.forest top ≡ o → ◌≡◌ {A = Mount} (record (unwrap_or o unknown) { place = None; root = dir }) (unplaced_top top (record (unwrap_or o unknown) { root = dir }))
    by None e = ap (λ (p : Option Place). record unknown { place = p; root = dir }) (sym (none_here (0 == top)))
    by (Some m) e = ap (λ b. record m { place = cond b None m.place; root = dir }) (sym (eq-eqb m.id top (row_at-key id_of top w.forest m e)))

pub returns-then-id-from : goal.returns-then-id-from
returns-then-id-from c = c.mount_or_unknown-mount.ensures ∙ other (world_view c.args.world.now) c.args.from.mount c.args.from.dir c.args.id c.if-id-from.true

pub returns : goal.returns
returns c =
    ap (λ (m : Mount). record m { place = None; root = c.args.from.dir }) c.mount_or_unknown-mount.ensures
    ∙ bare (world_view c.args.world.now) c.args.from.mount c.args.from.dir c.args.id c.if-id-from.false
