-- A forest stays one once a mount was written, and where its mounts are as they were.
use Rattle.std.proofs.Common.{◌≡◌, ◌⊎◌, ℕ, List, [], ◌∷◌, ◌++◌, Option, Some, None, refl, sym, ap, subst, ◌∙◌, inl, inr}
use Rattle.std.specs.Option.{ForSome, option_map}
use Rattle.mt_skel.specs.Keyed.{put}
use Rattle.mt_skel.proofs.KeyedLaws.{row_at-key}
use Rattle.mt_lists.specs.Log.{AreAlikeBut}
use Rattle.mt_lists.proofs.LogLaws.{alike-noted}
use Rattle.mt_mounts.specs.declared.mount.Place.{Place}
use Rattle.mt_mounts.specs.declared.mount.Mount.{Mount}
use Rattle.mt_mounts.specs.declared.mount.Attrs.{Attrs}
use Rattle.mt_mounts.specs.declared.indexes.Indexes.{Indexes}
use Rattle.mt_mounts.specs.Forest.{id_of, mount_at, on, is_at, is_root, root_mount}
use Rattle.mt_mounts.specs.ForestView.{with_attrs, without_id}
use Rattle.mt_mounts.specs.Follow.{given_attrs}
use Rattle.mt_mounts.specs.Indexes.{IsIndexed, IsKeptForest}
use Rattle.mt_mounts.proofs.WrittenLaws.{IsWritten, but_written, put_written, without_written, without_absent, attrs_written}
use Rattle.mt_mounts.proofs.PlaceLaws.{IsAlone, alone_at, alone_root, alone_still, one_written}
use Rattle.mt_mounts.proofs.IndexLaws.{indexed_attrs}

-- the mount of an ID has that ID
pub mount_fits : (ms : List Mount) (i : ℕ) (m : Mount) → mount_at ms i ≡ Some m → m.id ≡ i
mount_fits ms i m e = row_at-key id_of i ms m e

module _ (ms : List Mount) (old new : Indexes) (since : List Mount) (noted : List ℕ) (f : IsKeptForest ms old since noted) (after then : List Mount) (all : List ℕ) where
  -- the mounts are as they were
  pub forest_same : after ≡ ms → IsIndexed ms new → AreAlikeBut all (mount_at then) (mount_at ms) → IsKeptForest after new then all
  forest_same e x k = subst (λ l. IsKeptForest l new then all) (sym e) (record { rising = f.rising; single = f.single; indexed = x; known = k })

  -- one was written where it is alone, and either that is noted or nothing has changed since then
  pub forest_written : (i : ℕ) (o : Option Mount) (rows : List Mount) → IsWritten ms i o rows → ((p : Place) → IsAlone (is_at p) ms i o) → ((n : ℕ) → IsAlone (is_root n) ms i o) → after ≡ rows
      → ((then ≡ since) × (all ≡ noted ++ i ∷ [])) ⊎ (then ≡ after) → IsIndexed rows new → IsKeptForest after new then all
  forest_written i o rows w at root e told x =
      subst (λ l. IsKeptForest l new then all) (sym e)
      (record {
        rising = w.rising;
        single = record {
          places = λ p. one_written (is_at p) ms i o rows f.rising w (f.single.places p) (at p);
          roots = λ n. one_written (is_root n) ms i o rows f.rising w (f.single.roots n) (root n);
        };
        indexed = x;
        known = elim told [
          | inl n ↦ subst (λ s. AreAlikeBut all (mount_at s) (mount_at rows)) (sym n.0) (alike-noted noted (i ∷ []) all (mount_at since) (mount_at ms) (mount_at rows) n.1 f.known (but_written ms i o rows w))
          | inr t ↦ λ q n. ap (λ l. mount_at l q) (t ∙ e)
        ];
      })

  -- a mount has come, or has gone
  pub forest_put : (m : Mount) → ForSome m.place (λ p. on ms p ≡ None) → (m.place ≡ None → root_mount ms m.space ≡ None) → after ≡ put id_of m ms
      → ((then ≡ since) × (all ≡ noted ++ m.id ∷ [])) ⊎ (then ≡ after) → IsIndexed (put id_of m ms) new → IsKeptForest after new then all
  forest_put m free rootless = forest_written m.id (Some m) (put id_of m ms) (put_written ms f.rising m) (alone_at ms m.id (Some m) free) (alone_root ms m.id (Some m) rootless)

  pub forest_without : (i : ℕ) (m : Mount) → mount_at ms i ≡ Some m → after ≡ without_id i ms → ((then ≡ since) × (all ≡ noted ++ m.id ∷ [])) ⊎ (then ≡ after) → (mount_at ms m.id ≡ Some m → IsIndexed (without_id m.id ms) new) → IsKeptForest after new then all
  forest_without i m there e told x =
      let fits = mount_fits ms i m there in
      forest_written m.id None (without_id m.id ms) (without_written ms f.rising m.id) (alone_at ms m.id None tt) (alone_root ms m.id None tt) (e ∙ ap (λ j. without_id j ms) (sym fits)) told (x (ap (mount_at ms) fits ∙ there))

-- none has gone, since none was there
pub forest_left : (ms : List Mount) (x : Indexes) (since : List Mount) (noted : List ℕ) → IsKeptForest ms x since noted → (after : List Mount) (i : ℕ) → mount_at ms i ≡ None → after ≡ without_id i ms → IsKeptForest after x since noted
forest_left ms x since noted f after i absent e = forest_same ms x x since noted f after since noted (e ∙ sym (without_absent ms f.rising i absent)) f.indexed f.known

-- one has other attributes
pub forest_attrs : (ms : List Mount) (x : Indexes) (since : List Mount) (noted : List ℕ) → IsKeptForest ms x since noted → (after then : List Mount) (all : List ℕ) (i : ℕ) (a : Attrs) → after ≡ with_attrs i a ms
    → ((then ≡ since) × (all ≡ noted ++ i ∷ [])) ⊎ (then ≡ after) → IsKeptForest after x then all
forest_attrs ms x since noted f after then all i a e told =
    forest_written ms x x since noted f after then all i (option_map (given_attrs a) (mount_at ms i)) (with_attrs i a ms) (attrs_written ms f.rising i (mount_at ms i) refl a)
    (λ p. alone_still (is_at p) (given_attrs a) (λ m. refl) ms (f.single.places p) i (mount_at ms i) refl) (λ n. alone_still (is_root n) (given_attrs a) (λ m. refl) ms (f.single.roots n) i (mount_at ms i) refl)
    e told (indexed_attrs ms x i a f.indexed)
