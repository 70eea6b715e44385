-- Rows whose fields are equal are equal: that the group above the master fits is no second fact.
use Rattle.std.proofs.Common.{◌≡◌, ℕ, Option, true, refl, ap}
use Rattle.std.specs.Bool.{IsTrue}
use mathlib.Core.Path.{PathP}
use mathlib.Core.HLevel.{is_prop→PathP}
use mathlib.Core.Bool.{Bool-set}
use Rattle.mt_skel.specs.Skeleton.{Directory, Filesystem, directory, filesystem}
use Rattle.mt_mounts.specs.declared.mount.Mount.{Mount}
use Rattle.mt_peers.specs.declared.state.State.{State}
use Rattle.mt_propagate.specs.World.{WorldView, state_of}
use Rattle.mt_propagate.specs.FromGroup.{from_group}
use Rattle.mt_info.specs.declared.row.Row.{Row}
use Rattle.mt_info.specs.Beside.{fits_master}
use Rattle.mt_info.specs.Table.{mount_point, row_of}

-- that it fits, along paths between groups
fits_along : {v w m n : Option ℕ} (via : v ≡ w) (master : m ≡ n) (f : IsTrue (fits_master v m)) (g : IsTrue (fits_master w n)) → PathP (λ i. IsTrue (fits_master (via i) (master i))) f g
fits_along via master f g = is_prop→PathP (λ i. IsTrue (fits_master (via i) (master i))) (λ i. Bool-set (fits_master (via i) (master i)) true) f g

pub row_same : (r s : Row) → r.id ≡ s.id → r.parent ≡ s.parent → r.minor ≡ s.minor → r.root ≡ s.root → r.point ≡ s.point → r.attrs ≡ s.attrs
    → r.shared ≡ s.shared → r.master ≡ s.master → r.via ≡ s.via → r.unbindable ≡ s.unbindable → r.kind ≡ s.kind → r.source ≡ s.source → r ≡ s
row_same r s id parent minor root point attrs shared master via unbindable kind source =
    λ i. record {
      id = id i;
      parent = parent i;
      minor = minor i;
      root = root i;
      point = point i;
      attrs = attrs i;
      shared = shared i;
      master = master i;
      via = via i;
      unbindable = unbindable i;
      kind = kind i;
      source = source i;
      beside = fits_along via master r.beside s.beside i;
    }

-- a mount has one row in two worlds that have what it shows alike
pub row_alike : (v w : WorldView) (m : Mount) → directory v.skel m.root ≡ directory w.skel m.root
    → filesystem v.skel (directory v.skel m.root).fs ≡ filesystem w.skel (directory w.skel m.root).fs
    → mount_point v m.id ≡ mount_point w m.id → state_of v m.id ≡ state_of w m.id → from_group v m.id ≡ from_group w m.id → row_of v m ≡ row_of w m
row_alike v w m root fs point state via =
    row_same (row_of v m) (row_of w m) refl refl (ap (λ (d : Directory). d.fs) root) (ap (λ (d : Directory). d.path) root) point refl
    (ap (λ (s : State). s.group) state) (ap (λ (s : State). s.master) state) via (ap (λ (s : State). s.unbindable) state)
    (ap (λ (f : Filesystem). f.kind) fs) (ap (λ (f : Filesystem). f.source) fs)
