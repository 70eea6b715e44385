-- A well-formed world stays so where numbers are left out.
use Rattle.std.proofs.Common.{◌≡◌, ℕ, ◌≤◌, nat_lt, List, [], ◌∷◌, ◌++◌, length, Option, Result, Ok, Err, IfErr, OnOk, OnErr, refl, sym, ap, subst, ◌∙◌, inl, arith}
use Rattle.std.specs.Prelude.{◌^◌}
use Rattle.std.proofs.lemmas.Bool.Decides.{nat_tests}
use Rattle.std.proofs.lemmas.Option.{slice_get_within}
use Rattle.mt_skel.specs.Skeleton.{Skeleton, IsSkeleton, empty_skeleton, room_limit, given_room}
use Rattle.mt_propagate.specs.World.{WorldView, empty_world}
use Rattle.mt_propagate.specs.WellFormed.{IsWellFormed}
use Rattle.mt_propagate.proofs.GrownLaws.{grown-kept}
use Rattle.mt_info.specs.Laws.{Grows}
use Rattle.mt_info.proofs.GrownTables.{room_grows}
use Rattle.mt_skel.specs.Outcome.{refuse_if}
use Rattle.mt_skel.specs.declared.fault.Fault.{Fault}
use Rattle.mt_skel.specs.declared.fault.Fault.TheVariants.{TooMany}
use Rattle.mt_skel.proofs.OutcomeLaws.{not_refused, accepted}
use Rattle.mt_skel.proofs.SkeletonLaws.{roomed}
use Rattle.mt_world.specs.Hidden.{HasMoreHidden}
use Rattle.mt_world.specs.Made.{HasNoMounts, room_or_one}
use Rattle.mt_world.proofs.DirectoryLaws.{grows_same, more_same}

-- the world with these numbers
abbrev pub raised : WorldView → ℕ → ℕ → ℕ → WorldView
raised w group mount space = record w { peering = record w.peering { next = group }; next_mount = mount; next_space = space }

pub raised-kept : (w : WorldView) (group mount space : ℕ) → IsWellFormed w → w.peering.next ≤ group → w.next_mount ≤ mount → w.next_space ≤ space → IsWellFormed (raised w group mount space)
raised-kept w group mount space h g m s = record {
  forest = h.forest;
  peering = record {
    rising = h.peering.rising;
    below = λ i t n e is. let b = h.peering.below i t n e is in omega (arith, b, g);
    one_master = h.peering.one_master;
    master_lives = h.peering.master_lives;
    no_cycle = h.peering.no_cycle;
    unbindable_alone = h.peering.unbindable_alone;
  };
  same_mounts = h.same_mounts;
  from_one = (omega (arith, h.from_one.0, m), omega (arith, h.from_one.1, s));
  below = λ i x e. let b = h.below i x e in (b.0, omega (arith, b.1, m), b.2, omega (arith, b.3, s), b.4);
  group_fs = h.group_fs;
  master_fs = h.master_fs;
  trees = h.trees;
}

-- a world by its parts
pub raised_world : (w v : WorldView) → v.skel ≡ w.skel → v.forest ≡ w.forest → v.peering.peers ≡ w.peering.peers → v.trees ≡ w.trees → v.locks ≡ w.locks → v ≡ raised w v.peering.next v.next_mount v.next_space
raised_world w v skel forest peers trees locks i = record {
  skel = skel i;
  forest = forest i;
  peering = record { peers = peers i; next = v.peering.next };
  next_mount = v.next_mount;
  next_space = v.next_space;
  trees = trees i;
  locks = locks i;
}

-- a bare world stays bare
pub bare_raised : (w v : WorldView) → HasNoMounts w → v.skel ≡ w.skel → v.forest ≡ w.forest → v.peering.peers ≡ w.peering.peers → v.trees ≡ w.trees → v.locks ≡ w.locks → w.peering.next ≤ v.peering.next → w.next_mount ≤ v.next_mount → w.next_space ≤ v.next_space
    → v.peering.next ≤ 2 ^ 62 → v.next_mount ≤ 2 ^ 62 → v.next_space ≤ 2 ^ 62 → HasNoMounts v
bare_raised w v b skel forest peers trees locks g m s few_groups few_mounts few_spaces = record {
  sound = record {
    well_formed = subst IsWellFormed (sym (raised_world w v skel forest peers trees locks)) (raised-kept w v.peering.next v.next_mount v.next_space b.sound.well_formed g m s);
    skel = subst IsSkeleton (sym skel) b.sound.skel;
  };
  forest = forest ∙ b.forest;
  next_mount = few_mounts;
  next_space = few_spaces;
  next_group = few_groups;
}

-- and where filesystems are made
pub bare_grown : (w : WorldView) (t : Skeleton) → HasNoMounts w → IsSkeleton t → Grows w.skel t → HasNoMounts (record w { skel = t })
bare_grown w t b is g = record {
  sound = record { well_formed = grown-kept w t g.new_directories g.directories b.sound.well_formed; skel = is };
  forest = b.forest;
  next_mount = b.next_mount;
  next_space = b.next_space;
  next_group = b.next_group;
}

-- and with another room
abbrev room_refusals : Skeleton → ℕ → List (Option Fault)
room_refusals s k =
    refuse_if (nat_lt k 1) TooMany
    ∷ refuse_if (nat_lt room_limit k) TooMany
    ∷ refuse_if (nat_lt 0 (length s.filesystems)) TooMany ∷ []

bare_roomed : (w : WorldView) (t : Skeleton) (k : ℕ) → HasNoMounts w → given_room w.skel k ≡ Ok t → HasNoMounts (record w { skel = t })
bare_roomed w t k b e =
    let a = accepted (room_refusals w.skel k) (record w.skel { room = k }) t e in
    bare_grown w t b (subst IsSkeleton a.0 (roomed w.skel k b.sound.skel)) (room_grows w.skel t k (sym a.0))

-- so it stays bare where another one was asked for
pub bare_asked : {A : Type 0} (w : WorldView) (t : Skeleton) (k : ℕ) (r : Result A Fault) → HasNoMounts w → OnOk r (given_room w.skel k ≡ Ok t) → OnErr r (t ≡ w.skel) → HasNoMounts (record w { skel = t })
bare_asked w t k (Ok x) b done same = bare_roomed w t k b done
bare_asked w t k (Err f) b done same = bare_grown w t b (subst IsSkeleton (sym same) b.sound.skel) (subst (Grows w.skel) (sym same) (grows_same w.skel))

-- the room that an empty skeleton has then
room_given : (k : ℕ) (t : Skeleton) → given_room empty_skeleton k ≡ Ok t → t.room ≡ room_or_one k
room_given k t e =
    let a = accepted (room_refusals empty_skeleton k) (record empty_skeleton { room = k }) t e in
    let low = not_refused _ _ a.1.0 in
    let high = not_refused _ _ a.1.1.0 in
    let same : k ≡ room_or_one k = grind (arith, nat_tests) in
    ap (λ (s : Skeleton). s.room) (sym a.0) ∙ same

room_refused : (k : ℕ) (f : Fault) → given_room empty_skeleton k ≡ Err f → 1 ≡ room_or_one k
room_refused k f e = grind (arith, nat_tests)

pub room_asked : {A : Type 0} (s t : Skeleton) (k : ℕ) (r : Result A Fault) → s ≡ empty_skeleton → OnOk r (given_room s k ≡ Ok t) → IfErr r (λ f. given_room s k ≡ Err f) → OnErr r (t ≡ s) → t.room ≡ room_or_one k
room_asked s t k (Ok x) empty done refused same = room_given k t (ap (λ u. given_room u k) (sym empty) ∙ done)
room_asked s t k (Err f) empty done refused same = ap (λ (u : Skeleton). u.room) (same ∙ empty) ∙ room_refused k f (ap (λ u. given_room u k) (sym empty) ∙ refused)

-- numbers that were left out change nothing else
pub raised_beside : (n : ℕ) (w : WorldView) (group mount space : ℕ) → w.next_space ≤ space → HasMoreHidden n w (raised w group mount space)
raised_beside n w group mount space l = record {
  grown = record { skel = more_same w.skel; mounts = λ i m e. e; count = omega arith; spaces = omega arith };
  states = λ i m e. refl;
  numbers = l;
  more = λ i m e. inl e;
}

-- the empty world is bare
none_there : IsSkeleton empty_skeleton
none_there = record {
  names_once = λ i j f g e. absurd (omega (arith, slice_get_within [] i f e));
  once = λ i j d e. absurd (omega (arith, slice_get_within [] i d e));
  of_filesystem = λ i d e. absurd (omega (arith, slice_get_within [] i d e));
  parents = λ i fs path name e. absurd (omega (arith, slice_get_within [] i (record { fs = fs; path = path ++ name ∷ [] }) e));
  rooted = λ f l m. absurd (omega arith);
}

pub bare_new : (w : WorldView) → w ≡ empty_world → IsWellFormed w → HasNoMounts w
bare_new w e h = record {
  sound = record { well_formed = h; skel = subst IsSkeleton (ap (λ u. u.skel) (sym e)) none_there };
  forest = ap (λ u. u.forest) e;
  next_mount = omega (arith, ap (λ u. u.next_mount) e);
  next_space = omega (arith, ap (λ u. u.next_space) e);
  next_group = omega (arith, ap (λ u. u.peering.next) e);
}
