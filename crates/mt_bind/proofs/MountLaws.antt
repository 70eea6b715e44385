-- What a mount, a bind and a move make of a world, and that it stays well-formed.
use Rattle.std.proofs.Common.{◌≡◌, ℕ, Bool, true, false, List, Option, Some, Ok, sym, ap, ◌∙◌, subst, arith}
use Rattle.std.specs.Prelude.{unwrap_or}
use Rattle.mt_skel.specs.Outcome.{refusal_of}
use Rattle.mt_skel.specs.Skeleton.{directory, root_of}
use Rattle.mt_mounts.specs.declared.mount.Attrs.{Attrs}
use Rattle.mt_mounts.specs.declared.mount.Mount.{Mount}
use Rattle.mt_mounts.specs.declared.mount.Place.{Place}
use Rattle.mt_mounts.specs.Forest.{mount_at, is_below}
use Rattle.mt_mounts.specs.Walk.{walk}
use Rattle.mt_propagate.specs.World.{WorldView, space_of}
use Rattle.mt_propagate.specs.Named.{unknown, is_root_place, is_root_mount}
use Rattle.mt_propagate.specs.WellFormed.{IsWellFormed, fs_at}
use Rattle.mt_propagate.specs.Contained.{IsLocal}
use Rattle.mt_propagate.specs.Copies.{Source}
use Rattle.mt_propagate.specs.Copied.{copied}
use Rattle.mt_propagate.specs.Sound.{IsSource, IsDestination}
use Rattle.mt_propagate.proofs.WalkLaws.{walked}
use Rattle.mt_propagate.proofs.ContainedLaws.{below-space, ended-inside}
use Rattle.mt_propagate.proofs.MovedLaws.{source_kept}
use Rattle.mt_setattr.specs.declared.change.SetWords.{SetWords}
use Rattle.mt_setattr.specs.Words.{new_with}
use Rattle.mt_bind.specs.Sources.{fresh_with, source_at, tree_of}
use Rattle.mt_bind.specs.Mounting.{mounted_with, bound, moved}
use Rattle.mt_bind.proofs.AcceptedLaws.{path_end, fs_of, mount_with_accepted, bind_accepted, move_accepted}
use Rattle.mt_bind.proofs.TreeOfLaws.{below_self, tree_source, tree_below}
use Rattle.mt_bind.proofs.SourceLaws.{fresh_is_source, alone_is_source, alone_only, alone_shows, holds_there, no_zero, one_row, own_id, top_is, within_source, within_shows, within_below}

-- the end of a walk that is no root place is a destination
pub destination : (w : WorldView) (n : ℕ) (path : List (List ℕ)) (p : Place) → IsWellFormed w → walk w.skel w.forest n path ≡ Ok p → is_root_place w p ≡ false → IsDestination w p
destination w n path p h e off =
    let r = walked w n h path p e in
    record { there = (r.0.0, r.0.1, r.0.3); free = r.1 off }

-- a source tree comes to stand at a place of the namespace n, and copies of it at the targets
pub record IsCopying (n : ℕ) (w v : WorldView) : Type 0 where
  pub src : Source
  pub dest : Place
  pub made : copied w src dest ≡ v
  pub source : IsSource w src dest
  pub destination : IsDestination w dest
  pub near : IsLocal w src dest
  pub here : space_of w dest.mount ≡ n

-- so that the world stays well-formed
pub copying_keeps : (n : ℕ) (w v : WorldView) → IsWellFormed w → IsCopying n w v → IsWellFormed v
copying_keeps n w v h c = subst IsWellFormed c.made (source_kept w h c.src c.dest c.source c.destination)

-- a tree below a mount of the namespace is of it
near_below : (w : WorldView) → IsWellFormed w → (top n : ℕ) (ms : List Mount) (dest : Place) → ((i : ℕ) (m : Mount) → mount_at ms i ≡ Some m → is_below w.forest top i ≡ true) → space_of w top ≡ n → space_of w dest.mount ≡ n
    → (i : ℕ) (m q : Mount) → mount_at ms i ≡ Some m → mount_at w.forest i ≡ Some q → q.space ≡ space_of w dest.mount
near_below w h top n ms dest below at here i m q e f = sym (below-space w h top i q f (below i m e)) ∙ at ∙ sym here

fresh_near : (w : WorldView) → IsWellFormed w → (fs : ℕ) (attrs : Attrs) (dest : Place) → IsLocal w (fresh_with w fs attrs) dest
fresh_near w h fs attrs dest i m q e f = no_zero w h q (ap (mount_at w.forest) (sym (one_row (record unknown { root = root_of w.skel fs; attrs = attrs }) i m e).0) ∙ f)

-- where the place is the end of a path, off a root place
copying : (w v : WorldView) (n : ℕ) (path : List (List ℕ)) (src : Source) → IsWellFormed w → walk w.skel w.forest n path ≡ Ok (path_end w n path) → is_root_place w (path_end w n path) ≡ false → copied w src (path_end w n path) ≡ v
    → IsSource w src (path_end w n path) → (space_of w (path_end w n path).mount ≡ n → IsLocal w src (path_end w n path)) → IsCopying n w v
copying w v n path src h ended off made source near =
    let p = path_end w n path in
    let here = ended-inside w h n path (ap refusal_of ended) in
    record { src = src; dest = p; made = made; source = source; destination = destination w n path p h ended off; near = near here; here = here }

pub mount_copies : (w : WorldView) (n : ℕ) (name : List ℕ) (path : List (List ℕ)) (set : SetWords) (v : WorldView) (i : ℕ) → IsWellFormed w → mounted_with w n name path set ≡ Ok (v, i) → IsCopying n w v
mount_copies w n name path set v i h e =
    let a = mount_with_accepted w n name path set v i e in
    let fs = fs_of w name in
    let p = path_end w n path in
    let r = (walked w n h path p a.ended).0 in
    let low = holds_there w.skel r.0.root p.dir r.3 in
    let attrs = new_with set in
    copying w v n path (fresh_with w fs attrs) h a.ended a.off_root a.world (fresh_is_source w h fs attrs p (omega (arith, low))) (λ here. fresh_near w h fs attrs p)

-- a world stays well-formed through a mount that is accepted
pub mount_keeps : (w : WorldView) (n : ℕ) (name : List ℕ) (path : List (List ℕ)) (set : SetWords) (v : WorldView) (i : ℕ) → IsWellFormed w → mounted_with w n name path set ≡ Ok (v, i) → IsWellFormed v
mount_keeps w n name path set v i h e = copying_keeps n w v h (mount_copies w n name path set v i h e)

-- what is bound from the end of a walk is a source tree
pub bound_source : (w : WorldView) (n : ℕ) (from : List (List ℕ)) (recursive : Bool) (p dest : Place) → IsWellFormed w → walk w.skel w.forest n from ≡ Ok p → IsSource w (source_at w recursive p) dest
bound_source w n from true p dest h e = let r = (walked w n h from p e).0 in within_source w h p r.0 r.1 r.3 dest
bound_source w n from false p dest h e = let r = (walked w n h from p e).0 in alone_is_source w h p r.0 r.1 r.3 dest

-- whose top is the mount where the walk ends
pub bound_top : (w : WorldView) (n : ℕ) (from : List (List ℕ)) (recursive : Bool) (p : Place) → IsWellFormed w → walk w.skel w.forest n from ≡ Ok p → (source_at w recursive p).top.id ≡ p.mount
bound_top w n from true p h e = let r = (walked w n h from p e).0 in ap (λ (m : Mount). m.id) (top_is w h p r.0 r.1 r.3) ∙ own_id w h p r.0 r.1 r.3
bound_top w n from false p h e = let r = (walked w n h from p e).0 in ap (λ (m : Mount). m.id) (top_is w h p r.0 r.1 r.3) ∙ own_id w h p r.0 r.1 r.3

-- whose mounts are there, and show the filesystems that they show there
pub bound_shows : (w : WorldView) (n : ℕ) (from : List (List ℕ)) (recursive : Bool) (p : Place) → IsWellFormed w → walk w.skel w.forest n from ≡ Ok p → (i : ℕ) (m : Mount) → mount_at (source_at w recursive p).mounts i ≡ Some m
    → (y : Mount) × (mount_at w.forest i ≡ Some y) × ((directory w.skel m.root).fs ≡ fs_at w i)
bound_shows w n from true p h e i m f = let r = (walked w n h from p e).0 in within_shows w h p r.0 r.1 r.3 i m f
bound_shows w n from false p h e i m f = let r = (walked w n h from p e).0 in alone_shows w h p r.0 r.1 r.3 i m f

-- whose mounts are below the top
pub bound_below : (w : WorldView) (n : ℕ) (from : List (List ℕ)) (recursive : Bool) (p : Place) → IsWellFormed w → walk w.skel w.forest n from ≡ Ok p → (i : ℕ) (m : Mount) → mount_at (source_at w recursive p).mounts i ≡ Some m → is_below w.forest p.mount i ≡ true
bound_below w n from true p h e i m f = let r = (walked w n h from p e).0 in within_below w h p r.0 r.1 r.3 i m f
bound_below w n from false p h e i m f =
    let r = (walked w n h from p e).0 in
    subst (λ k. is_below w.forest p.mount k ≡ true) (sym (alone_only w h p r.0 r.1 r.3 i m f)) (below_self w h p.mount)

pub bind_copies : (w : WorldView) (n : ℕ) (recursive : Bool) (from to : List (List ℕ)) (v : WorldView) (i : ℕ) → IsWellFormed w → bound w n recursive from to ≡ Ok (v, i) → IsCopying n w v
bind_copies w n recursive from to v i h e =
    let a = bind_accepted w n recursive from to v i e in
    let s = path_end w n from in
    let p = path_end w n to in
    let src = source_at w recursive s in
    copying w v n to src h a.ended a.off_root a.world (bound_source w n from recursive s p h a.begun)
    (near_below w h s.mount n src.mounts p (bound_below w n from recursive s h a.begun) (ended-inside w h n from (ap refusal_of a.begun)))

-- and through a bind
pub bind_keeps : (w : WorldView) (n : ℕ) (recursive : Bool) (from to : List (List ℕ)) (v : WorldView) (i : ℕ) → IsWellFormed w → bound w n recursive from to ≡ Ok (v, i) → IsWellFormed v
bind_keeps w n recursive from to v i h e = copying_keeps n w v h (bind_copies w n recursive from to v i h e)

-- what moves is a source tree
pub moving_source : (w : WorldView) (n : ℕ) (from to : List (List ℕ)) (s p : Place) → IsWellFormed w → walk w.skel w.forest n from ≡ Ok s → is_root_mount w s ≡ false → walk w.skel w.forest n to ≡ Ok p → is_below w.forest s.mount p.mount ≡ false
    → IsSource w (tree_of w s.mount) p
moving_source w n from to s p h began placed ended outside =
    let q = (walked w n h from s began).0 in
    let r = (walked w n h to p ended).0 in
    tree_source w h s.mount q.0 q.1 p placed (λ u f. ap (λ (o : Option Mount). (unwrap_or o unknown).space) (sym f ∙ r.1) ∙ r.2 ∙ sym q.2) outside

pub move_copies : (w : WorldView) (n : ℕ) (from to : List (List ℕ)) (v : WorldView) → IsWellFormed w → moved w n from to ≡ Ok v → IsCopying n w v
move_copies w n from to v h e =
    let a = move_accepted w n from to v e in
    let s = path_end w n from in
    let p = path_end w n to in
    let q = (walked w n h from s a.begun).0 in
    copying w v n to (tree_of w s.mount) h a.ended a.off_root a.world (moving_source w n from to s p h a.begun a.placed a.ended a.outside)
    (near_below w h s.mount n (tree_of w s.mount).mounts p (tree_below w h s.mount q.0 q.1) (ended-inside w h n from (ap refusal_of a.begun)))

-- and through a move
pub move_keeps : (w : WorldView) (n : ℕ) (from to : List (List ℕ)) (v : WorldView) → IsWellFormed w → moved w n from to ≡ Ok v → IsWellFormed v
move_keeps w n from to v h e = copying_keeps n w v h (move_copies w n from to v h e)
