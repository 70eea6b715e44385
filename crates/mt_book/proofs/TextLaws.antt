-- The texts of the directories and filesystems of a world are those of the commands that made them.
use Rattle.std.proofs.Common.{◌≡◌, ℕ, ◌+◌, ◌*◌, ◌≤◌, Bool, true, false, List, [], ◌∷◌, ◌++◌, length, nat_le, Ok, IsTrue, refl, sym, subst, arith, length-append}
use Rattle.std.specs.List.{list_all, AllByRecursion}
use Rattle.std.proofs.lemmas.Bool.Decides.{nat_tests}
use Rattle.mt_skel.specs.Names.{is_label, is_name}
use Rattle.mt_skel.specs.Skeleton.{Skeleton, Directory, Filesystem, filesystem_limit, room_limit, filesystems_at_most, given_room, added_fs, added_dir}
use Rattle.mt_skel.proofs.MiddleLaws.{each_append}
use Rattle.mt_skel.proofs.SkeletonLaws.{room_within}
use Rattle.mt_propagate.specs.World.{WorldView, empty_world}
use Rattle.mt_book.specs.declared.command.Command.{Command}
use Rattle.mt_book.specs.declared.command.Command.TheVariants.{Room, MakeFs, MakeDir}
use Rattle.mt_book.specs.declared.command.Reply.{Reply}
use Rattle.mt_book.specs.Step.{act, step, makes_directories, next_world, after_from, after}
use Rattle.mt_book.specs.Commands.{IsCommand}
use Rattle.mt_book.proofs.SkelLaws.{room_accepted, fs_accepted, named_dir, dir_accepted}
use Rattle.mt_book.proofs.EffectLaws.{skel_ok, skel_kept, by_act, next_by}

-- a filesystem has labels, and a directory names
abbrev pub HasLabels : Filesystem → Type 0
HasLabels f = IsTrue (is_label f.kind) × IsTrue (is_label f.source)

abbrev pub HasNames : Directory → Type 0
HasNames d = IsTrue (list_all is_name d.path)

-- so do all that there are, and there are no more filesystems than the greatest room has
pub record HasTexts (s : Skeleton) : Type 0 where
  pub few : length s.filesystems ≤ filesystem_limit * room_limit
  pub labels : AllByRecursion HasLabels s.filesystems
  pub names : AllByRecursion HasNames s.directories

one_more : (s : Skeleton) (f : Filesystem) → nat_le (filesystems_at_most s) (length s.filesystems) ≡ false → length (s.filesystems ++ f ∷ []) ≤ filesystem_limit * room_limit
one_more s f e =
    let fewer : length s.filesystems + 1 ≤ filesystems_at_most s = grind (arith, nat_tests) in
    omega (arith, fewer, room_within s, length-append s.filesystems (f ∷ []))

-- another room
room_texts : (s t : Skeleton) (k : ℕ) → HasTexts s → given_room s k ≡ Ok t → HasTexts t
room_texts s t k h e = subst HasTexts (room_accepted s t k e) (record { few = h.few; labels = h.labels; names = h.names })

-- a filesystem more
fs_texts : (s t : Skeleton) (f : Filesystem) → HasTexts s → HasLabels f → added_fs s f ≡ Ok t → HasTexts t
fs_texts s t f h l e =
    let a = fs_accepted s f t e in
    let root : Directory = record { fs = length s.filesystems + 1; path = [] } in
    subst HasTexts a.skeleton (record {
      few = one_more s f a.few;
      labels = each_append HasLabels s.filesystems (f ∷ []) h.labels (l, tt);
      names = each_append HasNames s.directories (root ∷ []) h.names (refl, tt);
    })

-- a directory more
dir_texts : (s t : Skeleton) (name : List ℕ) (path : List (List ℕ)) → HasTexts s → IsTrue (list_all is_name path) → added_dir s name path ≡ Ok t → HasTexts t
dir_texts s t name path h l e =
    subst HasTexts (dir_accepted s name path t e).skeleton (record {
      few = h.few;
      labels = h.labels;
      names = each_append HasNames s.directories (named_dir s name path ∷ []) h.names (l, tt);
    })

-- an accepted command that makes directories
acted_texts : (w : WorldView) (c : Command) (v : WorldView) (r : Reply) → HasTexts w.skel → IsCommand c → makes_directories c ≡ true → act w c ≡ Ok (v, r) → HasTexts v.skel
unfolding act
acted_texts w (Room k) v r h l d e =
    let q = skel_ok w _ _ v r e in
    subst (λ (x : WorldView). HasTexts x.skel) (sym q.2) (room_texts w.skel q.0 k h q.1)
acted_texts w (MakeFs name kind source) v r h l d e =
    let q = skel_ok w _ _ v r e in
    subst (λ (x : WorldView). HasTexts x.skel) (sym q.2) (fs_texts w.skel q.0 _ h l q.1)
acted_texts w (MakeDir fs path) v r h l d e =
    let q = skel_ok w _ _ v r e in
    subst (λ (x : WorldView). HasTexts x.skel) (sym q.2) (dir_texts w.skel q.0 fs path h l q.1)
acted_texts w c v r h l d e = absurd (cc)

-- and any other one
step_texts : (w : WorldView) (c : Command) (v : WorldView) (r : Reply) → HasTexts w.skel → IsCommand c → step w c ≡ Ok (v, r) → HasTexts v.skel
step_texts w c v r h l e = by (makes_directories c) refl
  where
    by : (d : Bool) → makes_directories c ≡ d → HasTexts v.skel
    by true d = by_act w c v r (λ x. HasTexts x.skel) e (λ u a. acted_texts w c u r h l d a) (λ u l t. t)
    by false d = subst HasTexts (sym (skel_kept w c v r d e)) h

-- any command, also a refused one
pub next_texts : (w : WorldView) (c : Command) → HasTexts w.skel → IsCommand c → HasTexts (next_world w c).skel
next_texts w c h l = next_by (λ v. HasTexts v.skel) w c h (λ v r e. step_texts w c v r h l e)

from_texts : (w : WorldView) (cs : List Command) → HasTexts w.skel → AllByRecursion IsCommand cs → HasTexts (after_from w cs).skel
from_texts w [] h l = h
from_texts w (c ∷ cs) h l = from_texts (next_world w c) cs (next_texts w c h l.0) l.1

-- the world after commands has their texts
pub after_texts : (cs : List Command) → AllByRecursion IsCommand cs → HasTexts (after cs).skel
unfolding after
after_texts cs l = from_texts empty_world cs (record { few = omega arith; labels = tt; names = tt }) l
