-- A detach takes a mount away with all that stands on it, and its copies in other namespaces with it, where an unmount is
-- refused (umount2(2), MNT_DETACH and EBUSY; `sharedsubtree`, unmount semantics).
use Rattle.std.specs.Prelude.{◌≡◌, refl, List, [], ◌∷◌, ◌++◌}
use Rattle.mt_examples.specs.Prelude.{Command, mkdir, copyns, mount, umount, detach, ok, number, no, answers_then, lines, shown, posted, shared_root, computed}
use Rattle.mt_skel.specs.declared.fault.Fault.TheVariants.{Busy, NotMountRoot}

abbrev pub before : List Command
before = mkdir "d" "/u" ∷ copyns 1 ∷ mount 1 "d" "/m" ∷ mount 1 "a" "/m/u" ∷ []

pub answered : answers_then shared_root (before ++ umount 1 "/m" ∷ detach 1 "/m" ∷ detach 1 "/m" ∷ []) ≡ ok ∷ number 2 ∷ number 3 ∷ number 5 ∷ no Busy ∷ ok ∷ no NotMountRoot ∷ []
unfolding computed
answered = refl

pub posts : posted (shared_root ++ before) (detach 1 "/m") ≡ (1, 5, 3 ∷ 5 ∷ [], []) ∷ (2, 4, 4 ∷ 6 ∷ [], []) ∷ []
unfolding computed
posts = refl

pub table_of_2 : shown (shared_root ++ before ++ detach 1 "/m" ∷ []) 2 ≡ lines ("2 2 0:1 / / rw,relatime shared:1 - tmpfs none rw" ∷ [])
unfolding computed
table_of_2 = refl
