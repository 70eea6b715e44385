-- A detached tree of a shared mount: what is mounted at its peer does not come to it, what is mounted in it comes out, and an
-- unmount reaches it. Attached, its mount is the peer that it was, and the tree is there no more (open_tree(2), move_mount(2)).
use Rattle.std.specs.Prelude.{◌≡◌, refl, true, false, List, [], ◌∷◌, ◌++◌}
use Rattle.mt_skel.specs.declared.fault.Fault.TheVariants.{Detached, NoNamespace}
use Rattle.mt_examples.specs.Prelude.{Command, mount, umount, opentree, movetree, ok, no, number, answers_then, lines, shown, posted, exists, shared_root, computed}

abbrev pub opened : List Command
opened = shared_root ++ opentree 1 "/" false ∷ []

pub table_of_tree : shown opened 2
    ≡ lines ("2 2 0:1 / / rw,relatime shared:1 - tmpfs none rw" ∷ [])
unfolding computed
table_of_tree = refl

pub outside : posted opened (mount 1 "d" "/m")
    ≡ (1, 3, [], lines ("3 1 0:2 / /m rw,relatime shared:2 - ext4 /dev/x rw" ∷ [])) ∷ []
unfolding computed
outside = refl

pub inside : posted opened (mount 2 "d" "/m")
    ≡ (1, 3, [], lines ("4 1 0:2 / /m rw,relatime shared:2 - ext4 /dev/x rw" ∷ []))
    ∷ (2, 2, [], lines ("3 2 0:2 / /m rw,relatime shared:2 - ext4 /dev/x rw" ∷ [])) ∷ []
unfolding computed
inside = refl

pub unmounted : posted (opened ++ mount 2 "d" "/m" ∷ []) (umount 1 "/m")
    ≡ (1, 4, 4 ∷ [], []) ∷ (2, 3, 3 ∷ [], []) ∷ []
unfolding computed
unmounted = refl

abbrev pub attached : List Command
attached = opened ++ movetree 2 1 "/m" ∷ []

pub answered : answers_then opened (umount 2 "/m" ∷ movetree 2 1 "/m" ∷ opentree 2 "/" true ∷ opentree 1 "/m" true ∷ [])
    ≡ no Detached ∷ ok ∷ no NoNamespace ∷ number 3 ∷ []
unfolding computed
answered = refl

pub table_of_1_then : shown attached 1
    ≡ lines (
    "1 1 0:1 / / rw,relatime shared:1 - tmpfs none rw"
    ∷ "2 1 0:1 / /m rw,relatime shared:1 - tmpfs none rw" ∷ [])
unfolding computed
table_of_1_then = refl

pub gone : exists attached 2 ≡ false
unfolding computed
gone = refl
