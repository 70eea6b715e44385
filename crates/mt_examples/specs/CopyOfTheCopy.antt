-- A less privileged copy that is copied itself is no longer alone with its groups: what is mounted in it then shows in its own
-- copy too, as in any other copy of a namespace, and still not in the namespace that it was made of (mount_namespaces(7),
-- restrictions on mount namespaces).
use Rattle.std.specs.Prelude.{◌≡◌, refl, List, [], ◌∷◌, ◌++◌}
use Rattle.mt_examples.specs.Prelude.{Shared, Command, copyns, copyns_less, mount, make, number, answers_then, lines, shown, posted, shared_root, computed}

abbrev pub before : List Command
before = shared_root ++ copyns_less 1 ∷ make 2 "/" Shared ∷ copyns 2 ∷ []

abbrev pub mounted : List Command
mounted = before ++ mount 2 "d" "/m" ∷ []

pub table_of_3 : shown before 3
    ≡ lines ("3 3 0:1 / / rw,relatime shared:2 master:1 - tmpfs none rw" ∷ [])
unfolding computed
table_of_3 = refl

pub answered : answers_then before (mount 2 "d" "/m" ∷ []) ≡ number 4 ∷ []
unfolding computed
answered = refl

pub table_of_3_then : shown mounted 3
    ≡ lines (
    "3 3 0:1 / / rw,relatime shared:2 master:1 - tmpfs none rw"
    ∷ "5 3 0:2 / /m rw,relatime shared:3 - ext4 /dev/x rw" ∷ [])
unfolding computed
table_of_3_then = refl

pub told : posted before (mount 2 "d" "/m")
    ≡ (2, 3, [], lines ("4 2 0:2 / /m rw,relatime shared:3 - ext4 /dev/x rw" ∷ []))
    ∷ (3, 2, [], lines ("5 3 0:2 / /m rw,relatime shared:3 - ext4 /dev/x rw" ∷ [])) ∷ []
unfolding computed
told = refl

pub table_of_1_then : shown mounted 1
    ≡ lines ("1 1 0:1 / / rw,relatime shared:1 - tmpfs none rw" ∷ [])
unfolding computed
table_of_1_then = refl
