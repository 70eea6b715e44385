-- A room of 2 has twice the mounts of a room of 1. A room is given before there is a filesystem, and is 1 to 256 (this project's rule).
use Rattle.std.specs.Prelude.{◌≡◌, refl, [], ◌∷◌}
use Rattle.mt_examples.specs.Prelude.{room, mkfs, mount, ok, number, no, answers, answers_from, computed}
use Rattle.mt_examples.specs.TooManyMounts.{stacked, before}
use Rattle.mt_skel.specs.declared.fault.Fault.TheVariants.{TooMany}

pub rooms_that_are_none : answers (room 0 ∷ room 257 ∷ room 256 ∷ room 1 ∷ []) ≡ no TooMany ∷ no TooMany ∷ ok ∷ ok ∷ []
unfolding computed
rooms_that_are_none = refl

pub behind_a_filesystem : answers (room 2 ∷ mkfs "a" "tmpfs" "none" ∷ room 2 ∷ []) ≡ ok ∷ number 1 ∷ no TooMany ∷ []
unfolding computed
behind_a_filesystem = refl

-- the copies at two peers are one too many in a room of 1, and are not in one of 2
pub in_a_room_of_two : answers_from (stacked (room 2 ∷ before) 4 4092) (mount 1 "d" "/m" ∷ []) ≡ number 4096 ∷ []
unfolding computed
in_a_room_of_two = refl
