-- What the rows of all tables tell of peer groups.
-- A word with no source is this project's rule.
use Rattle.std.specs.Prelude.{ℕ, Bool, ◌||◌, nat_lt, if◌then◌else◌, Option, Some, None, is_some}
use Rattle.std.specs.BTreeMap.{BTreeMap, get}
use Rattle.std.specs.Option.{option_map_or, option_or}
use Rattle.std.specs.Ordering.{nat_cmp}
use Rattle.mt_import.specs.declared.groups.Group.{Group}

-- a member of a group is staged if others are bound from it: it has slaves or more than one member, or is needed besides
abbrev pub is_staged : Group → Bool
is_staged group = group.is_needed || nat_lt 1 group.members

-- a group, if others receive what is mounted on a member
abbrev pub receiving_in : Option Group → Option ℕ → Option ℕ
receiving_in None shared = None
receiving_in (Some group) shared = if is_staged group then shared else None

-- the group of a mount, if others receive what is mounted on it
unfoldable pub receiving : BTreeMap ℕ Group → Option ℕ → Option ℕ
receiving groups None = None
receiving groups (Some number) = receiving_in (get nat_cmp groups number) (Some number)

-- the group from whose staged member a mount is bound, if from one: its own, or its master
abbrev pub source_group : BTreeMap ℕ Group → Option ℕ → Option ℕ → Option ℕ
source_group groups shared master = option_or (receiving groups shared) master

-- the group of a mount that is alone in it, so that no other receives what is mounted on it
unfoldable pub lone_group : BTreeMap ℕ Group → Option ℕ → Option ℕ
lone_group groups shared = if is_some (receiving groups shared) then None else shared

-- the number that the server gives a group, if it is known
abbrev pub number_here : BTreeMap ℕ Group → ℕ → ℕ
number_here groups number = option_map_or (λ (group : Group). group.here) (get nat_cmp groups number) 0
