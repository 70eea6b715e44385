-- What is known of the stacks of a forest. No public clause cites this module.
-- A word with no source is this project's rule.
use Rattle.std.specs.Prelude.{◌≡◌, ◌≢◌, ◌⊎◌, ℕ, zero, suc, cond, Option, Some, None, min}
use Rattle.indexmap.specs.IndexMap.{get, spare}
use Rattle.mt_mounts.specs.declared.mount.Place.{Place}
use Rattle.mt_mounts.specs.declared.mount.Mount.{Mount}
use Rattle.mt_mounts.specs.declared.stacks.Reach.{Reach}
use Rattle.mt_mounts.specs.declared.stacks.Stacks.{Stacks}
use Rattle.mt_mounts.specs.Forest.{is_at, place_eq, root_place}

-- A number of steps, and the place at the other end of them.
abbrev pub reach : Place → ℕ → Reach
reach p n = record { place = p; steps = n }

-- From the place q, to which i steps lead from s, k more lead to t, and each place on the way knows how many lead to it from s.
abbrev pub leads : (Place → Option Place) → (Place → Option Reach) → Place → ℕ → ℕ → Place → Place → Type 0
leads next starts s i zero q t = q ≡ t
leads next starts s i (suc k) q t = (r : Place) × (next q ≡ Some r) × (starts r ≡ Some (reach s (suc i))) × leads next starts s (suc i) k r t

-- What is told of the end of each stack is so.
abbrev pub IsStacked : (Place → Option Place) → Stacks → Type 0
IsStacked next x = (s : Place) (e : Reach) → get place_eq x.ends s ≡ Some e → leads next (get place_eq x.starts) s 0 e.steps s e.place

-- No step leads to a root: its mount stands nowhere.
abbrev pub IsBare : Place → (Place → Option Place) → Type 0
IsBare root next = (q : Place) → next q ≢ Some root

-- A step leads to a root from one place at most.
abbrev pub StandsOnly : Place → Place → (Place → Option Place) → Type 0
StandsOnly place root next = (q : Place) → next q ≡ Some root → q ≡ place

-- The end e of a stack from s is one of before, and the place is not on its way, or the step from the place to the root was its last.
abbrev pub IsShortened : Place → Place → Option Reach → Place → Option Reach → Reach → Type 0
IsShortened place root start s old e =
    (((j : ℕ) → start ≢ Some (reach s j)) × (old ≡ Some e)) ⊎ ((i : ℕ) × (start ≡ Some (reach s i)) × (old ≡ Some (reach root (suc i))) × (e ≡ reach place i) × (s ≢ place))

-- The steps once a mount with this root stands at a place, and once none stands there.
abbrev pub linked : Place → Place → (Place → Option Place) → Place → Option Place
linked place root next q = cond (place_eq q place) (Some root) (next q)

abbrev pub unlinked : Place → (Place → Option Place) → Place → Option Place
unlinked place next q = cond (place_eq q place) None (next q)

-- The steps once a mount has come to its place, if it has one, and once it has gone.
abbrev pub come_to : Mount → (Place → Option Place) → Place → Option Place
come_to m next q = cond (is_at q m) (Some (root_place m)) (next q)

abbrev pub gone_from : Mount → (Place → Option Place) → Place → Option Place
gone_from m next q = cond (is_at q m) None (next q)

-- How many mounts there is room for.
abbrev pub stack_room : Stacks → ℕ
stack_room x = min (spare x.ends) (spare x.starts)
