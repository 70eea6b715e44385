-- Which groups are seen differently in one world than in another, and which mounts may tell another group because of that. A word
-- with no source is this project's rule.
use Rattle.std.specs.Prelude.{◌≡◌, ◌≢◌, ℕ, Bool, false, cond, ◌&&◌, ◌==◌, nat_eq, List, [], Option, Some, None}
use Rattle.std.specs.List.{cons_option}
use Rattle.std.specs.Option.{option_eq, option_map_or, option_and_then}
use Rattle.mt_peers.specs.Peers.{Peer, slaves}
use Rattle.mt_peers.specs.Masters.{master_of, reaches}
use Rattle.mt_peers.specs.Members.{master_at}
use Rattle.mt_propagate.specs.World.{WorldView, state_of, group_of, space_of, is_space}
use Rattle.mt_propagate.specs.FromGroup.{is_seen}

-- a group has the same master in both worlds, and can be seen in the same namespaces
pub record IsSteady (v w : WorldView) (g : ℕ) : Type 0 where
  pub master : master_of v.peering.peers g ≡ master_of w.peering.peers g
  pub seen : (n : ℕ) → is_seen v n g ≡ is_seen w n g

-- a group changes nothing that a mount tells of those above it: if it has slaves, it is steady
abbrev pub IsQuiet : WorldView → WorldView → ℕ → Type 0
IsQuiet v w g = slaves w.peering.peers g ≢ [] → IsSteady v w g

-- a group with slaves has the same master in both worlds
abbrev pub IsLedAlike : WorldView → WorldView → ℕ → Type 0
IsLedAlike v w g = slaves w.peering.peers g ≢ [] → master_of v.peering.peers g ≡ master_of w.peering.peers g

-- a mount has the same group, master and namespace in both worlds
abbrev pub is_alike : WorldView → WorldView → ℕ → Bool
is_alike v w i = option_eq nat_eq (group_of v i) (group_of w i) && option_eq nat_eq (state_of v i).master (state_of w i).master && (space_of v i == space_of w i)

-- the groups that a mount joined or left, or stays in with another master
abbrev pub groups_of_changed : WorldView → WorldView → ℕ → List ℕ
groups_of_changed v w i = cond (is_alike v w i) [] (cons_option (group_of v i) (cons_option (group_of w i) []))

-- a namespace is there in both worlds
abbrev pub lasts : WorldView → WorldView → ℕ → Bool
lasts v w n = is_space v n && is_space w n

-- the group that a mount has in the world u, if its namespace there is in both v and w
abbrev pub lasting_group : WorldView → WorldView → WorldView → ℕ → Option ℕ
lasting_group u v w i = option_and_then (λ (g : ℕ). cond (lasts v w (space_of u i)) (Some g) None) (group_of u i)

-- those of the groups that a mount joined or left, or stays in with another master, which it has in a namespace of both worlds
abbrev pub groups_lasting : WorldView → WorldView → ℕ → List ℕ
groups_lasting v w i = cond (is_alike v w i) [] (cons_option (lasting_group v v w i) (cons_option (lasting_group w v w i) []))

-- a mount is below a group: it is a slave of the group, or of one that has it above itself (`sharedsubtree`, mount states)
abbrev pub is_below_group : List Peer → ℕ → ℕ → Bool
is_below_group es g i = option_map_or (λ m. reaches es m g) (master_at es i) false
