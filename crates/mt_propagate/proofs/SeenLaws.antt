-- A group is seen where one of its members is.
use Rattle.std.proofs.Common.{◌≡◌, ℕ, Bool, true, false, cond, ◌&&◌, ◌||◌, ◌==◌, List, [], ◌∷◌, map, refl, ap, ◌∙◌}
use Rattle.std.specs.List.{filter, list_any}
use Rattle.mt_peers.specs.Peers.{Peer, mount_of, in_group, members, names}
use Rattle.mt_skel.specs.Keyed.{among}
use Rattle.mt_propagate.specs.World.{WorldView, space_of}
use Rattle.mt_propagate.specs.FromGroup.{is_seen}

pub members-seen : (w : WorldView) (n g : ℕ) (es : List Peer) → list_any (λ i. space_of w i == n) (members es g) ≡ list_any (λ (e : Peer). names e.state.group g && (space_of w e.mount == n)) es
members-seen w n g [] = refl
members-seen w n g (e ∷ es) = go (in_group g e) (members-seen w n g es)
  where
    go : (b : Bool) → list_any (λ i. space_of w i == n) (members es g) ≡ list_any (λ (e : Peer). names e.state.group g && (space_of w e.mount == n)) es
        → list_any (λ i. space_of w i == n) (map mount_of (cond b (e ∷ filter (in_group g) es) (filter (in_group g) es)))
        ≡ ((b && (space_of w e.mount == n)) || list_any (λ (e : Peer). names e.state.group g && (space_of w e.mount == n)) es)
    go true ih = ap (λ b. (space_of w e.mount == n) || b) ih
    go false ih = ih

among-map : (f : ℕ → ℕ) (xs : List ℕ) (n : ℕ) → among (map f xs) n ≡ list_any (λ i. f i == n) xs
among-map f [] n = refl
among-map f (x ∷ xs) n = ap (λ b. (f x == n) || b) (among-map f xs n)

-- it is seen in the namespaces of its members
pub spaces-seen : (w : WorldView) (n g : ℕ) → among (map (space_of w) (members w.peering.peers g)) n ≡ is_seen w n g
spaces-seen w n g = among-map (space_of w) (members w.peering.peers g) n ∙ members-seen w n g w.peering.peers
