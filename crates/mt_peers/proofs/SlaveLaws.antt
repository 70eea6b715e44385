-- Whether any mount has a master.
use Rattle.std.proofs.Common.{◌≡◌, ℕ, false, ltb, List, [], ◌∷◌, length, refl, arith}
use Rattle.std.proofs.lemmas.Bool.Decides.{nat_tests}
use Rattle.std.specs.List.{list_any}
use Rattle.mt_lists.specs.Numbered.{rows_by}
use Rattle.mt_peers.specs.Peers.{Peer, mount_of, slaves, is_slave}
use Rattle.mt_peers.specs.Listed.{leader_of}

-- the list of slaves is empty where there is none
pub any-listed : (es : List Peer) → ltb 0 (length (rows_by mount_of leader_of es)) ≡ list_any is_slave es
any-listed [] = refl
any-listed (e ∷ es) = grind (arith, nat_tests, any-listed es)

-- then no group has one
pub no-slaves : (es : List Peer) (g : ℕ) → list_any is_slave es ≡ false → slaves es g ≡ []
no-slaves [] g none = refl
no-slaves (e ∷ es) g none = grind (arith, no-slaves es g)
