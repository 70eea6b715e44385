-- Whether a goal is met on the way up from a number is known from the next one, also where ways go in a ring.
use Rattle.std.proofs.Common.{◌≡◌, ℕ, ◌≤◌, true, false, ◌||◌, ◌==◌, List, [], ◌∷◌, ◌++◌, map, length, Option, Some, None, refl, sym, ap, arith}
use Rattle.std.specs.List.{flat_map, find, list_any}
use Rattle.std.specs.Option.{option_and_then, option_map, option_map_or, option_to_list, is_some}
use Rattle.std.proofs.lemmas.Bool.Decides.{nat_tests}
use Rattle.std.proofs.lemmas.List.{length-map}
use Rattle.mt_skel.specs.Chain.{chain}
use Rattle.mt_skel.specs.Keyed.{among}
use Rattle.mt_peers.specs.Peers.{Peer, in_group}
use Rattle.mt_peers.specs.Masters.{master_of, reaches}
use Rattle.mt_reach.specs.declared.row.SeenRow.{SeenRow}
use Rattle.mt_reach.specs.declared.upward.Step.{Step}
use Rattle.mt_reach.specs.declared.upward.Step.TheVariants.{ToMaster, ToTold, ToParent}
use Rattle.mt_reach.specs.Rows.{seen_id, seen_at, peer_in, peers_in}
use Rattle.mt_reach.specs.Tree.{seen_or_told, seen_parent_row, seen_parent, step_up, leads_up}
use Rattle.mt_reach.proofs.ShortLaws.{meets-next}

-- the groups of mounts
abbrev groups_in : List SeenRow → List ℕ
groups_in rows = flat_map (λ (r : SeenRow). option_to_list r.group) rows

groups_few : (rows : List SeenRow) → length (groups_in rows) ≤ length rows
groups_few [] = omega arith
groups_few (r ∷ rows) = go r.group (groups_few rows)
  where
    go : (o : Option ℕ) → length (groups_in rows) ≤ length rows → length (option_to_list o ++ groups_in rows) ≤ length (r ∷ rows)
    go None l = omega arith
    go (Some g) l = omega arith

-- a group that is found has a member
group_known : (rows : List SeenRow) (g : ℕ) → is_some (find (in_group g) (peers_in rows)) ≡ true → among (groups_in rows) g ≡ true
group_known [] g e = absurd (cc)
group_known (r ∷ rows) g e = grind (arith, nat_tests, group_known rows g)

-- and one that has a master is found
master_known : (rows : List SeenRow) (g m : ℕ) → master_of (peers_in rows) g ≡ Some m → among (groups_in rows) g ≡ true
master_known rows g m e = group_known rows g (go (find (in_group g) (peers_in rows)) e)
  where
    go : (o : Option Peer) → option_and_then (λ (e : Peer). e.state.master) o ≡ Some m → is_some o ≡ true
    go None e = absurd (cc)
    go (Some p) e = refl

told_known : (rows : List SeenRow) (g m : ℕ) → step_up rows ToTold g ≡ Some m → among (groups_in rows) g ≡ true
told_known rows g m e = go (master_of (peers_in rows) g) refl e
  where
    go : (o : Option ℕ) → master_of (peers_in rows) g ≡ o → option_and_then (seen_or_told rows) o ≡ Some m → among (groups_in rows) g ≡ true
    go None is f = absurd (cc)
    go (Some k) is f = master_known rows g k is

row_known : (rows : List SeenRow) (i : ℕ) → is_some (seen_at rows i) ≡ true → among (map seen_id rows) i ≡ true
row_known [] i e = absurd (cc)
row_known (r ∷ rows) i e = grind (arith, nat_tests, row_known rows i)

parent_known : (rows : List SeenRow) (i m : ℕ) → seen_parent rows i ≡ Some m → among (map seen_id rows) i ≡ true
parent_known rows i m e = row_known rows i (go (seen_at rows i) e)
  where
    go : (o : Option SeenRow) → option_map seen_id (option_and_then (seen_parent_row rows) o) ≡ Some m → is_some o ≡ true
    go None e = absurd (cc)
    go (Some r) e = refl

pub meets_up : (rows : List SeenRow) (step : Step) (goal h : ℕ) → leads_up rows step goal h ≡ ((h == goal) || option_map_or (leads_up rows step goal) (step_up rows step h) false)
meets_up rows ToMaster goal h = meets-next (step_up rows ToMaster) goal (groups_in rows) (master_known rows) (length rows) h (groups_few rows)
meets_up rows ToTold goal h = meets-next (step_up rows ToTold) goal (groups_in rows) (told_known rows) (length rows) h (groups_few rows)
meets_up rows ToParent goal h = let all = length-map rows seen_id in meets-next (step_up rows ToParent) goal (map seen_id rows) (parent_known rows) (length rows) h (omega arith)

-- to masters it is as states tell it
pub leads_reaches : (rows : List SeenRow) (goal h : ℕ) → leads_up rows ToMaster goal h ≡ reaches (peers_in rows) h goal
leads_reaches rows goal h = ap (λ n. list_any (λ k. k == goal) (chain (master_of (peers_in rows)) n h)) (sym (length-map rows peer_in))
