-- The difference of two tables, from the mounts that a change touched.
use Rattle.std.proofs.Common.{◌≡◌, ℕ, ◌+◌, ◌<◌, Bool, true, false, cond, not, ◌&&◌, eqb, ltb, List, [], ◌∷◌, ◌++◌, map, drop, length, get_or, append_assoc, Option, Some, None, refl, sym, ap, ◌∙◌, arith}
use Rattle.std.specs.List.{filter, list_all}
use Rattle.std.specs.Option.{option_map, option_map_or, option_and_then, option_to_list, unwrap_or, is_some}
use Rattle.std.proofs.lemmas.Bool.Decides.{nat_tests}
use Rattle.std.proofs.lemmas.List.{drop_more}
use Rattle.mt_skel.specs.Keyed.{row_at, has, rises, among}
use Rattle.mt_skel.proofs.KeyedLaws.{row_at-key, row_at-filter, rises-filter, same_rows, passing}
use Rattle.mt_skel.proofs.MiddleLaws.{and_first, and_second, and-true}
use Rattle.mt_skel.proofs.SortedLaws.{rises-keys}
use Rattle.mt_mounts.specs.declared.mount.Mount.{Mount}
use Rattle.mt_mounts.specs.Forest.{id_of, mount_at, in_space}
use Rattle.mt_propagate.specs.World.{WorldView}
use Rattle.mt_propagate.specs.Named.{mount_or_unknown, unknown}
use Rattle.mt_propagate.specs.WellFormed.{IsWellFormed}
use Rattle.mt_info.specs.declared.row.Row.{Row}
use Rattle.mt_info.specs.Table.{row_id, row_of, table_of}
use Rattle.mt_info.specs.SameRow.{row_eq}
use Rattle.mt_info.proofs.SameRowLaws.{row_eq-refl}
use Rattle.mt_events.specs.Posts.{itself}
use Rattle.mt_events.specs.Difference.{is_row_of, HoldsChanged}
use Rattle.mt_events.specs.ByMount.{collected, new_row}
use Rattle.mt_events.proofs.DifferenceLaws.{gone_is, row_seen}

-- what is found through a map that keeps the keys
module _ {X Y : Type 0} (key : X → ℕ) (code : Y → ℕ) (f : X → Y) (keeps : (x : X) → code (f x) ≡ key x) where
  row_at-mapped : (q : ℕ) (xs : List X) → row_at code q (map f xs) ≡ option_map f (row_at key q xs)
  row_at-mapped q [] = refl
  row_at-mapped q (x ∷ xs) =
      rw (keeps x) (elim (eqb q (key x)) as (λ b. cond b (Some (f x)) (row_at code q (map f xs)) ≡ option_map f (cond b (Some x) (row_at key q xs))) [ true ↦ refl | false ↦ row_at-mapped q xs ])

-- the row of a mount in a table
module _ (w : WorldView) (n i : ℕ) (h : IsWellFormed w) where
  row_by : (o : Option Mount) → mount_at w.forest i ≡ o → row_at row_id i (table_of w n) ≡ option_map (row_of w) (passing (in_space n) o)
  row_by o e =
      row_at-mapped id_of row_id (row_of w) (λ m. refl) i (filter (in_space n) w.forest) ∙ ap (option_map (row_of w)) (row_at-filter id_of (in_space n) i w.forest h.forest.rising)
      ∙ ap (λ o. option_map (row_of w) (passing (in_space n) o)) e

  pub row_nowhere : mount_at w.forest i ≡ None → row_at row_id i (table_of w n) ≡ None
  row_nowhere = row_by None

  pub row_by_space : (m : Mount) → mount_at w.forest i ≡ Some m → row_at row_id i (table_of w n) ≡ option_map (row_of w) (cond (eqb m.space n) (Some m) None)
  row_by_space m = row_by (Some m)

  pub row_elsewhere : (m : Mount) → mount_at w.forest i ≡ Some m → eqb m.space n ≡ false → row_at row_id i (table_of w n) ≡ None
  row_elsewhere m e other = row_by_space m e ∙ ap (λ b. option_map (row_of w) (cond b (Some m) None)) other

  pub row_there : (m : Mount) → mount_at w.forest i ≡ Some m → eqb m.space n ≡ true → row_at row_id i (table_of w n) ≡ Some (row_of w (mount_or_unknown w i))
  row_there m e here = row_by_space m e ∙ ap (λ b. option_map (row_of w) (cond b (Some m) None)) here ∙ ap (λ o. Some (row_of w (unwrap_or o unknown))) (sym e)

  pub has_by_space : (m : Mount) → mount_at w.forest i ≡ Some m → eqb m.space n ≡ has row_id i (table_of w n)
  has_by_space m e =
      elim (eqb m.space n) as (λ b. b ≡ is_some (option_map (row_of w) (cond b (Some m) None))) [ true ↦ refl | false ↦ refl ] ∙ sym (ap is_some (row_by_space m e))

  -- a row of the table is that of a mount
  row_is : (r : Row) → row_at row_id i (table_of w n) ≡ Some r → (m : Mount) × (mount_at w.forest i ≡ Some m) × (row_of w m ≡ r)
  row_is r at = by (mount_at w.forest i) refl
    where
      by : (o : Option Mount) → mount_at w.forest i ≡ o → (m : Mount) × (mount_at w.forest i ≡ Some m) × (row_of w m ≡ r)
      by None e = absurd (cc (row_nowhere e, at))
      by (Some m) e = (m, e, grind (arith, row_by_space m e, at))

-- the row of one mount, where its rows before and after are known
module _ (a b : List Row) (i : ℕ) (r : Row) (at : row_at row_id i b ≡ Some r) where
  new_by : (o : Option Row) → row_at row_id i a ≡ o → new_row a b i ≡ cond (option_map_or (λ s. row_eq s r) o false) None (Some r)
  new_by o old = ap (option_and_then (λ r. cond (is_row_of a r) None (Some r))) at ∙ ap (λ v. cond v None (Some r)) (row_seen a b i r o at old)

  pub new_arrived : row_at row_id i a ≡ None → new_row a b i ≡ Some r
  new_arrived = new_by None

  pub new_kept : (s : Row) → row_at row_id i a ≡ Some s → row_eq s r ≡ true → new_row a b i ≡ None
  new_kept s old same = new_by (Some s) old ∙ ap (λ v. cond v None (Some r)) same

  pub new_changed : (s : Row) → row_at row_id i a ≡ Some s → row_eq s r ≡ false → new_row a b i ≡ Some r
  new_changed s old other = new_by (Some s) old ∙ ap (λ v. cond v None (Some r)) other

-- a row that differs from the one that its mount had is new, and so is one whose mount was not there
pub new_other : (v w : WorldView) (n i : ℕ) → IsWellFormed v → IsWellFormed w → (row : Row) → row_at row_id i (table_of w n) ≡ Some row
    → ((x y : Mount) → mount_at v.forest i ≡ Some x → mount_at w.forest i ≡ Some y → row_eq (row_of v x) (row_of w y) ≡ false) → Some row ≡ new_row (table_of v n) (table_of w n) i
new_other v w n i h g row at other = by (row_at row_id i (table_of v n)) refl
  where
    by : (o : Option Row) → row_at row_id i (table_of v n) ≡ o → Some row ≡ new_row (table_of v n) (table_of w n) i
    by None old = sym (new_arrived (table_of v n) (table_of w n) i row at old)
    by (Some s) old =
        let x = row_is v n i h s old in
        let y = row_is w n i g row at in
        sym (new_changed (table_of v n) (table_of w n) i row at s old ((λ k. row_eq (sym x.2 k) (sym y.2 k)) ∙ other x.0 y.0 x.1 y.1))

-- one number more of those for which is collected
pub collected-step : {X : Type 0} (f : ℕ → Option X) (ids : List ℕ) (i d : ℕ) (out more all : List X) (o : Option X) → i < length ids → out ++ collected f (drop i ids) ≡ all → o ≡ f (get_or ids i d)
    → more ≡ out ++ option_to_list o → more ++ collected f (drop (i + 1) ids) ≡ all
collected-step f ids i d out more all o l before is e =
    ap (λ t. t ++ collected f (drop (i + 1) ids)) e ∙ append_assoc out (option_to_list o) (collected f (drop (i + 1) ids)) ∙ ap (λ v. out ++ (option_to_list v ++ collected f (drop (i + 1) ids))) is
    ∙ ap (λ t. out ++ collected f t) (sym (drop_more ids i d l)) ∙ before

-- rows that are collected number by number
module _ {X : Type 0} (key : X → ℕ) (f : ℕ → Option X) (named : (i : ℕ) (x : X) → f i ≡ Some x → key x ≡ i) where
  above : (k : ℕ) (ids : List ℕ) → list_all (λ i. ltb k (itself i)) ids ≡ true → list_all (λ x. ltb k (key x)) (collected f ids) ≡ true
  above k [] h = refl
  above k (i ∷ ids) h = let key_is = λ (x : X). named i x in grind (arith, nat_tests, above k ids, key_is)

  rises_collected : (ids : List ℕ) → rises itself ids ≡ true → rises key (collected f ids) ≡ true
  rises_collected [] h = refl
  rises_collected (i ∷ ids) h = go (f i) refl (above i ids (and_first _ _ h)) (rises_collected ids (and_second _ _ h))
    where
      go : (o : Option X) → f i ≡ o → list_all (λ x. ltb i (key x)) (collected f ids) ≡ true → rises key (collected f ids) ≡ true → rises key (option_to_list o ++ collected f ids) ≡ true
      go None e low ih = ih
      go (Some x) e low ih = and-true (list_all (λ y. ltb (key x) (key y)) (collected f ids)) (rises key (collected f ids)) (ap (λ k. list_all (λ y. ltb k (key y)) (collected f ids)) (named i x e) ∙ low) ih

  row_at_collected : (q : ℕ) (ids : List ℕ) → row_at key q (collected f ids) ≡ cond (among ids q) (f q) None
  row_at_collected q [] = refl
  row_at_collected q (i ∷ ids) =
      let key_is = λ (x : X). named i x in
      let same : i ≡ q → f i ≡ f q = ap f in
      grind (arith, nat_tests, row_at_collected q ids, key_is, same)

  pub collected_is : (ids : List ℕ) (xs : List X) → rises itself ids ≡ true → rises key xs ≡ true → ((i : ℕ) → among ids i ≡ false → f i ≡ None) → ((i : ℕ) → row_at key i xs ≡ f i) → collected f ids ≡ xs
  collected_is ids xs r s out at = same_rows key (collected f ids) xs (rises_collected ids r) s (λ q. grind (arith, row_at_collected q ids, out q, at q))

-- the two parts of a difference, where a list has every mount that differs
module _ (a b : List Row) (ids : List ℕ) (rising : rises itself ids ≡ true) (h : HoldsChanged a b ids) where
  -- no other mount has a new row
  new_out : (i : ℕ) → among ids i ≡ false → new_row a b i ≡ None
  new_out i out = by (row_at row_id i b) refl
    where
      by : (o : Option Row) → row_at row_id i b ≡ o → new_row a b i ≡ None
      by None at = ap (option_and_then (λ r. cond (is_row_of a r) None (Some r))) at
      by (Some r) at = new_kept a b i r at r (h i out ∙ at) (row_eq-refl r)

  -- the rows that are new, by their mounts
  new_at : rises row_id b ≡ true → (i : ℕ) → row_at row_id i (filter (λ r. not (is_row_of a r)) b) ≡ new_row a b i
  new_at rb i = grind (arith, row_at-filter row_id (λ r. not (is_row_of a r)) i b rb)

  pub new_rows_are : rises row_id b ≡ true → collected (new_row a b) ids ≡ filter (λ r. not (is_row_of a r)) b
  new_rows_are rb =
      let news : List Row = filter (λ r. not (is_row_of a r)) b in
      collected_is row_id (new_row a b) (λ i x e. row_at-key row_id i news x (new_at rb i ∙ e)) ids news rising (rises-filter row_id (λ r. not (is_row_of a r)) b rb) new_out (new_at rb)

  -- what is among the numbers that pass a test, and the number that is found
  among_filter : (p : ℕ → Bool) (q : ℕ) (xs : List ℕ) → among (filter p xs) q ≡ (among xs q && p q)
  among_filter p q [] = refl
  among_filter p q (x ∷ xs) = let ih = among_filter p q xs in grind (arith, nat_tests)

  number_at : (q : ℕ) (xs : List ℕ) → row_at itself q xs ≡ cond (among xs q) (Some q) None
  number_at q [] = refl
  number_at q (i ∷ xs) = let ih = number_at q xs in grind (arith, nat_tests)

  -- a mount left if it is listed, and the first table alone has it
  gone_at : (q : ℕ) → among (filter (λ i. has row_id i a && not (has row_id i b)) ids) q ≡ among (map row_id (filter (λ (r : Row). not (has row_id r.id b)) a)) q
  gone_at q =
      let same : among ids q ≡ false → has row_id q a ≡ has row_id q b = λ out. ap is_some (h q out) in
      let listed : (among ids q && (has row_id q a && not (has row_id q b))) ≡ (has row_id q a && not (has row_id q b)) = grind (arith, nat_tests) in
      among_filter (λ i. has row_id i a && not (has row_id i b)) q ids ∙ listed ∙ sym (gone_is q a b)

  pub gone_are : rises row_id a ≡ true → filter (λ i. has row_id i a && not (has row_id i b)) ids ≡ map row_id (filter (λ (r : Row). not (has row_id r.id b)) a)
  gone_are ra =
      let here : List ℕ = filter (λ i. has row_id i a && not (has row_id i b)) ids in
      let left : List Row = filter (λ (r : Row). not (has row_id r.id b)) a in
      same_rows itself here (map row_id left) (rises-filter itself (λ i. has row_id i a && not (has row_id i b)) ids rising)
      (rises-keys row_id left ∙ rises-filter row_id (λ (r : Row). not (has row_id r.id b)) a ra)
      (λ q. number_at q here ∙ ap (λ v. cond v (Some q) None) (gone_at q) ∙ sym (number_at q (map row_id left)))
