-- A session that comes last, and one that leaves.
use Rattle.std.proofs.Common.{◌≡◌, ℕ, ◌+◌, ◌≤◌, Bool, true, false, cond, not, eqb, eqb-true, ltb, nat_le, List, [], ◌∷◌, ◌++◌, length, Option, Some, None, slice_get, get_or, arith, refl, sym, ap, subst, length-append, ◌∙◌}
use Rattle.std.specs.List.{filter, list_all, position_from, remove}
use Rattle.std.specs.Option.{option_map}
use Rattle.std.proofs.lemmas.Bool.Decides.{nat_tests}
use Rattle.std.proofs.lemmas.Option.{get_or_from_slice_get}
use Rattle.mt_session.specs.declared.register.Entry.{Entry}
use Rattle.mt_skel.specs.Keyed.{rises, row_at, without}
use Rattle.mt_session.specs.Register.{RegisterView, IsRegister, entry_number, entry_kept, with_session, lets_in, without_session}
use Rattle.mt_skel.proofs.KeyedLaws.{rises-filter}
use Rattle.mt_skel.proofs.MiddleLaws.{row_mid, without_mid, remove_mid, get_mid}

module _ {T : Type 0} where
  -- one with a greater number comes last
  above_last : (k n : ℕ) (x : Entry T) (xs : List (Entry T)) → k ≤ n → x.number ≡ n + 1 → list_all (λ (e : Entry T). ltb k e.number) xs ≡ true → list_all (λ (e : Entry T). ltb k e.number) (xs ++ x ∷ []) ≡ true
  above_last k n x [] l e h = grind (arith, nat_tests)
  above_last k n x (y ∷ ys) l e h = grind (arith, nat_tests, above_last k n x ys l e)

  pub rises_last : (n : ℕ) (x : Entry T) (xs : List (Entry T)) → x.number ≡ n + 1 → list_all (λ (e : Entry T). nat_le e.number n) xs ≡ true → rises entry_number xs ≡ true → rises entry_number (xs ++ x ∷ []) ≡ true
  rises_last n x [] e b h = refl
  rises_last n x (y ∷ ys) e b h = grind (arith, nat_tests, rises_last n x ys e, above_last y.number n x ys)

  pub numbered_last : (n : ℕ) (x : Entry T) (xs : List (Entry T)) → x.number ≡ n + 1 → list_all (λ (e : Entry T). nat_le e.number n) xs ≡ true → list_all (λ (e : Entry T). nat_le e.number (n + 1)) (xs ++ x ∷ []) ≡ true
  numbered_last n x [] e b = grind (arith, nat_tests)
  numbered_last n x (y ∷ ys) e b = grind (arith, nat_tests, numbered_last n x ys e)

  -- the session of a number, with those before it and those after it
  record IsAt (q i : ℕ) (rs : List (Entry T)) (row : Entry T) : Type 0 where
    front : List (Entry T)
    back : List (Entry T)
    split : rs ≡ front ++ row ∷ back
    place : i ≡ length front
    is : row.number ≡ q

  found_from : (q n i : ℕ) (rs : List (Entry T)) → position_from (λ (e : Entry T). eqb e.number q) n rs ≡ Some i → (j : ℕ) × (row : Entry T) × (i ≡ n + j) × IsAt q j rs row
  found_from q n i [] e = absurd (cc)
  found_from q n i (r ∷ rs) e = by (eqb r.number q) refl e (found_from q (n + 1) i rs)
    where
      by : (b : Bool) → eqb r.number q ≡ b → cond b (Some n) (position_from (λ (e : Entry T). eqb e.number q) (n + 1) rs) ≡ Some i
          → (position_from (λ (e : Entry T). eqb e.number q) (n + 1) rs ≡ Some i → (j : ℕ) × (row : Entry T) × (i ≡ n + 1 + j) × IsAt q j rs row)
          → (j : ℕ) × (row : Entry T) × (i ≡ n + j) × IsAt q j (r ∷ rs) row
      by true is e ih =
          let same : n ≡ i = cc in
          (0, r, omega (arith, same), record { front = []; back = rs; split = refl; place = refl; is = eqb-true r.number q is })
      by false is e ih =
          let f = ih e in
          let at = f.3 in
          (f.0 + 1, f.1, omega (arith, f.2), record { front = r ∷ at.front; back = at.back; split = ap (λ l. r ∷ l) at.split; place = omega (arith, at.place); is = at.is })

  -- one more has a session
  pub is_entered : (r : RegisterView T) (kept : T) → IsRegister r → lets_in r ≡ true → IsRegister (with_session r kept)
  is_entered r kept is free =
      let x : Entry T = record { number = r.last + 1; kept = kept } in
      record {
        rising = rises_last r.last x r.entries refl is.numbered is.rising;
        numbered = numbered_last r.last x r.entries refl is.numbered;
        within = grind (arith, nat_tests, is.within, free, length-append r.entries (x ∷ []));
        parting = is.parting;
      }

  -- what a search for a number has found
  pub record IsFound (q i : ℕ) (rs : List (Entry T)) (row : Entry T) : Type 0 where
    pub got : slice_get rs i ≡ Some row
    pub at : row_at entry_number q rs ≡ Some row
    pub rest : remove rs i ≡ without (λ (e : Entry T). eqb e.number q) rs

  at_found : (q i : ℕ) (rs : List (Entry T)) (row : Entry T) → rises entry_number rs ≡ true → IsAt q i rs row → IsFound q i rs row
  at_found q i rs row h at =
      let rise : rises entry_number (at.front ++ row ∷ at.back) ≡ true = ap (rises entry_number) (sym at.split) ∙ h in
      let q_is : row.number ≡ q = at.is in
      record {
        got = (λ k. slice_get (at.split k) (at.place k)) ∙ get_mid at.front at.back row;
        at = (λ k. row_at entry_number (sym q_is k) (at.split k)) ∙ row_mid entry_number at.front at.back row rise;
        rest = (λ k. remove (at.split k) (at.place k)) ∙ remove_mid at.front at.back row ∙ sym (without_mid entry_number at.front at.back row rise) ∙ (λ k. without (λ (e : Entry T). eqb e.number (q_is k)) (sym at.split k));
      }

  pub found : (q i : ℕ) (rs : List (Entry T)) → rises entry_number rs ≡ true → position_from (λ (e : Entry T). eqb e.number q) 0 rs ≡ Some i → (row : Entry T) × IsFound q i rs row
  found q i rs h e =
      let f = found_from q 0 i rs e in
      (f.1, at_found q i rs f.1 h (subst (λ n. IsAt q n rs f.1) (omega (arith, f.2)) f.3))

  -- where none is found, there is none
  pub none_there : (q n : ℕ) (rs : List (Entry T)) → position_from (λ (e : Entry T). eqb e.number q) n rs ≡ None → row_at entry_number q rs ≡ None
  none_there q n [] e = refl
  none_there q n (r ∷ rs) e = grind (arith, nat_tests, none_there q (n + 1) rs)

  pub none_leaves : (q n : ℕ) (rs : List (Entry T)) → position_from (λ (e : Entry T). eqb e.number q) n rs ≡ None → without (λ (e : Entry T). eqb e.number q) rs ≡ rs
  none_leaves q n [] e = refl
  none_leaves q n (r ∷ rs) e = grind (arith, nat_tests, none_leaves q (n + 1) rs)

  -- fewer are within the limit
  shorter : (t : Entry T → Bool) (rs : List (Entry T)) → length (filter t rs) ≤ length rs
  shorter t [] = omega arith
  shorter t (r ∷ rs) = grind (arith, nat_tests, shorter t rs)

  all_left : (p t : Entry T → Bool) (rs : List (Entry T)) → list_all p rs ≡ true → list_all p (filter t rs) ≡ true
  all_left p t [] h = refl
  all_left p t (r ∷ rs) h = grind (arith, nat_tests, all_left p t rs)

  -- one session is over
  pub is_left : (q : ℕ) (r : RegisterView T) → IsRegister r → IsRegister (without_session q r)
  is_left q r is =
      let t : Entry T → Bool = λ (e : Entry T). not (eqb e.number q) in
      record {
        rising = rises-filter entry_number t r.entries is.rising;
        numbered = all_left (λ (e : Entry T). nat_le e.number r.last) t r.entries is.numbered;
        within = omega (arith, is.within, shorter t r.entries);
        parting = is.parting;
      }

  -- what a search of those in the register says of it: none is found
  pub none_found : (q : ℕ) (r : RegisterView T) (rs : List (Entry T)) (o : Option ℕ) → rs ≡ r.entries → o ≡ position_from (λ (e : Entry T). eqb e.number q) 0 rs → o ≡ None
      → (None ≡ option_map entry_kept (row_at entry_number q r.entries)) × (r ≡ without_session q r)
  none_found q r rs o same is what =
      let e : position_from (λ (e : Entry T). eqb e.number q) 0 r.entries ≡ None = ap (position_from (λ (e : Entry T). eqb e.number q) 0) (sym same) ∙ sym is ∙ what in
      (ap (option_map entry_kept) (sym (none_there q 0 r.entries e)), ap (λ (es : List (Entry T)). record r { entries = es }) (sym (none_leaves q 0 r.entries e)))

  -- one is found at this place
  pub one_found : (q i : ℕ) (r : RegisterView T) (rs : List (Entry T)) (o : Option ℕ) (x : Entry T) → IsRegister r → rs ≡ r.entries → o ≡ position_from (λ (e : Entry T). eqb e.number q) 0 rs → o ≡ Some i → x ≡ get_or r.entries i x
      → (Some x.kept ≡ option_map entry_kept (row_at entry_number q r.entries)) × (remove r.entries i ≡ (without_session q r).entries)
  one_found q i r rs o x good same is what got =
      let e : position_from (λ (e : Entry T). eqb e.number q) 0 r.entries ≡ Some i = ap (position_from (λ (e : Entry T). eqb e.number q) 0) (sym same) ∙ sym is ∙ what in
      let f = found q i r.entries good.rising e in
      let x_is : x ≡ f.0 = got ∙ get_or_from_slice_get r.entries i f.0 x f.1.got in
      (ap (λ (o : Option (Entry T)). option_map entry_kept o) (ap Some x_is ∙ sym f.1.at), f.1.rest)
