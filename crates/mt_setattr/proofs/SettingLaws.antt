-- Attributes are changed one mount after the other, and a change that comes twice does what it does once.
use Rattle.std.proofs.Common.{◌≡◌, ℕ, zero, suc, ◌+◌, ◌<◌, Bool, true, false, cond, not, ◌||◌, ◌&&◌, eqb, eqb-true, ltb, nat_eq, List, [], ◌∷◌, map, take, length, get_or, Some, None, refl, ap₂, sym, ap, ◌∙◌, subst, arith}
use Rattle.std.specs.List.{list_all}
use Rattle.std.proofs.lemmas.Bool.Decides.{nat_tests}
use Rattle.mt_skel.specs.Keyed.{rises, among}
use Rattle.mt_skel.proofs.KeyedLaws.{rises-map}
use Rattle.mt_mounts.specs.declared.mount.Mount.{Mount}
use Rattle.mt_mounts.specs.declared.mount.Attrs.{Attrs}
use Rattle.mt_mounts.specs.declared.mount.Atime.{Atime}
use Rattle.mt_mounts.specs.declared.mount.Atime.TheVariants.{Relatime, Noatime, Strictatime}
use Rattle.mt_mounts.specs.Forest.{id_of, mount_at}
use Rattle.mt_mounts.specs.ForestView.{with_attrs}
use Rattle.mt_setattr.specs.declared.change.Change.{Change}
use Rattle.mt_setattr.specs.Change.{changed_mount, changed_attrs, changed_atime}

-- a change of no mount
pub none-changed : (c : Change) (ms : List Mount) → ms ≡ map (changed_mount c (among [])) ms
none-changed c [] = refl
none-changed c (m ∷ ms) = ap (λ t. m ∷ t) (none-changed c ms)

-- a change that comes twice
flag-twice : (a k s : Bool) → ((((a && not k) || s) && not k) || s) ≡ ((a && not k) || s)
flag-twice a k s = grind (arith, nat_tests)

atime-twice : (c : Change) (a : Atime) → changed_atime c (changed_atime c a) ≡ changed_atime c a
atime-twice c a = go c.set.noatime c.set.strictatime (c.set.relatime || c.clr.atime)
  where
    go : (n s r : Bool) → cond n Noatime (cond s Strictatime (cond r Relatime (cond n Noatime (cond s Strictatime (cond r Relatime a))))) ≡ cond n Noatime (cond s Strictatime (cond r Relatime a))
    go true s r = refl
    go false true r = refl
    go false false true = refl
    go false false false = refl

pub attrs-twice : (c : Change) (a : Attrs) → changed_attrs c (changed_attrs c a) ≡ changed_attrs c a
attrs-twice c a =
    let e1 = flag-twice a.ro c.clr.ro c.set.ro in
    let e2 = flag-twice a.nosuid c.clr.nosuid c.set.nosuid in
    let e3 = flag-twice a.nodev c.clr.nodev c.set.nodev in
    let e4 = flag-twice a.noexec c.clr.noexec c.set.noexec in
    let e5 = flag-twice a.nosymfollow c.clr.nosymfollow c.set.nosymfollow in
    let e6 = flag-twice a.nodiratime c.clr.nodiratime c.set.nodiratime in
    let e7 = atime-twice c a.atime in
    λ i. record { ro = e1 i; nosuid = e2 i; nodev = e3 i; noexec = e4 i; nosymfollow = e5 i; nodiratime = e6 i; atime = e7 i }

-- the chosen mounts are changed already, and then mount i too
module _ (c : Change) (s : ℕ → Bool) (i : ℕ) where
  abbrev and_i : ℕ → Bool
  and_i j = s j || nat_eq i j

  -- the attributes of a mount before and after, where its ID is not i
  other : (x a : Attrs) (b d e : Bool) → b ≡ false → d ≡ false → cond b a (cond e (changed_attrs c x) x) ≡ cond (e || d) (changed_attrs c x) x
  other x a false false true p q = refl
  other x a false false false p q = refl
  other x a true d e p q = absurd (cc)
  other x a false true e p q = absurd (cc)

  -- and where it is i
  this : (x : Attrs) (b d e : Bool) → b ≡ true → d ≡ true → cond b (changed_attrs c (cond e (changed_attrs c x) x)) (cond e (changed_attrs c x) x) ≡ cond (e || d) (changed_attrs c x) x
  this x true true true p q = attrs-twice c x
  this x true true false p q = refl
  this x false d e p q = absurd (cc)
  this x true false e p q = absurd (cc)

  -- the mounts above i are not i
  rest-above : (a : Attrs) (ms : List Mount) → list_all (λ m. ltb i m.id) ms ≡ true → with_attrs i a (map (changed_mount c s) ms) ≡ map (changed_mount c and_i) ms
  rest-above a [] h = refl
  rest-above a (m ∷ ms) h =
      let ih = rest-above a ms (grind (arith, nat_tests)) in
      let off : eqb m.id i ≡ false = grind (arith, nat_tests) in
      let off_too : eqb i m.id ≡ false = grind (arith, nat_tests) in
      ap₂ (λ (x : Attrs) (t : List Mount). (record m { attrs = x }) ∷ t) (other m.attrs a (eqb m.id i) (eqb i m.id) (s m.id) off off_too) ih

  one-more : (ms : List Mount) (m : Mount) → rises id_of ms ≡ true → mount_at (map (changed_mount c s) ms) i ≡ Some m
      → with_attrs i (changed_attrs c m.attrs) (map (changed_mount c s) ms) ≡ map (changed_mount c and_i) ms
  one-more [] m r h = refl
  one-more (x ∷ ms) m r h = go (eqb i x.id) refl h (λ t. one-more ms m (grind (arith, nat_tests)) t)
    where
      go : (b : Bool) → eqb i x.id ≡ b → cond b (Some (changed_mount c s x)) (mount_at (map (changed_mount c s) ms) i) ≡ Some m
          → (mount_at (map (changed_mount c s) ms) i ≡ Some m → with_attrs i (changed_attrs c m.attrs) (map (changed_mount c s) ms) ≡ map (changed_mount c and_i) ms)
          → with_attrs i (changed_attrs c m.attrs) (map (changed_mount c s) (x ∷ ms)) ≡ map (changed_mount c and_i) (x ∷ ms)
      go true e f ih =
          let is : changed_mount c s x ≡ m = cc in
          let on : eqb x.id i ≡ true = grind (arith, nat_tests) in
          let above : list_all (λ m. ltb i m.id) ms ≡ true = subst (λ k. list_all (λ m. ltb k m.id) ms ≡ true) (sym (eqb-true i x.id e)) (grind (arith, nat_tests)) in
          subst (λ (v : Mount). with_attrs i (changed_attrs c v.attrs) (map (changed_mount c s) (x ∷ ms)) ≡ map (changed_mount c and_i) (x ∷ ms)) is
          (ap₂ (λ (a : Attrs) (t : List Mount). (record x { attrs = a }) ∷ t) (this x.attrs (eqb x.id i) (eqb i x.id) (s x.id) on e) (rest-above (changed_attrs c (changed_mount c s x).attrs) ms above))
      go false e f ih =
          let off : eqb x.id i ≡ false = grind (arith, nat_tests) in
          ap₂ (λ (a : Attrs) (t : List Mount). (record x { attrs = a }) ∷ t) (other x.attrs (changed_attrs c m.attrs) (eqb x.id i) (eqb i x.id) (s x.id) off e) (ih f)

  not-there : (ms : List Mount) → mount_at (map (changed_mount c s) ms) i ≡ None → map (changed_mount c s) ms ≡ map (changed_mount c and_i) ms
  not-there [] h = refl
  not-there (x ∷ ms) h = go (eqb i x.id) refl h (not-there ms)
    where
      go : (b : Bool) → eqb i x.id ≡ b → cond b (Some (changed_mount c s x)) (mount_at (map (changed_mount c s) ms) i) ≡ None
          → (mount_at (map (changed_mount c s) ms) i ≡ None → map (changed_mount c s) ms ≡ map (changed_mount c and_i) ms)
          → map (changed_mount c s) (x ∷ ms) ≡ map (changed_mount c and_i) (x ∷ ms)
      go true q f ih = absurd (cc)
      go false q f ih = ap₂ (λ (a : Attrs) (t : List Mount). (record x { attrs = a }) ∷ t) (other x.attrs x.attrs false (eqb i x.id) (s x.id) refl q) (ih f)

-- the next one of a list
among-more : (ids : List ℕ) (k : ℕ) → k < length ids → (j : ℕ) → among (take (k + 1) ids) j ≡ (among (take k ids) j || nat_eq (get_or ids k 0) j)
among-more ids k l j = let n : k + 1 ≡ suc k = omega arith in rw n (go ids k l)
  where
    go : (ids : List ℕ) (k : ℕ) → k < length ids → among (take (suc k) ids) j ≡ (among (take k ids) j || nat_eq (get_or ids k 0) j)
    go [] k l = absurd (omega arith)
    go (x ∷ ids) zero l = grind (arith, nat_tests)
    go (x ∷ ids) (suc k) l = let ih = go ids k (omega arith) in grind (arith, nat_tests)

-- two tests that agree everywhere are one
pub same_tests : {f g : ℕ → Bool} → ((j : ℕ) → f j ≡ g j) → f ≡ g
same_tests same = λ t j. same j t

-- this many of a list are changed, and then the next one
module _ (c : Change) (ids : List ℕ) (k : ℕ) (old now : List Mount) (within : k < length ids) (so_far : now ≡ map (changed_mount c (among (take k ids))) old) where
  abbrev next : ℕ
  next = get_or ids k 0

  one_further : map (changed_mount c (λ j. among (take k ids) j || nat_eq next j)) old ≡ map (changed_mount c (among (take (k + 1) ids))) old
  one_further = ap (λ (s : ℕ → Bool). map (changed_mount c s) old) (sym (same_tests (λ j. among-more ids k within j)))

  pub set-step : (m : Mount) (a : Attrs) → rises id_of now ≡ true → mount_at now next ≡ Some m → a ≡ changed_attrs c m.attrs → with_attrs next a now ≡ map (changed_mount c (among (take (k + 1) ids))) old
  set-step m a r found is =
      let was : rises id_of old ≡ true = sym (rises-map id_of (changed_mount c (among (take k ids))) (λ x. refl) old) ∙ ap (rises id_of) (sym so_far) ∙ r in
      ap (λ (a : Attrs). with_attrs next a now) is
      ∙ ap (with_attrs next (changed_attrs c m.attrs)) so_far
      ∙ one-more c (among (take k ids)) next old m was (ap (λ (ms : List Mount). mount_at ms next) (sym so_far) ∙ found)
      ∙ one_further

  pub skip-step : mount_at now next ≡ None → now ≡ map (changed_mount c (among (take (k + 1) ids))) old
  skip-step found = so_far ∙ not-there c (among (take k ids)) next old (ap (λ (ms : List Mount). mount_at ms next) (sym so_far) ∙ found) ∙ one_further
