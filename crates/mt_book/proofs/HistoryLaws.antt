-- The posts of lists of commands.
use Rattle.std.proofs.Common.{◌≡◌, ◌⊎◌, inl, inr, ℕ, zero, suc, ◌+◌, ◌-◌, ◌<◌, ◌≤◌, Bool, true, false, cond, ◌==◌, eqb-true, List, [], ◌∷◌, ◌++◌, map, length, Option, Some, None, slice_get, Ok, refl, sym, ap, ◌∙◌, subst, arith, append_assoc, length-append, true≢false}
use Rattle.std.specs.List.{filter, filter_map, cons_option, range_with_len}
use Rattle.std.specs.Option.{option_to_list}
use Rattle.std.proofs.lemmas.Bool.{false_from_ne_true}
use Rattle.std.proofs.lemmas.Bool.Decides.{nat_tests, leb_tells}
use Rattle.std.proofs.lemmas.List.{append-nil}
use Rattle.std.proofs.lemmas.List.Elements.{filter-append}
use Rattle.mt_skel.specs.Skeleton.{IsSkeleton}
use Rattle.mt_mounts.specs.declared.mount.Mount.{Mount}
use Rattle.mt_mounts.specs.Forest.{id_of}
use Rattle.mt_propagate.specs.World.{WorldView, empty_world, is_space}
use Rattle.mt_propagate.specs.WellFormed.{IsWellFormed}
use Rattle.mt_skel.proofs.ElementLaws.{in_row}
use Rattle.mt_info.specs.Table.{row_of, table_of}
use Rattle.mt_info.proofs.TableLaws.{table_rises}
use Rattle.mt_propagate.proofs.RowLaws.{none-picked}
use Rattle.mt_events.specs.Posts.{PostView}
use Rattle.mt_events.specs.declared.post.Delta.{Delta}
use Rattle.mt_events.specs.Difference.{difference, with_delta, is_empty, delta_of, post_of, with_posts}
use Rattle.mt_events.specs.Following.{space_posts}
use Rattle.mt_events.proofs.DifferenceLaws.{applied-difference}
use Rattle.mt_events.proofs.EmptyLaws.{empty-equal}
use Rattle.mt_book.specs.declared.command.Command.{Command}
use Rattle.mt_book.specs.declared.command.Reply.{Reply}
use Rattle.mt_book.specs.Step.{step, next_world, after_from, after}
use Rattle.mt_book.specs.History.{events_from, events, space_number, posts_of, posts_from}
use Rattle.mt_book.specs.Laws.{IsTableAsOf}
use Rattle.mt_book.proofs.EffectLaws.{next_by}
use Rattle.mt_book.proofs.StepLaws.{step_kept}
use Rattle.mt_book.proofs.HasLaws.{Has, has_space, out_nowhere}
use Rattle.mt_book.proofs.GrowthLaws.{reached}
use Rattle.mt_book.proofs.DirectoryLaws.{no_post}
use Rattle.mt_book.proofs.RiseLaws.{step_rises}

-- the posts of commands, and then those of the commands after them
pub posts_from-append : (before xs ys : List Command) → posts_from before (xs ++ ys) ≡ posts_from before xs ++ posts_from (before ++ xs) ys
posts_from-append before [] ys = ap (λ l. posts_from l ys) (sym (append-nil before))
posts_from-append before (x ∷ xs) ys =
    ap (λ l. posts_of before x ++ l) (posts_from-append (before ++ x ∷ []) xs ys ∙ ap (λ l. posts_from (before ++ x ∷ []) xs ++ posts_from l ys) (append_assoc before (x ∷ []) xs))
    ∙ sym (append_assoc (posts_of before x) (posts_from (before ++ x ∷ []) xs) (posts_from (before ++ x ∷ xs) ys))

-- ---- worlds after commands

pub record IsGood (w : WorldView) : Type 0 where
  pub formed : IsWellFormed w
  pub skeleton : IsSkeleton w.skel

pub step_good : (w : WorldView) (c : Command) (v : WorldView) (r : Reply) → IsGood w → step w c ≡ Ok (v, r) → IsGood v
step_good w c v r h e = let k = step_kept w c v r h.formed h.skeleton e in record { formed = k.0; skeleton = k.1 }

pub next_good : (w : WorldView) (c : Command) → IsGood w → IsGood (next_world w c)
next_good w c h = next_by IsGood w c h (λ v r e. step_good w c v r h e)

pub after_good : (cs : List Command) → IsGood (after cs)
after_good cs = let k = reached cs in record { formed = k.well_formed; skeleton = k.skeleton }

after_from-append : (w : WorldView) (xs ys : List Command) → after_from w (xs ++ ys) ≡ after_from (after_from w xs) ys
after_from-append w [] ys = refl
after_from-append w (x ∷ xs) ys = after_from-append (next_world w x) xs ys

-- commands after others go on from the world that these have left
pub after-append : (xs ys : List Command) → after (xs ++ ys) ≡ after_from (after xs) ys
unfolding after
after-append xs ys = after_from-append empty_world xs ys

-- the number of the next namespace never falls
pub next_higher : (w : WorldView) (c : Command) → w.next_space ≤ (next_world w c).next_space
next_higher w c = next_by (λ v. w.next_space ≤ v.next_space) w c (omega arith) (λ v r e. (step_rises w c v r e).spaces)

-- ---- a namespace that is not there has the empty table

pub table_nowhere : (w : WorldView) (n : ℕ) → IsWellFormed w → is_space w n ≡ false → table_of w n ≡ []
table_nowhere w n h gone = ap (map (row_of w)) (none-picked (λ (m : Mount). m.space == n) w.forest (λ m there. false_from_ne_true (m.space == n) (λ here.
    let has : Has n w = record { id = m.id; mount = m; there = in_row id_of w.forest m h.forest.rising there; space = eqb-true m.space n here } in
    true≢false (sym (has_space n w h has) ∙ gone))))

-- ---- the post of one namespace

pub record IsPostOf (n number : ℕ) (d : Delta) (p : PostView) : Type 0 where
  pub space_is : p.space ≡ n
  pub number_is : p.number ≡ number
  pub delta_is : delta_of p ≡ d

pub post_is : (n number : ℕ) (d : Delta) (p : PostView) → post_of n number d ≡ Some p → IsPostOf n number d p
post_is n number d p e = by (is_empty d) e
  where
    by : (b : Bool) → cond b None (Some (record { space = n; number = number; gone = d.gone; rows = d.rows })) ≡ Some p → IsPostOf n number d p
    by true q = absurd (cc)
    by false q =
        let r : PostView = record { space = n; number = number; gone = d.gone; rows = d.rows } in
        let same : r ≡ p = cc in
        subst (IsPostOf n number d) same (record { space_is = refl; number_is = refl; delta_is = refl })

-- where a namespace has no post, its table is as it was
pub same_table : (n number : ℕ) (v w : WorldView) → IsGood v → IsGood w → post_of n number (difference (table_of v n) (table_of w n)) ≡ None → table_of v n ≡ table_of w n
same_table n number v w g h e = (empty-equal (table_of v n) (table_of w n) (table_rises v n g.formed) (table_rises w n h.formed)).0 (by (is_empty (difference (table_of v n) (table_of w n))) refl e)
  where
    by : (b : Bool) → is_empty (difference (table_of v n) (table_of w n)) ≡ b
        → cond {A = Option PostView} b None (Some (record { space = n; number = number; gone = (difference (table_of v n) (table_of w n)).gone; rows = (difference (table_of v n) (table_of w n)).rows })) ≡ None
        → is_empty (difference (table_of v n) (table_of w n)) ≡ true
    by true is q = is
    by false is q = absurd (cc)

-- ---- of posts that are one at most of each namespace, those of one namespace

abbrev of_space : ℕ → PostView → Bool
of_space n p = p.space == n

module _ (f : ℕ → Option PostView) (each : (m : ℕ) (p : PostView) → f m ≡ Some p → p.space ≡ m) (n : ℕ) where
  abbrev posts : ℕ → ℕ → List PostView
  posts a len = filter (of_space n) (filter_map f (range_with_len a len))

  first : (a len : ℕ) → posts a (suc len) ≡ cond (a == n) (option_to_list (f a)) [] ++ posts (a + 1) len
  first a len = by (f a) refl
    where
      by : (o : Option PostView) → f a ≡ o → filter (of_space n) (cons_option o (filter_map f (range_with_len (a + 1) len))) ≡ cond (a == n) (option_to_list o) [] ++ posts (a + 1) len
      by None e = elim (a == n) as (λ b. posts (a + 1) len ≡ cond b [] [] ++ posts (a + 1) len) [ true ↦ refl | false ↦ refl ]
      by (Some p) e =
          ap (λ k. cond (k == n) (p ∷ posts (a + 1) len) (posts (a + 1) len)) (each a p e)
          ∙ elim (a == n) as (λ b. cond b (p ∷ posts (a + 1) len) (posts (a + 1) len) ≡ cond b (p ∷ []) [] ++ posts (a + 1) len) [ true ↦ refl | false ↦ refl ]

  pick_out : (a len : ℕ) → (n < a) ⊎ (a + len ≤ n) → posts a len ≡ []
  pick_out a zero out = refl
  pick_out a (suc len) out =
      let off : (a == n) ≡ false = elim out [ inl l ↦ grind (arith, nat_tests) | inr l ↦ grind (arith, nat_tests) ] in
      first a len ∙ ap (λ b. cond b (option_to_list (f a)) [] ++ posts (a + 1) len) off ∙ pick_out (a + 1) len (elim out [ inl l ↦ inl (omega (arith, l)) | inr l ↦ inr (omega (arith, l)) ])

  pick_in : (a len : ℕ) → a ≤ n → n < a + len → posts a len ≡ option_to_list (f n)
  pick_in a zero low high = absurd (omega (arith, low, high))
  pick_in a (suc len) low high = first a len ∙ by (a == n) refl (λ l. pick_in (a + 1) len l (omega (arith, high)))
    where
      by : (b : Bool) → (a == n) ≡ b → (a + 1 ≤ n → posts (a + 1) len ≡ option_to_list (f n)) → cond b (option_to_list (f a)) [] ++ posts (a + 1) len ≡ option_to_list (f n)
      by true e later =
          let is : a ≡ n = grind (arith, nat_tests) in
          let none = pick_out (a + 1) len (inl (omega (arith, is))) in
          (λ i. option_to_list (f (is i)) ++ none i) ∙ append-nil (option_to_list (f n))
      by false e later = later (grind (arith, nat_tests))

-- the post of namespace n that a command gives, where its table differs
abbrev pub given : ℕ → ℕ → WorldView → Command → Option PostView
given n number w c = post_of n number (difference (table_of w n) (table_of (next_world w c) n))

pub given_out : (n number : ℕ) (w : WorldView) (c : Command) → IsGood w → (n ≡ 0) ⊎ ((next_world w c).next_space ≤ n) → given n number w c ≡ None
given_out n number w c g out =
    let v = next_good w c g in
    let low = next_higher w c in
    let before = out_nowhere w n g.formed (elim out [ inl z ↦ inl z | inr l ↦ inr (omega (arith, l, low)) ]) in
    no_post w (next_world w c) n g.formed (table_nowhere (next_world w c) n v.formed (out_nowhere (next_world w c) n v.formed out) ∙ sym (table_nowhere w n g.formed before)) number

-- a number was given out, or not
given_or_not : (n s : ℕ) → ((n ≡ 0) ⊎ (s ≤ n)) ⊎ ((1 ≤ n) × (n < s))
given_or_not n s = elim (leb_tells 1 n) [
  | inl one ↦ elim (leb_tells s n) [ inl late ↦ inl (inr late.1) | inr low ↦ inr (one.1, low.1) ]
  | inr zero_is ↦ inl (inl (omega (arith, zero_is.1)))
]

pub posts_of_space : (cs : List Command) (c : Command) (n : ℕ) → filter (of_space n) (posts_of cs c) ≡ option_to_list (given n (space_number n cs + 1) (after cs) c)
unfolding posts_of
posts_of_space cs c n =
    let f : ℕ → Option PostView = λ m. given m (space_number m cs + 1) (after cs) c in
    let each : (m : ℕ) (p : PostView) → f m ≡ Some p → p.space ≡ m =
    λ m p e. (post_is m (space_number m cs + 1) (difference (table_of (after cs) m) (table_of (next_world (after cs) c) m)) p e).space_is in
    let next = (next_world (after cs) c).next_space in
    let good = after_good cs in
    let one = (next_good (after cs) c good).formed.from_one.1 in
    elim (given_or_not n next) [
      | inl out ↦
          pick_out f each n 1 (next - 1) (elim out [ inl z ↦ inl (omega (arith, z)) | inr l ↦ inr (omega (arith, l, one)) ])
          ∙ sym (ap option_to_list (given_out n (space_number n cs + 1) (after cs) c good out))
      | inr low ↦ pick_in f each n 1 (next - 1) low.0 (omega (arith, low.1, one))
    ]

-- ---- the events of one namespace

pub events_from-append :
    (n number : ℕ) (w : WorldView) (xs ys : List Command)
    → events_from n number w (xs ++ ys) ≡ events_from n number w xs ++ events_from n (number + length (events_from n number w xs)) (after_from w xs) ys
events_from-append n number w [] ys = ap (λ k. events_from n k w ys) (omega arith)
events_from-append n number w (x ∷ xs) ys =
    let post = option_to_list (given n number w x) in
    let w' = next_world w x in
    let front = events_from n (number + length post) w' xs in
    let count : number + length post + length front ≡ number + length (post ++ front) = omega (arith, length-append post front) in
    ap (λ l. post ++ l) (events_from-append n (number + length post) w' xs ys ∙ ap (λ k. front ++ events_from n k (after_from w' xs) ys) count)
    ∙ sym (append_assoc post front (events_from n (number + length (post ++ front)) (after_from w' xs) ys))

pub events-append : (n : ℕ) (xs ys : List Command) → events n (xs ++ ys) ≡ events n xs ++ events_from n (space_number n xs + 1) (after xs) ys
unfolding events after
events-append n xs ys =
    let count : 1 + length (events_from n 1 empty_world xs) ≡ length (events_from n 1 empty_world xs) + 1 = omega arith in
    events_from-append n 1 empty_world xs ys ∙ ap (λ k. events_from n 1 empty_world xs ++ events_from n k (after_from empty_world xs) ys) count

-- the posts of namespace n among those of some commands are its events
pub space_events : (n : ℕ) (before cs : List Command) → filter (of_space n) (posts_from before cs) ≡ events_from n (space_number n before + 1) (after before) cs
space_events n before [] = refl
space_events n before (c ∷ cs) =
    let post = option_to_list (given n (space_number n before + 1) (after before) c) in
    let number : space_number n (before ++ c ∷ []) + 1 ≡ space_number n before + 1 + length post =
    omega (arith, ap length (events-append n before (c ∷ [])), length-append (events n before) (post ++ []), ap length (append-nil post)) in
    filter-append (of_space n) (posts_of before c) (posts_from (before ++ c ∷ []) cs)
    ∙ (λ i. posts_of_space before c n i ++ space_events n (before ++ c ∷ []) cs i)
    ∙ (λ i. post ++ events_from n (number i) (after-append before (c ∷ []) i) cs)

-- they have the numbers from one on
pub numbers : (n number : ℕ) (w : WorldView) (cs : List Command) (k : ℕ) (p : PostView) → slice_get (events_from n number w cs) k ≡ Some p → (p.space ≡ n) × (p.number ≡ number + k)
numbers n number w [] k p e = absurd (let bad : None ≡ Some p = e in cc)
numbers n number w (c ∷ cs) k p e = by (given n number w c) refl (λ m i q. numbers n m (next_world w c) cs i p q) k e
  where
    by : (o : Option PostView) → given n number w c ≡ o → ((m i : ℕ) → slice_get (events_from n m (next_world w c) cs) i ≡ Some p → (p.space ≡ n) × (p.number ≡ m + i))
        → (i : ℕ) → slice_get (option_to_list o ++ events_from n (number + length (option_to_list o)) (next_world w c) cs) i ≡ Some p → (p.space ≡ n) × (p.number ≡ number + i)
    by None g ih i q = let r = ih (number + 0) i q in (r.0, omega (arith, r.1))
    by (Some x) g ih zero q =
        let same : x ≡ p = cc in
        let is = post_is n number (difference (table_of w n) (table_of (next_world w c) n)) x g in
        (ap (λ (y : PostView). y.space) (sym same) ∙ is.space_is, ap (λ (y : PostView). y.number) (sym same) ∙ is.number_is ∙ omega arith)
    by (Some x) g ih (suc i) q = let r = ih (number + 1) i q in (r.0, omega (arith, r.1))

-- applied in their order to the table before they give the table after
pub tables_go : (n number : ℕ) (w : WorldView) (cs : List Command) → IsGood w → with_posts (table_of w n) (events_from n number w cs) ≡ table_of (after_from w cs) n
tables_go n number w [] g = refl
tables_go n number w (c ∷ cs) g = by (given n number w c) refl (λ k. tables_go n k (next_world w c) cs (next_good w c g))
  where
    v : IsGood (next_world w c)
    v = next_good w c g

    by : (o : Option PostView) → given n number w c ≡ o → ((k : ℕ) → with_posts (table_of (next_world w c) n) (events_from n k (next_world w c) cs) ≡ table_of (after_from (next_world w c) cs) n)
        → with_posts (table_of w n) (option_to_list o ++ events_from n (number + length (option_to_list o)) (next_world w c) cs) ≡ table_of (after_from (next_world w c) cs) n
    by None e ih = ap (λ t. with_posts t (events_from n (number + 0) (next_world w c) cs)) (same_table n number w (next_world w c) g v e) ∙ ih (number + 0)
    by (Some p) e ih =
        let is = post_is n number (difference (table_of w n) (table_of (next_world w c) n)) p e in
        let made : with_delta (delta_of p) (table_of w n) ≡ table_of (next_world w c) n =
        ap (λ d. with_delta d (table_of w n)) is.delta_is ∙ applied-difference (table_of w n) (table_of (next_world w c) n) (table_rises w n g.formed) (table_rises (next_world w c) n v.formed) in
        ap (λ t. with_posts t (events_from n (number + 1) (next_world w c) cs)) made ∙ ih (number + 1)

-- ---- the command that gave a post

pub record Gave (n number : ℕ) (w : WorldView) (cs : List Command) (front : List PostView) (p : PostView) : Type 0 where
  pub before : List Command
  pub command : Command
  pub later : List Command
  pub split : cs ≡ before ++ command ∷ later
  pub front_is : events_from n number w before ≡ front
  pub gave : given n (number + length front) (after_from w before) command ≡ Some p

pub giver : (n number : ℕ) (w : WorldView) (cs : List Command) (front : List PostView) (p : PostView) (rest : List PostView) → events_from n number w cs ≡ front ++ p ∷ rest → Gave n number w cs front p
giver n number w [] front p rest e = absurd (none front e)
  where
    none : (xs : List PostView) → [] ≡ xs ++ p ∷ rest → ⊥
    none [] q = cc
    none (x ∷ xs) q = cc
giver n number w (c ∷ cs) front p rest e = by (given n number w c) refl front e (λ k xs q. giver n k (next_world w c) cs xs p rest q)
  where
    later_one : (o : Option PostView) (xs : List PostView) → given n number w c ≡ o → Gave n (number + length (option_to_list o)) (next_world w c) cs xs p → Gave n number w (c ∷ cs) (option_to_list o ++ xs) p
    later_one o xs g h = record {
      before = c ∷ h.before;
      command = h.command;
      later = h.later;
      split = ap (λ l. c ∷ l) h.split;
      front_is = ap (λ x. option_to_list x ++ events_from n (number + length (option_to_list x)) (next_world w c) h.before) g ∙ ap (λ l. option_to_list o ++ l) h.front_is;
      gave = ap (λ k. given n k (after_from (next_world w c) h.before) h.command) (omega (arith, length-append (option_to_list o) xs)) ∙ h.gave;
    }

    by : (o : Option PostView) → given n number w c ≡ o → (front : List PostView) → option_to_list o ++ events_from n (number + length (option_to_list o)) (next_world w c) cs ≡ front ++ p ∷ rest
        → ((k : ℕ) (xs : List PostView) → events_from n k (next_world w c) cs ≡ xs ++ p ∷ rest → Gave n k (next_world w c) cs xs p) → Gave n number w (c ∷ cs) front p
    by None g front e ih = later_one None front g (ih (number + 0) front e)
    by (Some x) g [] e ih =
        let same : x ≡ p = cc in record {
          before = [];
          command = c;
          later = cs;
          split = refl;
          front_is = refl;
          gave = ap (λ k. given n k w c) (omega arith) ∙ g ∙ ap Some same;
        }
    by (Some x) g (y ∷ ys) e ih =
        let same : x ≡ y = cc in
        let tail : events_from n (number + 1) (next_world w c) cs ≡ ys ++ p ∷ rest = cc in
        subst (λ (z : PostView). Gave n number w (c ∷ cs) (z ∷ ys) p) same (later_one (Some x) ys g (ih (number + 1) ys tail))

-- ---- the laws

pub posts_events : (n : ℕ) (before cs : List Command) → events n (before ++ cs) ≡ events n before ++ space_posts n (posts_from before cs)
posts_events n before cs = events-append n before cs ∙ ap (λ l. events n before ++ l) (sym (space_events n before cs))

pub numbers_up : (n : ℕ) (cs : List Command) (k : ℕ) (p : PostView) → slice_get (events n cs) k ≡ Some p → (p.space ≡ n) × (p.number ≡ k + 1)
unfolding events
numbers_up n cs k p e = let r = numbers n 1 empty_world cs k p e in (r.0, omega (arith, r.1))

pub tables_made : (n : ℕ) (before cs : List Command) → with_posts (table_of (after before) n) (space_posts n (posts_from before cs)) ≡ table_of (after (before ++ cs)) n
tables_made n before cs =
    ap (with_posts (table_of (after before) n)) (space_events n before cs) ∙ tables_go n (space_number n before + 1) (after before) cs (after_good before) ∙ ap (λ w. table_of w n) (sym (after-append before cs))

pub tables_told :
    (n : ℕ) (before cs : List Command) (front : List PostView) (p : PostView) (rest : List PostView) → space_posts n (posts_from before cs) ≡ (front ++ p ∷ []) ++ rest
    → IsTableAsOf n p (before ++ cs) (with_posts (table_of (after before) n) (front ++ p ∷ []))
tables_told n before cs front p rest e = record {
  before = before ++ g.before;
  command = g.command;
  later = g.later;
  split = ap (λ l. before ++ l) g.split ∙ sym (append_assoc before g.before (g.command ∷ g.later));
  gave = posts_of_space (before ++ g.before) g.command n ∙ ap option_to_list gave;
  number = ap length (events-append n (before ++ g.before) (g.command ∷ [])) ∙ length-append (events n (before ++ g.before)) (option_to_list (given n (space_number n (before ++ g.before) + 1) (after (before ++ g.before)) g.command) ++ [])
      ∙ ap (λ o. space_number n (before ++ g.before) + length (option_to_list o ++ [])) gave
      ∙ sym (post_is n (space_number n (before ++ g.before) + 1) (difference (table_of (after (before ++ g.before)) n) (table_of (next_world (after (before ++ g.before)) g.command) n)) p gave).number_is;
  table = ap (with_posts (table_of (after before) n)) (sym upto) ∙ tables_go n (space_number n before + 1) (after before) (g.before ++ g.command ∷ []) (after_good before)
      ∙ ap (λ w. table_of w n) (sym (after-append before (g.before ++ g.command ∷ []))) ∙ ap (λ l. table_of (after l) n) (sym (append_assoc before g.before (g.command ∷ [])));
}
  where
    g : Gave n (space_number n before + 1) (after before) cs front p
    g = giver n (space_number n before + 1) (after before) cs front p rest (sym (space_events n before cs) ∙ e ∙ append_assoc front (p ∷ []) rest)

    so_far : space_number n (before ++ g.before) ≡ space_number n before + length front
    so_far = ap length (events-append n before g.before) ∙ length-append (events n before) (events_from n (space_number n before + 1) (after before) g.before) ∙ ap (λ l. space_number n before + length l) g.front_is

    gave : given n (space_number n (before ++ g.before) + 1) (after (before ++ g.before)) g.command ≡ Some p
    gave = (λ i. given n (space_number n (before ++ g.before) + 1) (after-append before g.before i) g.command) ∙ ap (λ k. given n k (after_from (after before) g.before) g.command) (omega (arith, so_far)) ∙ g.gave

    upto : events_from n (space_number n before + 1) (after before) (g.before ++ g.command ∷ []) ≡ front ++ p ∷ []
    upto =
        events_from-append n (space_number n before + 1) (after before) g.before (g.command ∷ [])
        ∙ (λ i. g.front_is i ++ (option_to_list (given n (space_number n before + 1 + length (g.front_is i)) (after_from (after before) g.before) g.command) ++ []))
        ∙ ap (λ o. front ++ (option_to_list o ++ [])) g.gave
