-- What changes where all mounts touched were, and are, in one namespace, as far as they are there.
use Rattle.std.proofs.Common.{◌≡◌, ◌==◌, ◌||◌, ◌&&◌, ℕ, eqb-true, Bool, true, false, cond, List, [], ◌∷◌, ◌++◌, Some, None, refl, sym, ap, ◌∙◌, append-nil, arith}
use Rattle.std.specs.List.{filter, list_all, list_any}
use Rattle.std.specs.Option.{option_map_or, option_to_list}
use Rattle.std.proofs.lemmas.Bool.{or_parts}
use Rattle.std.proofs.lemmas.Bool.Decides.{nat_tests}
use Rattle.std.proofs.lemmas.Iterator.Adapters.{option_map_id}
use Rattle.std.proofs.Math.Bool.{or-false}
use Rattle.mt_skel.specs.Keyed.{row_at, rises, among}
use Rattle.mt_skel.proofs.KeyedLaws.{row_at-key}
use Rattle.mt_mounts.specs.declared.mount.Mount.{Mount}
use Rattle.mt_mounts.specs.Forest.{subtree}
use Rattle.mt_propagate.specs.World.{WorldView}
use Rattle.mt_skel.proofs.MiddleLaws.{and_first, and_second}
use Rattle.mt_peers.proofs.GoingLaws.{all-among}
use Rattle.mt_propagate.proofs.RowLaws.{in_all, all_in}
use Rattle.mt_propagate.specs.WellFormed.{IsWellFormed}
use Rattle.mt_info.specs.Table.{row_id, table_of}
use Rattle.mt_info.specs.MayDiffer.{has_moved, may_differ}
use Rattle.mt_events.specs.Posts.{PostView}
use Rattle.mt_book.specs.Book.{space_in, number_in, next_number, next_post, posts_at_change}
use Rattle.mt_book.specs.Between.{BetweenView, AreWorlds, HoldsAll, numbers_after, heard_posts}
use Rattle.mt_book.specs.Parts.{only_in, stays_in, rests_in, merged}
use Rattle.mt_book.proofs.HeardLaws.{heard_one, heard_none}
use Rattle.mt_book.proofs.TouchedLaws.{no_row}
use Rattle.mt_book.proofs.ChangedLaws.{is_in, next_row, none_in, all_numbers, all_posts}

-- the row of one namespace
one_in : (s : ℕ) (rs : List (ℕ × ℕ)) → rises space_in rs ≡ true → filter (is_in (s ∷ [])) rs ≡ option_to_list (row_at space_in s rs)
one_in s rs up = next_row s [] rs refl up ∙ ap (λ l. option_to_list (row_at space_in s rs) ++ l) (none_in rs) ∙ append-nil (option_to_list (row_at space_in s rs))

-- a mount that is in one namespace alone has no row in another
nowhere : (w : WorldView) (s n i : ℕ) → IsWellFormed w → only_in w s i ≡ true → (s == n) ≡ false → row_at row_id i (table_of w n) ≡ None
nowhere w s n i h only off = no_row w n i h (λ m e.
    let here : (m.space == s) ≡ true = ap (λ o. option_map_or (λ (m : Mount). m.space == s) o true) (sym e) ∙ only in
    ap (λ k. k == n) (eqb-true m.space s here) ∙ off)

module _ (b : BetweenView) (ids : List ℕ) (s : ℕ) (worlds : AreWorlds b) (held : (n : ℕ) → HoldsAll b ids n) (all : list_all (stays_in b.old b.new s) ids ≡ true) where
  -- so all others are as they were
  quiet : (n : ℕ) → among (s ∷ []) n ≡ false → HoldsAll b [] n
  quiet n off i none = go (among ids i) refl
    where
      go : (t : Bool) → among ids i ≡ t → row_at row_id i (table_of b.old n) ≡ row_at row_id i (table_of b.new n)
      go false e = held n i e
      go true e =
          let here = all-among (stays_in b.old b.new s) ids i all e in
          let other = (or_parts (s == n) false off).0 in
          nowhere b.old s n i worlds.old (and_first _ _ here) other ∙ sym (nowhere b.new s n i worlds.new (and_second (only_in b.old s i) _ here) other)

  module _ (rs : List (ℕ × ℕ)) (up : rises space_in rs ≡ true) where
    -- it has no number
    module _ (out : row_at space_in s rs ≡ None) where
      alone : filter (is_in (s ∷ [])) rs ≡ []
      alone = one_in s rs up ∙ ap option_to_list out

      pub absent_numbers : rs ≡ numbers_after b rs
      absent_numbers =
          all_numbers b.old b.new (s ∷ []) worlds.old worlds.new quiet rs rs up up
          (λ n. sym (option_map_id (row_at space_in n rs)) ∙ ap (λ (l : List (ℕ × ℕ)). merged rs (numbers_after b l) n) (sym alone))

      pub absent_posts : heard_posts b rs ≡ []
      absent_posts = ap (λ (l : List PostView). cond b.heard l []) (all_posts b.old b.new (s ∷ []) worlds.old worlds.new quiet rs ∙ ap (posts_at_change b.old b.new) alone) ∙ heard_none b.heard

    -- it has one
    module _ (row : ℕ × ℕ) (at : row_at space_in s rs ≡ Some row) where
      here : filter (is_in (s ∷ [])) rs ≡ (s, number_in row) ∷ []
      here = one_in s rs up ∙ ap option_to_list at ∙ ap (λ (n : ℕ). (n, number_in row) ∷ []) (row_at-key space_in s rs row at)

      pub lone_numbers : (now : List (ℕ × ℕ)) (k : ℕ) → rises space_in now ≡ true → k ≡ next_number b.old b.new s (number_in row) → ((n : ℕ) → row_at space_in n now ≡ merged rs ((s, k) ∷ []) n) → now ≡ numbers_after b rs
      lone_numbers now k rise is rows =
          let one : numbers_after b (filter (is_in (s ∷ [])) rs) ≡ (s, k) ∷ [] = ap (numbers_after b) here ∙ ap (λ (m : ℕ). (s, m) ∷ []) (sym is) in
          all_numbers b.old b.new (s ∷ []) worlds.old worlds.new quiet rs now up rise (λ n. rows n ∙ ap (λ (l : List (ℕ × ℕ)). merged rs l n) (sym one))

      pub lone_posts : heard_posts b rs ≡ option_to_list (cond b.heard (next_post b.old b.new s (number_in row)) None)
      lone_posts =
          ap (λ (l : List PostView). cond b.heard l [])
          (all_posts b.old b.new (s ∷ []) worlds.old worlds.new quiet rs ∙ ap (posts_at_change b.old b.new) here ∙ append-nil (option_to_list (next_post b.old b.new s (number_in row))))
          ∙ heard_one b.heard (next_post b.old b.new s (number_in row))

-- mounts that rest stay in their namespace, and none has moved
module _ (w v : WorldView) (s : ℕ) where
  pub stays_of : (ids : List ℕ) → list_all (rests_in w v s) ids ≡ true → list_all (stays_in w v s) ids ≡ true
  stays_of ids all = in_all (stays_in w v s) ids (λ i there. and_first _ _ (all_in (rests_in w v s) ids i all there))

  none_moves : (j : ℕ) (ids : List ℕ) → list_all (rests_in w v s) ids ≡ true → list_any (λ i. has_moved w v i && among (subtree v.forest i) j) ids ≡ false
  none_moves j [] all = refl
  none_moves j (i ∷ ids) all = let ih = none_moves j ids in grind (arith, nat_tests)

  -- so no row but theirs may differ
  pub may_differ_alone : (ids : List ℕ) (j : ℕ) → list_all (rests_in w v s) ids ≡ true → among ids j ≡ may_differ w v ids j
  may_differ_alone ids j all = sym (or-false (among ids j)) ∙ ap (λ b. among ids j || b) (sym (none_moves j ids all))
