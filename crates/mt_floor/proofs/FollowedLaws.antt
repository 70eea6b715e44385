-- The followed posts of a watcher are a run from what it found.
use Rattle.std.proofs.Common.{◌≡◌, ℕ, zero, suc, ◌+◌, true, false, cond, ◌==◌, eqb, List, [], ◌∷◌, ◌++◌, length, take, Some, None, slice_get, refl, sym, ap, ◌∙◌, arith, eqb-true}
use Rattle.std.specs.List.{filter}
use Rattle.std.proofs.lemmas.Bool.Decides.{nat_tests}
use Rattle.std.proofs.lemmas.List.Elements.{filter-append}
use Rattle.mt_skel.proofs.ElementLaws.{in_filter, get_in}
use Rattle.mt_propagate.proofs.RowLaws.{part-filtered}
use Rattle.mt_events.specs.Posts.{PostView}
use Rattle.mt_events.specs.declared.opening.Scope.{Scope}
use Rattle.mt_events.specs.Following.{names_space, start_of, posts_in, space_posts, IsRun}
use Rattle.mt_book.specs.declared.command.Command.{Command}
use Rattle.mt_book.specs.Step.{after}
use Rattle.mt_book.specs.History.{space_number, posts_from, events_from}
use Rattle.mt_book.proofs.HistoryLaws.{space_events, numbers}
use Rattle.mt_floor.specs.Watcher.{opening_of, followed_posts}
use Rattle.mt_floor.proofs.RunLaws.{get_left}
use Rattle.mt_floor.proofs.OpeningLaws.{numbers_found}

-- the posts of a namespace that is followed are all followed
pub space_followed : (scope : Scope) (n : ℕ) → names_space scope n ≡ true → (ps : List PostView) → space_posts n (filter (λ (p : PostView). names_space scope p.space) ps) ≡ space_posts n ps
space_followed scope n named ps = part-filtered (λ (p : PostView). p.space == n) (λ (p : PostView). names_space scope p.space) ps (λ p on. ap (names_space scope) (eqb-true p.space n on) ∙ named)

-- the place of a post among those of its namespace
place_of_space : (n : ℕ) (ps : List PostView) (k : ℕ) (p : PostView) → slice_get ps k ≡ Some p → p.space ≡ n → slice_get (space_posts n ps) (posts_in n (take k ps)) ≡ Some p
place_of_space n [] k p e is = absurd (let bad : None ≡ Some p = e in cc)
place_of_space n (q ∷ ps) zero p e is =
    let same : q ≡ p = cc in
    let on : eqb q.space n ≡ true = (let s : q.space ≡ n = ap (λ (x : PostView). x.space) same ∙ is in grind (arith, nat_tests)) in
    ap (λ b. slice_get (cond b (q ∷ space_posts n ps) (space_posts n ps)) 0) on ∙ e
place_of_space n (q ∷ ps) (suc k) p e is =
    let ih = place_of_space n ps k p e is in
    elim (eqb q.space n) as (λ b. slice_get (cond b (q ∷ space_posts n ps) (space_posts n ps)) (length (cond b (q ∷ space_posts n (take k ps)) (space_posts n (take k ps)))) ≡ Some p) [ true ↦ ih | false ↦ ih ]

-- so what begins the followed posts is a run
pub is_run : (scope : Scope) (before since : List Command) (ps rest : List PostView) → followed_posts scope before since ≡ ps ++ rest → IsRun (opening_of before scope) ps
unfolding opening_of
is_run scope before since ps rest split = record { each = each }
  where
    each : (k : ℕ) (p : PostView) → slice_get ps k ≡ Some p
        → (names_space scope p.space ≡ true) × (p.number ≡ start_of (opening_of before scope) p.space + posts_in p.space (take k ps) + 1)
    each k p e =
        let there : slice_get (followed_posts scope before since) k ≡ Some p = ap (λ l. slice_get l k) split ∙ get_left ps rest k e in
        let named = (in_filter (λ (q : PostView). names_space scope q.space) p (posts_from before since) (get_in (followed_posts scope before since) k p there)).1 in
        let n = p.space in
        let all : space_posts n ps ++ space_posts n rest ≡ events_from n (space_number n before + 1) (after before) since =
        sym (filter-append (λ (q : PostView). q.space == n) ps rest) ∙ ap (space_posts n) (sym split) ∙ space_followed scope n named (posts_from before since) ∙ space_events n before since in
        let at = ap (λ l. slice_get l (posts_in n (take k ps))) (sym all) ∙ get_left (space_posts n ps) (space_posts n rest) (posts_in n (take k ps)) (place_of_space n ps k p e refl) in
        let number = (numbers n (space_number n before + 1) (after before) since (posts_in n (take k ps)) p at).1 in
        (named, omega (arith, number, numbers_found before since scope n (space_number n before + 1) (posts_in n (take k ps)) p named at))
