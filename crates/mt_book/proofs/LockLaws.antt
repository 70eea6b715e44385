-- Locks only refuse: an accepted command does to the mounts what it does whatever is locked. Where nothing is locked nothing is refused for a
-- lock, and nothing comes locked.
use Rattle.std.proofs.Common.{◌≡◌, ◌==◌, Bool, true, false, ◌&&◌, List, [], ◌∷◌, ◌++◌, length, Option, Some, None, Result, Ok, Err, refl, sym, ap, ◌∙◌, subst, arith}
use Rattle.std.specs.List.{AllByRecursion}
use Rattle.std.proofs.lemmas.Bool.{true≢false, and_parts}
use Rattle.std.proofs.lemmas.Bool.Decides.{nat_tests}
use Rattle.mt_skel.specs.declared.fault.Fault.{Fault}
use Rattle.mt_skel.specs.declared.fault.Fault.TheVariants.{Unbindable}
use Rattle.mt_skel.specs.Outcome.{refuse_if, refusal_of, outcome}
use Rattle.mt_skel.proofs.OutcomeLaws.{accepted}
use Rattle.mt_mounts.specs.declared.mount.Place.{Place}
use Rattle.mt_mounts.specs.Walk.{walk}
use Rattle.mt_locks.specs.Locks.{LocksView, no_locks, kept_locks}
use Rattle.mt_propagate.specs.World.{WorldView, state_of, empty_world}
use Rattle.mt_propagate.specs.Named.{place_or_nowhere}
use Rattle.mt_propagate.specs.Copied.{copied}
use Rattle.mt_propagate.specs.Plans.{fresh_source}
use Rattle.mt_bind.specs.Copying.{with_copies}
use Rattle.mt_bind.specs.Spaces.{with_space, without_space}
use Rattle.mt_bind.specs.Pivoting.{with_pivot}
use Rattle.mt_bind.specs.Sources.{source_at, tree_of}
use Rattle.mt_bind.specs.Opening.{opened_sources}
use Rattle.mt_bind.specs.Attaching.{whole_tree}
use Rattle.mt_unmount.specs.Detaching.{topmost}
use Rattle.mt_setattr.specs.Change.{with_change, attributed_refusals}
use Rattle.mt_setattr.specs.Words.{nothing_set, new_with}
use Rattle.mt_guard.specs.Refusals.{named_refusals, place_refusals}
use Rattle.mt_guard.specs.Coming.{come_locked, opened_locks, where_led}
use Rattle.mt_guard.specs.Changing.{Locking, keeping, next_locks, mount_locking, bind_locking, move_locking, attach_locking, unmount_locking, detach_locking, open_locking, copy_locking}
use Rattle.mt_guard.proofs.FreeLaws.{front, AreFree, free, come_free, opened_free, copied_free, led_free, free_after}
use Rattle.mt_book.specs.declared.command.Command.{Command}
use Rattle.mt_book.specs.declared.command.Command.TheVariants.{Room, MakeFs, MakeDir, NewSpace, CopySpace, DropSpace, Mount as MountCommand, MountWith, Bind, Move, Pivot, Unmount, Detach, SetAttr, OpenTree, NewTree, MoveTree}
use Rattle.mt_book.specs.declared.command.Privilege.TheVariants.{Same, Less, LessLocked}
use Rattle.mt_book.specs.declared.command.Reply.{Reply}
use Rattle.mt_book.specs.Step.{with_made_number, with_done, act, judged, guarded, step, makes_locks, next_world, after_from, after}
use Rattle.mt_book.specs.Locking.{StepsAreActs, NothingComesLocked, NoneAreLocked}
use Rattle.mt_book.proofs.EffectLaws.{step_accepted, acted, next_by}

-- what a command does to the mounts leaves what is locked
pub acted_locks : (w : WorldView) (c : Command) (u : WorldView) (r : Reply) → act w c ≡ Ok (u, r) → u.locks ≡ w.locks
unfolding with_space with_copies without_space copied with_pivot with_change
acted_locks w c u r e = acted w c u r (λ x. x.locks ≡ w.locks) e (record {
  skel = λ t made. refl;
  space = λ f. refl;
  copy = λ n less there. refl;
  end = λ n is. refl;
  copies = λ src p still. refl;
  pivot = λ i j p. refl;
  gone = λ goes can. refl;
  change = λ change i. refl;
  tree = λ f. refl;
  opened = λ sources. refl;
  attached = λ tree n path is there apart p on. refl;
})

pub steps_act : StepsAreActs
steps_act w c v r e =
    let a = step_accepted w c v r e in
    (a.done, a.acted, a.world ∙ ap (λ (l : LocksView). record a.done { locks = l }) (sym (ap (λ (x : WorldView). x.locks) a.world)), acted_locks w c a.done r a.acted)

-- ---- where nothing is locked

-- a command that is refused first as it is where there are no locks, and that makes no locks, is what it does to the mounts
free_step : (u : WorldView) (c : Command) (first : List (Option Fault)) (x : Locking) → judged (free u) c ≡ outcome (first ++ None ∷ []) (next_locks (free u) x) → x.owner ≡ None → AreFree x.came
    → ((f : Fault) → outcome (first ++ None ∷ []) (next_locks (free u) x) ≡ Err f → act (free u) c ≡ Err f) → step (free u) c ≡ act (free u) c
unfolding step
free_step u c first x judges owner came refused = by (judged (free u) c) (act (free u) c) refl refl
  where
    by : (j : Result LocksView Fault) (q : Result (WorldView × Reply) Fault) → judged (free u) c ≡ j → act (free u) c ≡ q → guarded j q ≡ q
    by (Err f) q is acts = sym (refused f (sym judges ∙ is)) ∙ acts
    by (Ok l) (Err f) is acts = refl
    by (Ok l) (Ok p) is acts =
        let none : kept_locks p.0.forest l ≡ no_locks =
        ap (kept_locks p.0.forest) (sym (accepted (first ++ None ∷ []) (next_locks (free u) x) l (sym judges ∙ is)).0) ∙ free_after u p.0.forest x owner came in
        let same : p.0.locks ≡ no_locks = acted_locks (free u) c p.0 p.1 acts in
        λ i. Ok (record p.0 { locks = (none ∙ sym same) i }, p.1)

free_steps : (u : WorldView) (c : Command) → makes_locks c ≡ false → step (free u) c ≡ act (free u) c
unfolding act
free_steps u (Room k) m = free_step u (Room k) [] keeping refl refl refl (λ f e. absurd (cc))
free_steps u (MakeFs name kind source) m = free_step u (MakeFs name kind source) [] keeping refl refl refl (λ f e. absurd (cc))
free_steps u (MakeDir fs path) m = free_step u (MakeDir fs path) [] keeping refl refl refl (λ f e. absurd (cc))
free_steps u (NewSpace fs) m = free_step u (NewSpace fs) [] keeping refl refl refl (λ f e. absurd (cc))
free_steps u (CopySpace n Same) m = free_step u (CopySpace n Same) [] (copy_locking (free u) n false) refl refl (copied_free u n) (λ f e. absurd (cc))
free_steps u (CopySpace n Less) m = free_step u (CopySpace n Less) [] (copy_locking (free u) n false) refl refl (copied_free u n) (λ f e. absurd (cc))
free_steps u (CopySpace n LessLocked) m = absurd (cc)
free_steps u (DropSpace n) m = free_step u (DropSpace n) [] keeping refl refl refl (λ f e. absurd (cc))
free_steps u (MountCommand n fs path) m =
    let to = walk u.skel u.forest n path in
    let src = fresh_source 0 (new_with nothing_set) in
    free_step u (MountCommand n fs path) [] (mount_locking (free u) n nothing_set to) refl refl (led_free u to (come_locked (free u) n src) (come_free u n src)) (λ f e. absurd (cc))
free_steps u (MountWith n fs path set) m =
    let to = walk u.skel u.forest n path in
    let src = fresh_source 0 (new_with set) in
    free_step u (MountWith n fs path set) [] (mount_locking (free u) n set to) refl refl (led_free u to (come_locked (free u) n src) (come_free u n src)) (λ f e. absurd (cc))
free_steps u (Bind n src dst recursive) m =
    let from = walk u.skel u.forest n src in
    let to = walk u.skel u.forest n dst in
    let first = refusal_of from ∷ place_refusals (free u) to ++ refuse_if (state_of (free u) (place_or_nowhere from).mount).unbindable Unbindable ∷ [] in
    let come = λ (s : Place). come_locked (free u) n (source_at (free u) recursive s) in
    free_step u (Bind n src dst recursive) first (bind_locking (free u) n recursive from to) refl refl
    (led_free u from (λ s. where_led to (come s)) (λ s. led_free u to (come s) (come_free u n (source_at (free u) recursive s)))) (λ f e. ap with_made_number (front first _ _ _ f e))
free_steps u (Move n src dst) m =
    let from = walk u.skel u.forest n src in
    let to = walk u.skel u.forest n dst in
    let first = named_refusals (free u) n from (place_or_nowhere from) ++ place_refusals (free u) to in
    let come = λ (s : Place). come_locked (free u) n (tree_of (free u) s.mount) in
    free_step u (Move n src dst) first (move_locking (free u) n from to) refl refl
    (led_free u from (λ s. where_led to (come s)) (λ s. led_free u to (come s) (come_free u n (tree_of (free u) s.mount)))) (λ f e. ap with_done (front first _ _ _ f e))
free_steps u (Pivot n new old) m =
    let from = walk u.skel u.forest n new in
    let first = named_refusals (free u) n from (place_or_nowhere from) ++ place_refusals (free u) (walk u.skel u.forest n old) in
    free_step u (Pivot n new old) first keeping refl refl refl (λ f e. ap with_done (front first _ _ _ f e))
free_steps u (Unmount n path) m =
    let at = walk u.skel u.forest n path in
    let first = named_refusals (free u) n at (place_or_nowhere at) in
    free_step u (Unmount n path) first (unmount_locking (free u) at) refl refl refl (λ f e. ap with_done (front first _ _ _ f e))
free_steps u (Detach n path) m =
    let at = walk u.skel u.forest n path in
    let first = named_refusals (free u) n at (topmost (free u) at) in
    free_step u (Detach n path) first (detach_locking (free u) at) refl refl refl (λ f e. ap with_done (front first _ _ _ f e))
free_steps u (SetAttr n path change) m =
    let first = attributed_refusals (free u) n change (walk u.skel u.forest n path) in
    free_step u (SetAttr n path change) first keeping refl refl refl (λ f e. ap with_done (front first _ _ _ f e))
free_steps u (OpenTree n path recursive) m =
    let at = walk u.skel u.forest n path in
    let first = refusal_of at ∷ refuse_if (state_of (free u) (place_or_nowhere at).mount).unbindable Unbindable ∷ [] in
    let sources = opened_sources (free u) recursive in
    free_step u (OpenTree n path recursive) first (open_locking (free u) n recursive at) refl refl
    (led_free u at (λ p. opened_locks (free u) p.mount (sources p)) (λ p. opened_free u p.mount (sources p))) (λ f e. ap with_made_number (front first _ _ _ f e))
free_steps u (NewTree fs) m = free_step u (NewTree fs) [] keeping refl refl refl (λ f e. absurd (cc))
free_steps u (MoveTree tree n path) m =
    let to = walk u.skel u.forest n path in
    let src = whole_tree (free u) tree in
    free_step u (MoveTree tree n path) [] (attach_locking (free u) tree n to) refl refl (led_free u to (come_locked (free u) n src) (come_free u n src)) (λ f e. absurd (cc))

-- nothing is locked where no row says so
no_rows : {A : Type 0} (xs : List A) → (length xs == 0) ≡ true → xs ≡ []
no_rows [] e = refl
no_rows (x ∷ xs) e = let off : (length (x ∷ xs) == 0) ≡ false = grind (arith, nat_tests) in absurd (true≢false (sym e ∙ off))

pub none_are : (l : LocksView) → ((length l.owners == 0) && (length l.mounts == 0)) ≡ true → l ≡ no_locks
none_are l e = let p = and_parts (length l.owners == 0) (length l.mounts == 0) e in λ i. record { owners = no_rows l.owners p.0 i; mounts = no_rows l.mounts p.1 i }

pub nothing_locked : NothingComesLocked
nothing_locked w c none m =
    let same : w ≡ free w = λ i. record w { locks = none i } in
    subst (λ (x : WorldView). step x c ≡ act x c) (sym same) (free_steps w c m)

-- so after commands without the word `lock` nothing is locked
never_locked : (w : WorldView) (cs : List Command) → w.locks ≡ no_locks → AllByRecursion (λ c. makes_locks c ≡ false) cs → (after_from w cs).locks ≡ no_locks
never_locked w [] none plain = none
never_locked w (c ∷ cs) none plain =
    never_locked (next_world w c) cs (next_by (λ v. v.locks ≡ no_locks) w c none (λ v r e. acted_locks w c v r (sym (nothing_locked w c none plain.0) ∙ e) ∙ none)) plain.1

pub none_locked : NoneAreLocked
unfolding after
none_locked cs free = never_locked empty_world cs refl free
