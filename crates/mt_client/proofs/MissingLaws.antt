-- What cannot come first where a telling is cut off, or the posts that wait for a watcher, and what of it has come.
use Rattle.std.proofs.Common.{◌≡◌, ℕ, ◌+◌, ◌<◌, ◌≤◌, true, List, [], ◌∷◌, ◌++◌, length, refl, sym, ap, subst, ◌∙◌, arith, inl, inr, false, Option, Some, None}
use Rattle.std.proofs.lemmas.Grind.{fold-append}
use Rattle.std.specs.List.{flat_map, fold, AllByRecursion}
use Rattle.mt_skel.proofs.MiddleLaws.{each_left, each_right}
use Rattle.mt_lines.specs.Lines.{Item}
use Rattle.mt_events.specs.Posts.{PostView, post_lines}
use Rattle.mt_events.specs.Mirrors.{MirrorView}
use Rattle.mt_events.specs.declared.opening.Scope.{Scope}
use Rattle.mt_client.specs.Reading.{texts, ComeFirst, NoneFirst}
use Rattle.mt_client.specs.Mirroring.{IsSentPost, IsRefusal, counted_line}
use Rattle.mt_client.specs.Awaited.{IsOneRefusal, IsRefusedOr, IsOnlyPost}
use Rattle.mt_client.specs.Finding.{found_lines, HasFound, IsFinding}
use Rattle.mt_client.specs.Telling.{mirrors_with, mirrors_by, are_due, portion}
use Rattle.mt_client.specs.Due.{AreDuePosts, most_portions, portion_lines, AreDuePortions, IsTelling, AreOnlyApplied}
use Rattle.mt_client.proofs.FollowLaws.{event_many, post_taken}
use Rattle.mt_client.proofs.OpeningLaws.{first_taken, no_refusal, unrefused_or, found_alike}
use Rattle.mt_client.proofs.SeriesLaws.{Series, IsSeries, Came, came_or, came_more, came_cut, in_lines, are_in_lines, due_to, are_apart, post_series, up_to, last_within}
use Rattle.mt_client.proofs.RelayLaws.{texts_split, first_alike}
use Rattle.std.proofs.lemmas.Option.{same_Some}
use Rattle.mt_lines.specs.Words.{words}
use Rattle.mt_events.specs.declared.opening.Scope.TheVariants.{All}
use Rattle.mt_client.specs.Requests.{is_refusal, waiting_count, event_count}
use Rattle.mt_client.specs.Missing.{AreDueLines, IsWaiting, IsMissing, IsMissingAnswer, IsOnlyCounted}

-- posts that are due, up to their end
abbrev pub due_posts : (count : ℕ) (scope : Scope) (mirrors : List MirrorView) (lines : List (List ℕ)) → AreDuePosts count scope mirrors lines → IsSeries (up_to (due_to scope) (counted_line count) count) mirrors lines
due_posts count scope mirrors lines d = record { items = d.posts; last = d.last ∷ []; due = (d.valid, d.due); ends = (d.last, refl, d.ends); all = d.all }

-- posts that came first were so many, and applied, where their end was read behind the last
pub posts_whole : (count taken : ℕ) (scope : Scope) (old now : List MirrorView) (before middle after : Option (List Item)) → count ≤ taken → Came (up_to (due_to scope) (counted_line count) count) taken old now before middle → NoneFirst IsOneRefusal middle → ComeFirst middle (counted_line count ∷ []) after
    → AreOnlyApplied count scope old now before after
posts_whole count taken scope old now before middle after all came none end lines later d e =
    let w = last_within (counted_line count) count (length d.posts) d.last d.ends in
    came_or (up_to (due_to scope) (counted_line count) count) taken old now before middle came lines later (due_posts count scope old lines d) e
    (λ due many make there.
    let r = end.known _ there in
    let f = first_alike (sym r.2) in
    (omega (arith, w, many, all), λ r. none (d.last ∷ []) later (d.last, r, refl) there, make, r.1 ∙ ap Some f.1)) (λ p rest is due many make there. absurd (omega (arith, w, many, all)))

-- portions of so many posts, and behind them fewer posts and a refusal
abbrev flat : List (List PostView) → List PostView
flat portions = flat_map (λ posts. posts) portions

abbrev pub portions_of : ℕ → Scope → Series
portions_of count scope = record {
  X = List PostView;
  S = List MirrorView;
  lines_of = portion_lines count;
  step = mirrors_by;
  IsDue = λ ms posts. (length posts ≡ count) × AllByRecursion IsSentPost posts × (are_due scope ms posts ≡ true);
  AreDue = λ ms portions. AllByRecursion (λ posts. length posts ≡ count) portions × AllByRecursion IsSentPost (flat portions) × (are_due scope ms (flat portions) ≡ true);
  first = λ ms q qs h. let due = are_apart (due_to scope) q (flat qs) ms h.2 in ((h.0.0, each_left IsSentPost q (flat qs) h.1, due.0), (h.0.1, each_right IsSentPost q (flat qs) h.1, due.1));
  Ends = λ n ms ls. (d : AreDuePosts count scope ms ls) × IsRefusal d.last × (n < most_portions);
}

-- the mirrors that posts make in portions
flat_by : (portions : List (List PostView)) (mirrors : List MirrorView) → fold mirrors_by mirrors portions ≡ mirrors_by mirrors (flat portions)
flat_by [] mirrors = refl
flat_by (q ∷ qs) mirrors = flat_by qs (mirrors_by mirrors q) ∙ sym (fold-append mirrors_with mirrors q (flat qs))

-- what a telling waits for is such portions
are_portions : (count : ℕ) (scope : Scope) (mirrors : List MirrorView) (lines : List (List ℕ)) → AreDuePortions count scope mirrors lines → IsSeries (portions_of count scope) mirrors lines
are_portions count scope mirrors lines a =
    let due = are_apart (due_to scope) (flat a.portions) a.rest mirrors a.due in
    let behind : are_due scope (fold mirrors_by mirrors a.portions) a.rest ≡ true = ap (λ ms. are_due scope ms a.rest) (flat_by a.portions mirrors) ∙ due.1 in
    record {
      items = a.portions;
      last = flat_map post_lines a.rest ++ a.refusal ∷ [];
      due = (a.whole, each_left IsSentPost (flat a.portions) a.rest a.valid, due.0);
      ends = (record { posts = a.rest; last = a.refusal; all = refl; valid = each_right IsSentPost (flat a.portions) a.rest a.valid; due = behind; ends = inr (a.within, a.refused) }, a.refused, a.bounded);
      all = a.all;
    }

-- a portion with its end
abbrev whole_portion : (count : ℕ) (scope : Scope) (mirrors : List MirrorView) (posts : List PostView) → (length posts ≡ count) × AllByRecursion IsSentPost posts × (are_due scope mirrors posts ≡ true) → AreDuePosts count scope mirrors (portion_lines count posts)
whole_portion count scope mirrors posts is = record { posts = posts; last = counted_line count; all = refl; valid = is.1; due = is.2; ends = inl (is.0, refl) }

-- one more portion came, none comes where neither posts nor a refusal do, and none where too many came
pub portions_more : (count taken : ℕ) (scope : Scope) (old now new : List MirrorView) (before middle after : Option (List Item)) → Came (portions_of count scope) taken old now before middle → AreOnlyApplied count scope now new middle after → Came (portions_of count scope) (taken + 1) old new before after
portions_more count taken scope old now new before middle after came only =
    came_more (portions_of count scope) taken old now new before middle after came (λ ls later h e. (only ls later h.1.0 e).1 h.1.1)
    (λ q rest is e. let k = only (portion_lines count q) rest (whole_portion count scope now q is) e in (k.2, k.3))

pub portions_cut : (count taken : ℕ) (scope : Scope) (old now : List MirrorView) (before middle : Option (List Item)) → Came (portions_of count scope) taken old now before middle → NoneFirst (AreDuePosts count scope now) middle → NoneFirst (AreDuePortions count scope old) before
portions_cut count taken scope old now before middle came none =
    came_cut (portions_of count scope) taken old now before middle (are_portions count scope old) came (λ ls later h. none ls later h.1.0) (λ q rest n made last is more ends. none (portion_lines count q) rest (whole_portion count scope now q is))

pub portions_over : (count taken : ℕ) (scope : Scope) (old now : List MirrorView) (before middle : Option (List Item)) → most_portions ≤ taken → Came (portions_of count scope) taken old now before middle → NoneFirst (AreDuePortions count scope old) before
portions_over count taken scope old now before middle all came =
    came_cut (portions_of count scope) taken old now before middle (are_portions count scope old) came (λ ls later h e. let few = h.1.2 in omega (arith, few, all)) (λ q rest n made last is more ends e. let few = ends.2 in omega (arith, few, more, all))

-- a whole telling
pub telling_needs_opening : (scope : Scope) (before : Option (List Item)) → NoneFirst (IsRefusedOr (IsFinding scope)) before → NoneFirst (IsRefusedOr (IsTelling scope)) before
telling_needs_opening scope before none lines later (inl r) e = none lines later (inl r) e
telling_needs_opening scope before none lines later (inr k) e =
    none (found_lines k.found) (texts k.others ++ later) (inr (record { found = k.found; shown = k.shown; all = refl }))
    (e ∙ ap Some (ap (λ ls. texts ls ++ later) k.all ∙ texts_split (found_lines k.found) k.others later))

pub telling_needs_posts : (scope : Scope) (parts : List MirrorView) (before middle : Option (List Item)) → HasFound scope before middle parts → NoneFirst IsOneRefusal before → NoneFirst (AreDuePortions portion scope parts) middle → NoneFirst (IsRefusedOr (IsTelling scope)) before
telling_needs_posts scope parts before middle found refusal none =
    unrefused_or refusal (λ lines later k e.
    let a = found_alike scope before middle (texts k.others ++ later) parts k.found found k.shown (e ∙ ap Some (ap (λ ls. texts ls ++ later) k.all ∙ texts_split (found_lines k.found) k.others later)) in
    none k.others later (subst (λ ms. AreDuePortions portion scope ms k.others) (sym a.0) k.behind) a.1)

-- a post that was read, with so many lines behind its first one, was applied
pub only_counted : (behind : ℕ) (seen : List ℕ) (before middle after : Option (List Item)) (post : PostView) (old new : List MirrorView) → ComeFirst before (seen ∷ []) middle → Some behind ≡ event_count (words seen) → IsOnlyPost seen middle after post → new ≡ mirrors_with old post
    → IsOnlyCounted behind old new before after
only_counted behind seen before middle after post old new there counts only make other rest valid e =
    let t = post_taken seen before middle rest (post_lines other) other there refl e in
    let o = only other t.0 rest valid t.1 t.2 in
    let many = event_many behind seen t.0 other counts valid t.1 in
    let all : length (seen ∷ t.0) ≡ length (post_lines other) = ap length t.1 in
    (omega (arith, many, all), make ∙ ap (mirrors_with old) (sym o.0), o.1)

-- posts that are due, counted by their lines
abbrev pub posts_due : Series
posts_due = post_series (due_to All) (λ n ls. ls ≡ [])

pub due_lines : (count : ℕ) (mirrors : List MirrorView) (lines : List (List ℕ)) → AreDueLines count mirrors lines → IsSeries (in_lines posts_due) (count, mirrors) lines
due_lines count mirrors lines d = are_in_lines posts_due count mirrors d.posts lines (d.valid, d.due) d.many d.all

-- how many lines the posts are that wait, and these
pub waiting_needs_count : (mirrors : List MirrorView) (seen : List ℕ) (before middle : Option (List Item)) → ComeFirst before (seen ∷ []) middle → is_refusal seen ≡ false → None ≡ waiting_count seen → NoneFirst (IsRefusedOr (IsWaiting mirrors)) before
waiting_needs_count mirrors seen before middle there tells counts =
    unrefused_or (no_refusal there tells) (λ lines later k e.
    let t = first_taken later there k.all e in
    let no : None ≡ Some k.count = counts ∙ ap waiting_count (sym t.0) ∙ k.counted in
    cc)

pub waiting_needs_posts : (count : ℕ) (mirrors : List MirrorView) (seen : List ℕ) (before middle : Option (List Item)) → ComeFirst before (seen ∷ []) middle → is_refusal seen ≡ false → Some count ≡ waiting_count seen → NoneFirst (AreDueLines count mirrors) middle
    → NoneFirst (IsRefusedOr (IsWaiting mirrors)) before
waiting_needs_posts count mirrors seen before middle there tells counts none =
    unrefused_or (no_refusal there tells) (λ lines later k e.
    let t = first_taken later there k.all e in
    let same : count ≡ k.count = same_Some count k.count (counts ∙ ap waiting_count (sym t.0) ∙ k.counted) in
    none k.others later (subst (λ n. AreDueLines n mirrors k.others) (sym same) k.posts) t.1)

-- what is missing, where more calls of a writer failed
pub missing_later : {A B : Type 0} {kind : List (List ℕ) → Type 0} {before : Option (List Item)} → (A → B) → IsMissing A kind before → IsMissing B kind before
missing_later f (inl none) = inl none
missing_later f (inr m) = inr (f m.0, m.1)

pub answer_later : {A B : Type 0} (line : List ℕ) (mirrors : List MirrorView) (opened : Option (List Item)) → (A → B) → IsMissingAnswer A line mirrors opened → IsMissingAnswer B line mirrors opened
answer_later line mirrors opened f (inl m) = inl (missing_later f m)
answer_later line mirrors opened f (inr m) = inr (m.0, m.1, missing_later f m.2)
