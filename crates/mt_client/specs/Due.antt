-- Which lines a telling waits for: an opening, posts that are due in portions, each with its end, and a refusal in the place of a line.
-- A word with no source is this project's rule.
use Rattle.std.specs.Prelude.{◌≡◌, ℕ, ◌≤◌, ◌<◌, true, List, [], ◌∷◌, ◌++◌, length, Option, Some}
use Rattle.std.specs.List.{flat_map, AllByRecursion}
use Rattle.mt_lines.specs.Lines.{Item}
use Rattle.mt_events.specs.Posts.{PostView, post_lines}
use Rattle.mt_events.specs.Mirrors.{MirrorView}
use Rattle.mt_events.specs.declared.opening.Scope.{Scope}
use Rattle.mt_client.specs.Reading.{texts}
use Rattle.mt_client.specs.Mirroring.{IsSentPost, IsRefusal, counted_line}
use Rattle.mt_client.specs.Awaited.{IsLast}
use Rattle.mt_client.specs.Finding.{AreShown, found_lines}
use Rattle.mt_client.specs.Telling.{mirrors_by, are_due, portion, all_posts}

-- the lines of so many posts that are due, and their end; or of fewer, and a refusal
pub record AreDuePosts (count : ℕ) (scope : Scope) (mirrors : List MirrorView) (lines : List (List ℕ)) : Type 0 where
  pub posts : List PostView
  pub last : List ℕ
  pub all : lines ≡ flat_map post_lines posts ++ last ∷ []
  pub valid : AllByRecursion IsSentPost posts
  pub due : are_due scope mirrors posts ≡ true
  pub ends : IsLast (counted_line count) count (length posts) last

-- the most portions of a telling, which no server reaches
abbrev pub most_portions : ℕ
most_portions = 18446744073709551615

-- the lines of a portion, with its end
abbrev pub portion_lines : ℕ → List PostView → List (List ℕ)
portion_lines count posts = flat_map post_lines posts ++ counted_line count ∷ []

-- the lines of portions of so many posts that are due, of at most so many more, and a refusal
pub record AreDuePortions (count : ℕ) (scope : Scope) (mirrors : List MirrorView) (lines : List (List ℕ)) : Type 0 where
  pub portions : List (List PostView)
  pub rest : List PostView
  pub refusal : List ℕ
  pub whole : AllByRecursion (λ posts. length posts ≡ count) portions
  pub within : length rest ≤ count
  pub bounded : length portions < most_portions
  pub valid : AllByRecursion IsSentPost (all_posts portions rest)
  pub due : are_due scope mirrors (all_posts portions rest) ≡ true
  pub refused : IsRefusal refusal
  pub all : lines ≡ flat_map (portion_lines count) portions ++ (flat_map post_lines rest ++ refusal ∷ [])

-- the lines of an opening that a server can show, and of what is told behind it
pub record IsTelling (scope : Scope) (lines : List (List ℕ)) : Type 0 where
  pub found : List MirrorView
  pub others : List (List ℕ)
  pub shown : AreShown scope found
  pub all : lines ≡ found_lines found ++ others
  pub behind : AreDuePortions portion scope found others

-- where such posts come first, and their end or a refusal, they were so many, and applied, and all of these lines are read, and no others
abbrev pub AreOnlyApplied : ℕ → Scope → List MirrorView → List MirrorView → Option (List Item) → Option (List Item) → Type 0
AreOnlyApplied count scope old new before after =
    (lines : List (List ℕ)) (rest : List Item) → (d : AreDuePosts count scope old lines) → before ≡ Some (texts lines ++ rest) → (length d.posts ≡ count) × (IsRefusal d.last → ⊥) × (new ≡ mirrors_by old d.posts) × (after ≡ Some rest)
