-- Which lines are missing where the effects of a line are not told: what a watcher finds, an answer, or the posts of the watcher.
-- A word with no source is this project's rule.
use Rattle.std.specs.Prelude.{◌≡◌, ℕ, ◌+◌, Bool, true, List, ◌∷◌, ◌++◌, length, Option, Some, ◌⊎◌}
use Rattle.std.specs.List.{flat_map, AllByRecursion}
use Rattle.mt_lines.specs.Lines.{Item}
use Rattle.mt_events.specs.Posts.{PostView, post_lines}
use Rattle.mt_events.specs.Mirrors.{MirrorView}
use Rattle.mt_events.specs.declared.opening.Scope.TheVariants.{All}
use Rattle.mt_protocol.specs.Verbs.{form_of}
use Rattle.mt_client.specs.Requests.{waiting_count}
use Rattle.mt_client.specs.Mirroring.{IsSentPost}
use Rattle.mt_client.specs.Reading.{texts, HasRead, NoneFirst}
use Rattle.mt_client.specs.Replies.{IsAnswer}
use Rattle.mt_client.specs.Awaited.{IsOneRefusal, IsRefusedOr}
use Rattle.mt_client.specs.Finding.{HasFound, IsFinding}
use Rattle.mt_client.specs.Telling.{mirrors_with, are_due}

-- so many lines, which are those of posts that are due
pub record AreDueLines (count : ℕ) (mirrors : List MirrorView) (lines : List (List ℕ)) : Type 0 where
  pub posts : List PostView
  pub valid : AllByRecursion IsSentPost posts
  pub due : are_due All mirrors posts ≡ true
  pub many : length lines ≡ count
  pub all : lines ≡ flat_map post_lines posts

-- the lines of the posts that wait: how many they are, and then those of posts
pub record IsWaiting (mirrors : List MirrorView) (lines : List (List ℕ)) : Type 0 where
  pub first : List ℕ
  pub others : List (List ℕ)
  pub count : ℕ
  pub all : lines ≡ first ∷ others
  pub counted : waiting_count first ≡ Some count
  pub posts : AreDueLines count mirrors others

-- no lines of this kind come first, or a request did not go out and no refusal comes first
abbrev pub IsMissing : Type 0 → (List (List ℕ) → Type 0) → Option (List Item) → Type 0
IsMissing unsent kind before = NoneFirst kind before ⊎ (unsent × NoneFirst IsOneRefusal before)

-- no answer to a line comes first, or no posts that wait behind it
abbrev pub IsMissingAnswer : Type 0 → List ℕ → List MirrorView → Option (List Item) → Type 0
IsMissingAnswer unsent line mirrors opened =
    IsMissing unsent (λ lines. (told : Bool) × IsAnswer (form_of line) lines told) opened
    ⊎ ((answered : Option (List Item)) × HasRead (λ lines. IsAnswer (form_of line) lines true) opened answered × IsMissing unsent (IsRefusedOr (IsWaiting mirrors)) answered)

-- the same, or nothing that a watcher of all namespaces finds comes first
abbrev pub IsMissingEffect : Type 0 → List ℕ → Option (List Item) → Type 0
IsMissingEffect unsent line before =
    IsMissing unsent (IsRefusedOr (IsFinding All)) before
    ⊎ ((found : List MirrorView) × (opened : Option (List Item)) × HasFound All before opened found × IsMissingAnswer unsent line found opened)

-- where the lines of a post come first, so many stand behind its first one, it was applied, and all of them are read, and no others
abbrev pub IsOnlyCounted : ℕ → List MirrorView → List MirrorView → Option (List Item) → Option (List Item) → Type 0
IsOnlyCounted behind old new before after =
    (post : PostView) (rest : List Item) → IsSentPost post → before ≡ Some (texts (post_lines post) ++ rest) → (length (post_lines post) ≡ 1 + behind) × (new ≡ mirrors_with old post) × (after ≡ Some rest)
