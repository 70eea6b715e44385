-- Which lines a mirror waits for: an opening of one namespace, posts that follow it, and their end; or a refusal in the place of a line.
-- A word with no source is this project's rule.
use Rattle.std.specs.Prelude.{◌≡◌, ℕ, ◌≤◌, Bool, true, List, [], ◌∷◌, ◌++◌, length, Option, Some, ◌⊎◌}
use Rattle.std.specs.List.{flat_map, AllByRecursion}
use Rattle.mt_lines.specs.Lines.{Item}
use Rattle.mt_info.specs.Laws.{IsRow}
use Rattle.mt_info.specs.RowLine.{line}
use Rattle.mt_info.specs.Table.{row_id}
use Rattle.mt_events.specs.Posts.{PostView, post_lines}
use Rattle.mt_events.specs.Mirrors.{MirrorView}
use Rattle.mt_client.specs.Reading.{texts}
use Rattle.mt_client.specs.RisingLines.{IsLineAbove, AreRisingLines}
use Rattle.mt_client.specs.Mirroring.{IsSentPost, may_all_come, IsRefusal, IsShown, counted_line, opening_lines}

-- one line, which refuses
abbrev pub IsOneRefusal : List (List ℕ) → Type 0
IsOneRefusal lines = (refusal : List ℕ) × IsRefusal refusal × (lines ≡ refusal ∷ [])

-- one line that refuses, or lines of this kind
abbrev pub IsRefusedOr : (List (List ℕ) → Type 0) → List (List ℕ) → Type 0
IsRefusedOr kind lines = IsOneRefusal lines ⊎ kind lines

-- the line of a row with an ID above the last one, if there was one
abbrev pub IsRowAbove : Option ℕ → List (List ℕ) → Type 0
IsRowAbove last lines = IsLineAbove row_id line IsRow last lines

-- the lines of so many rows, by rising ID
abbrev pub AreRowLines : ℕ → List (List ℕ) → Type 0
AreRowLines count lines = AreRisingLines row_id line IsRow count lines

-- the lines of an opening of this namespace
pub record IsOpening (space : ℕ) (lines : List (List ℕ)) : Type 0 where
  pub found : MirrorView
  pub shown : IsShown found
  pub of : found.space ≡ space
  pub all : lines ≡ opening_lines found

-- the lines of a post that a test accepts
pub record IsSuchPost (test : PostView → Bool) (lines : List (List ℕ)) : Type 0 where
  pub post : PostView
  pub valid : IsSentPost post
  pub such : test post ≡ true
  pub all : lines ≡ post_lines post

-- the lines of a post behind its first one
abbrev pub IsPostBehind : List ℕ → List (List ℕ) → Type 0
IsPostBehind first others = (post : PostView) × IsSentPost post × (first ∷ others ≡ post_lines post)

-- where the lines of a post come behind a first line, it is this one, and all of them are read, and no others
abbrev pub IsOnlyPost : List ℕ → Option (List Item) → Option (List Item) → PostView → Type 0
IsOnlyPost first before after post = (other : PostView) (others : List (List ℕ)) (rest : List Item) → IsSentPost other → first ∷ others ≡ post_lines other → before ≡ Some (texts others ++ rest) → (other ≡ post) × (after ≡ Some rest)

-- where the lines of a post come first, it was applied, and all of them are read, and no others
abbrev pub IsOnlyApplied : {S : Type 0} → (S → PostView → S) → S → S → Option (List Item) → Option (List Item) → Type 0
IsOnlyApplied apply old new before after = (post : PostView) (rest : List Item) → IsSentPost post → before ≡ Some (texts (post_lines post) ++ rest) → (new ≡ apply old post) × (after ≡ Some rest)

-- the line behind so many posts: this end where all have come, or a refusal
abbrev pub IsLast : List ℕ → ℕ → ℕ → List ℕ → Type 0
IsLast end count taken last = ((taken ≡ count) × (last ≡ end)) ⊎ ((taken ≤ count) × IsRefusal last)

-- the lines of so many posts of which each is the next one of the mirror that those before it have made, and this end; or of fewer, and a refusal
pub record IsFollowing (end : List ℕ) (count : ℕ) (mirror : MirrorView) (lines : List (List ℕ)) : Type 0 where
  pub posts : List PostView
  pub last : List ℕ
  pub all : lines ≡ flat_map post_lines posts ++ last ∷ []
  pub valid : AllByRecursion IsSentPost posts
  pub next : may_all_come mirror posts ≡ true
  pub ends : IsLast end count (length posts) last

-- the line that ends so many posts
abbrev pub IsEnd : ℕ → List (List ℕ) → Type 0
IsEnd count lines = lines ≡ counted_line count ∷ []

-- the lines of an opening of this namespace and of so many posts that follow it, and their end; or a refusal behind the opening and some of the posts
pub record IsMirroring (space count : ℕ) (lines : List (List ℕ)) : Type 0 where
  pub found : MirrorView
  pub others : List (List ℕ)
  pub shown : IsShown found
  pub of : found.space ≡ space
  pub all : lines ≡ opening_lines found ++ others
  pub following : IsFollowing (counted_line count) count found others
