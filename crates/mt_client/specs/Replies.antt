-- Whole answers: a first line of the request's form or a refusal, and the rows, namespaces, posts and commands that come with it.
-- A word with no source is this project's rule.
use Rattle.std.specs.Prelude.{◌≡◌, ℕ, ◌+◌, ◌<◌, ◌≤◌, ◌^◌, Bool, true, false, List, [], ◌∷◌, ◌++◌, length, Option, Some}
use Rattle.std.specs.List.{flat_map, join_with_byte, AllByRecursion}
use Rattle.mt_lines.specs.Words.{words}
use Rattle.mt_info.specs.Laws.{IsRow}
use Rattle.mt_info.specs.RowLine.{line}
use Rattle.mt_info.specs.Table.{row_id}
use Rattle.mt_events.specs.Posts.{PostView, post_text}
use Rattle.mt_protocol.specs.Verbs.{has_command_verb}
use Rattle.mt_protocol.specs.declared.form.Form.{Form}
use Rattle.mt_protocol.specs.declared.form.Form.TheVariants.{Table, Locks, Opening, Posts, Commands, Followed}
use Rattle.mt_client.specs.declared.block.Block.{Block}
use Rattle.mt_client.specs.declared.block.Block.TheVariants.{Namespace, Post, Command}
use Rattle.mt_client.specs.Limits.{most_rows}
use Rattle.mt_client.specs.Requests.{verdict, is_refusal, lines_behind, event_count}
use Rattle.mt_client.specs.Reading.{printed}
use Rattle.mt_client.specs.Mirroring.{IsSentPost, counted_line, heading_words}
use Rattle.mt_client.specs.RisingLines.{IsLineOf}
use Rattle.mt_client.specs.Awaited.{AreRowLines}
use Rattle.mt_client.specs.Locked.{AreLockLines}

-- the line of the row of this ID, which is above the last one, if there was one
abbrev pub IsRowOf : Option ℕ → ℕ → List (List ℕ) → Type 0
IsRowOf last id lines = IsLineOf row_id line IsRow last id lines

-- the lines of a namespace: its number, that of its last post and how many rows it has, no more than there may be, and then so many rows
pub record IsPartLines (lines : List (List ℕ)) : Type 0 where
  pub space : ℕ
  pub number : ℕ
  pub count : ℕ
  pub rows : List (List ℕ)
  pub small : (space < 2 ^ 64) × (number < 2 ^ 64) × (count ≤ most_rows)
  pub all : lines ≡ join_with_byte 32 (heading_words space number count) ∷ rows
  pub valid : AreRowLines count rows

-- the lines of a post: the first tells how many follow, and all of them are its text
pub record IsPostLines (lines : List (List ℕ)) : Type 0 where
  pub first : List ℕ
  pub others : List (List ℕ)
  pub post : PostView
  pub all : lines ≡ first ∷ others
  pub counted : event_count (words first) ≡ Some (length others)
  pub valid : IsSentPost post
  pub text : printed lines ≡ post_text post

-- the line of a command
abbrev pub IsCommandLines : List (List ℕ) → Type 0
IsCommandLines lines = (line : List ℕ) × (has_command_verb line ≡ true) × (lines ≡ line ∷ [])

abbrev pub IsBlock : Block → List (List ℕ) → Type 0
IsBlock Namespace lines = IsPartLines lines
IsBlock Post lines = IsPostLines lines
IsBlock Command lines = IsCommandLines lines

-- such lines, and how many stand behind the first
abbrev pub IsBlockOf : Block → ℕ → List (List ℕ) → Type 0
IsBlockOf block behind lines = IsBlock block lines × (length lines ≡ 1 + behind)

-- lines of this kind, one after another
pub record AreBlocks (kind : List (List ℕ) → Type 0) (lines : List (List ℕ)) : Type 0 where
  pub blocks : List (List (List ℕ))
  pub each : AllByRecursion kind blocks
  pub all : lines ≡ flat_map (λ block. block) blocks

-- so many lines of namespaces, of posts, or of commands
abbrev pub AreBlockLines : Block → ℕ → List (List ℕ) → Type 0
AreBlockLines block count lines = AreBlocks (IsBlock block) lines × (length lines ≡ count)

-- so many lines behind the first line of an answer
abbrev pub AreBehind : Form → ℕ → List (List ℕ) → Type 0
AreBehind Table count lines = AreRowLines count lines
AreBehind Locks count lines = AreLockLines count lines
AreBehind Opening count lines = AreBlockLines Namespace count lines
AreBehind Posts count lines = AreBlockLines Post count lines
AreBehind Commands count lines = AreBlockLines Command count lines
AreBehind form count lines = (lines ≡ []) × (count ≡ 0)

-- a first line of this form, or a refusal, and the lines that come behind it
pub record IsHeaded (form : Form) (lines : List (List ℕ)) (told : Bool) : Type 0 where
  pub first : List ℕ
  pub others : List (List ℕ)
  pub count : ℕ
  pub all : lines ≡ first ∷ others
  pub tells : verdict first ≡ Some told
  pub counted : lines_behind form told first ≡ Some count
  pub behind : AreBehind form count others

-- the most posts of an answer, which no server reaches
abbrev pub most_posts : ℕ
most_posts = 18446744073709551615

-- the line behind so many posts: `ok` and their count, or a refusal
abbrev pub IsEnding : Bool → ℕ → List ℕ → Type 0
IsEnding true count last = last ≡ counted_line count
IsEnding false count last = is_refusal last ≡ true

-- posts, and the line that ends them
pub record IsFollowAnswer (lines : List (List ℕ)) (told : Bool) : Type 0 where
  pub posts : List (List (List ℕ))
  pub last : List ℕ
  pub each : AllByRecursion IsPostLines posts
  pub all : lines ≡ flat_map (λ post. post) posts ++ last ∷ []
  pub tells : verdict last ≡ Some told
  pub ends : IsEnding told (length posts) last
  pub bounded : length posts < most_posts

-- lines that are a whole answer of this form, which is `ok` or `no`
abbrev pub IsAnswer : Form → List (List ℕ) → Bool → Type 0
IsAnswer Followed lines told = IsFollowAnswer lines told
IsAnswer form lines told = IsHeaded form lines told
