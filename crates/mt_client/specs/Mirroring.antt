-- What a mirror reads: the opening of a watcher of one namespace, posts that follow it, and their end.
-- A word with no source is this project's rule.
use Rattle.std.specs.Prelude.{◌≡◌, ℕ, ◌+◌, ◌≤◌, ◌<◌, ◌^◌, Bool, true, ◌&&◌, nat_le, List, [], ◌∷◌, ◌++◌, map, length, IsTrue, Option, Some, codes, decimal, ◌⊎◌}
use Rattle.std.specs.List.{flat_map, join_with_byte, AllByRecursion}
use Rattle.mt_skel.specs.Keyed.{rises}
use Rattle.mt_lines.specs.Lines.{Item}
use Rattle.mt_lines.specs.Words.{words}
use Rattle.mt_info.specs.Table.{row_id}
use Rattle.mt_info.specs.Laws.{IsRow}
use Rattle.mt_info.specs.RowLine.{line}
use Rattle.mt_events.specs.Posts.{PostView, IsPost, post_text, ended}
use Rattle.mt_events.specs.Mirrors.{MirrorView, is_next, mirrored, mirrored_by}
use Rattle.mt_events.specs.declared.opening.Opening.{Opening}
use Rattle.mt_events.specs.declared.opening.Scope.TheVariants.{One}
use Rattle.mt_events.specs.Texts.{count_text, opening_text, followed_text}
use Rattle.mt_client.specs.Limits.{most_rows}
use Rattle.mt_client.specs.Requests.{is_refusal, numbered_text, event_count}
use Rattle.mt_client.specs.Reading.{printed, ComeFirst}

-- the line of an answer `ok` with a number
abbrev pub counted_line : ℕ → List ℕ
counted_line n = codes "ok " ++ decimal n

-- the words of the first line of a namespace: it, the number of its last post, and how many rows follow
abbrev pub heading_words : ℕ → ℕ → ℕ → List (List ℕ)
heading_words space number count = codes "space" ∷ decimal space ∷ decimal number ∷ decimal count ∷ []

abbrev pub heading_line : MirrorView → List ℕ
heading_line m = join_with_byte 32 (heading_words m.space m.number (length m.rows))

-- the lines of a namespace
abbrev pub part_lines : MirrorView → List (List ℕ)
part_lines m = heading_line m ∷ map line m.rows

-- the lines of what a watcher of one namespace finds
abbrev pub opening_lines : MirrorView → List (List ℕ)
opening_lines m = counted_line (1 + length m.rows) ∷ part_lines m

-- the opening of a watcher of one namespace
abbrev pub opening_with : MirrorView → Opening
opening_with m = record { scope = One m.space; parts = record { space = m.space; number = m.number; table = m.rows } ∷ [] }

-- a line that refuses
abbrev pub IsRefusal : List ℕ → Type 0
IsRefusal line = is_refusal line ≡ true

-- what is true of every namespace that a server shows: numbers of 64 bits, and no more rows than there may be, by rising ID
pub record IsShown (m : MirrorView) : Type 0 where
  pub space : m.space < 2 ^ 64
  pub number : m.number < 2 ^ 64
  pub counted : length m.rows ≤ most_rows
  pub rows : AllByRecursion IsRow m.rows
  pub rising : IsTrue (rises row_id m.rows)

-- what is true of every post that a server sends: no more mounts left a table, and no more rows come, than there may be
pub record IsSentPost (p : PostView) : Type 0 where
  pub valid : IsPost p
  pub gone : length p.gone ≤ most_rows
  pub rows : length p.rows ≤ most_rows

-- a post that may come to a mirror: the next one, and the table has no more rows then than there may be
abbrev pub may_come : MirrorView → PostView → Bool
may_come m p = is_next m p && nat_le (length (mirrored m p).rows) most_rows

-- each of the posts may come to the mirror that those before it have made
abbrev pub may_all_come : MirrorView → List PostView → Bool
may_all_come m [] = true
may_all_come m (p ∷ ps) = may_come m p && may_all_come (mirrored m p) ps

-- posts of which each may come to the mirror that those before it have made, and the mirror that they make
pub record AreMirrored (posts : List PostView) (old new : MirrorView) : Type 0 where
  pub are : may_all_come old posts ≡ true
  pub make : new ≡ mirrored_by old posts

-- these lines were read of an opening that a server can show, and are its text
pub record HasOpened (space : ℕ) (before after : Option (List Item)) (found : MirrorView) : Type 0 where
  pub shown : IsShown found
  pub of : found.space ≡ space
  pub read : ComeFirst before (opening_lines found) after

-- lines were read that are, behind a first line that tells how many they are, the text of this post
pub record IsPosted (first : List ℕ) (before after : Option (List Item)) (post : PostView) : Type 0 where
  pub others : List (List ℕ)
  pub counted : event_count (words first) ≡ Some (length others)
  pub read : ComeFirst before others after
  pub text : printed (first ∷ others) ≡ post_text post

-- lines were read that are the text of a next post
pub record HasFollowed (before after : Option (List Item)) (old new : MirrorView) : Type 0 where
  pub lines : List (List ℕ)
  pub post : PostView
  pub valid : IsSentPost post
  pub read : ComeFirst before lines after
  pub text : printed lines ≡ post_text post
  pub follows : AreMirrored (post ∷ []) old new

-- lines were read that are the texts of so many next posts
pub record HasFollowedSome (count : ℕ) (before after : Option (List Item)) (old new : MirrorView) : Type 0 where
  pub lines : List (List ℕ)
  pub posts : List PostView
  pub valid : AllByRecursion IsSentPost posts
  pub read : ComeFirst before lines after
  pub text : printed lines ≡ flat_map post_text posts
  pub many : length posts ≡ count
  pub follows : AreMirrored posts old new

-- lines were read that are the texts of so many next posts, and their end
pub record HasFollowedAll (count : ℕ) (before after : Option (List Item)) (old new : MirrorView) : Type 0 where
  pub lines : List (List ℕ)
  pub posts : List PostView
  pub valid : AllByRecursion IsSentPost posts
  pub read : ComeFirst before lines after
  pub text : printed lines ≡ followed_text posts (count_text count)
  pub many : length posts ≡ count
  pub follows : AreMirrored posts old new

-- one line was read, which refuses
pub record HasRefused (refusal : List ℕ) (before after : Option (List Item)) : Type 0 where
  pub is : IsRefusal refusal
  pub read : ComeFirst before (refusal ∷ []) after

-- lines were read that are the text of the opening of this namespace and of so many posts that follow it, and their end; the mirror that they make
pub record HasMirrored (space count : ℕ) (before after : Option (List Item)) (made : MirrorView) : Type 0 where
  pub found : MirrorView
  pub posts : List PostView
  pub lines : List (List ℕ)
  pub shown : IsShown found
  pub valid : AllByRecursion IsSentPost posts
  pub of : found.space ≡ space
  pub read : ComeFirst before lines after
  pub text : printed lines ≡ opening_text (opening_with found) ++ followed_text posts (count_text count)
  pub many : length posts ≡ count
  pub follows : AreMirrored posts found made

-- a refusal was read behind fewer posts than were to come
pub record IsRefusedMidway (count : ℕ) (refusal : List ℕ) (before after : Option (List Item)) (old new : MirrorView) : Type 0 where
  pub taken : ℕ
  pub middle : Option (List Item)
  pub few : taken ≤ count
  pub some : HasFollowedSome taken before middle old new
  pub refused : HasRefused refusal middle after

-- a refusal was read in the place of an opening, or behind one and some of its posts
abbrev pub IsRefused : ℕ → ℕ → List ℕ → Option (List Item) → Option (List Item) → Type 0
IsRefused space count refusal before after =
    HasRefused refusal before after
    ⊎ ((found : MirrorView) × (made : MirrorView) × (middle : Option (List Item)) × HasOpened space before middle found × IsRefusedMidway count refusal middle after found made)

-- the lines of the requests of a mirror
abbrev pub requests_text : ℕ → ℕ → List ℕ
requests_text space count = ended (numbered_text (codes "watch") space) ++ ended (numbered_text (codes "follow") count)
