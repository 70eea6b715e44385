-- What a watcher is told in words: the posts that it is sent, each against the mirror of its namespace.
-- A word with no source is this project's rule.
use Rattle.std.specs.Prelude.{◌≡◌, ℕ, ◌==◌, ◌≤◌, cond, true, Bool, ◌&&◌, ◌||◌, nat_lt, List, [], ◌∷◌, ◌++◌, length, replicate, codes, fold, Option, ◌⊎◌}
use Rattle.std.specs.Io.KnownBytes.{Appends, Keeps}
use Rattle.std.specs.List.{flat_map, AllByRecursion}
use Rattle.std.specs.Option.{option_map_or}
use Rattle.mt_skel.specs.Keyed.{put, without, row_at}
use Rattle.mt_lines.specs.Lines.{Item}
use Rattle.mt_events.specs.Posts.{PostView, post_text, ended}
use Rattle.mt_events.specs.Mirrors.{MirrorView, mirrored}
use Rattle.mt_events.specs.Following.{names_space}
use Rattle.mt_events.specs.Texts.{count_text, opening_text, followed_text}
use Rattle.mt_events.specs.declared.opening.Scope.{Scope}
use Rattle.mt_render.specs.Named.{name_in}
use Rattle.mt_render.specs.Events.{told_as}
use Rattle.mt_client.specs.declared.named.NamedTelling.{NamedTelling}
use Rattle.mt_client.specs.declared.fault.ClientFault.{ClientFault}
use Rattle.mt_client.specs.declared.fault.ClientFault.TheVariants.{Connection, Output, NoMemory}
use Rattle.mt_client.specs.Limits.{most_spaces}
use Rattle.mt_client.specs.Requests.{numbered_text}
use Rattle.mt_client.specs.Reading.{printed, ComeFirst, IsCutOff, IsPart}
use Rattle.mt_client.specs.Mirroring.{IsSentPost, may_come, HasRefused}
use Rattle.mt_client.specs.Finding.{mirror_space, watch_text, AreShown, opening_found}

-- the mirror of a namespace that came later
abbrev pub mirror_begun : ℕ → MirrorView
mirror_begun n = record { space = n; number = 0; rows = [] }

-- the mirror of a namespace among these; one that came later begins at 0 with the empty table
abbrev pub mirror_in : List MirrorView → ℕ → MirrorView
mirror_in mirrors n = option_map_or (λ (m : MirrorView). m) (row_at mirror_space n mirrors) (mirror_begun n)

-- the mirrors with that of a namespace: one whose table is empty then was dropped, and comes no more
abbrev pub with_mirror : MirrorView → List MirrorView → List MirrorView
with_mirror m mirrors = cond (length m.rows == 0) (without (λ x. x.space == m.space) mirrors) (put mirror_space m mirrors)

-- there is room for a mirror: its table is empty, or there are fewer others than there may be namespaces
abbrev pub has_room : MirrorView → List MirrorView → Bool
has_room m mirrors = (length m.rows == 0) || nat_lt (length (without (λ x. x.space == m.space) mirrors)) most_spaces

-- the mirrors once a post was applied to that of its namespace
abbrev pub mirrors_with : List MirrorView → PostView → List MirrorView
mirrors_with mirrors p = with_mirror (mirrored (mirror_in mirrors p.space) p) mirrors

-- the mirrors once posts were applied, one after another
abbrev pub mirrors_by : List MirrorView → List PostView → List MirrorView
mirrors_by mirrors posts = fold mirrors_with mirrors posts

-- a post may come to its mirror, and there is room for that then
abbrev pub fits : List MirrorView → PostView → Bool
fits mirrors p = may_come (mirror_in mirrors p.space) p && has_room (mirrored (mirror_in mirrors p.space) p) mirrors

-- a post is of a namespace of the scope, and fits its mirror
abbrev pub is_due : Scope → List MirrorView → PostView → Bool
is_due scope mirrors p = names_space scope p.space && fits mirrors p

-- each of the posts is due to the mirrors that those before it have made
abbrev pub are_due : Scope → List MirrorView → List PostView → Bool
are_due scope mirrors [] = true
are_due scope mirrors (p ∷ ps) = is_due scope mirrors p && are_due scope (mirrors_with mirrors p) ps

-- a post as it is told, with the name of its namespace, and against the mirror of that among these
abbrev pub told_in : NamedTelling → List MirrorView → PostView → List ℕ
told_in named mirrors p = told_as named.telling (name_in named.names.now p.space) (mirror_in mirrors p.space) p

-- posts as they are told, each against the mirror that those before it have made
abbrev pub posts_told : NamedTelling → List MirrorView → List PostView → List ℕ
posts_told named mirrors [] = []
posts_told named mirrors (p ∷ ps) = told_in named mirrors p ++ posts_told named (mirrors_with mirrors p) ps

-- how many posts a request asks for
abbrev pub portion : ℕ
portion = 1048576

-- so many requests for posts
abbrev pub follows_text : ℕ → ℕ → List ℕ
follows_text count times = flat_map ended (replicate times (numbered_text (codes "follow") count))

-- the requests: that of a watcher, and so many for a portion of posts
abbrev pub telling_text : Scope → ℕ → List ℕ
telling_text scope times = ended (watch_text scope) ++ follows_text portion times

-- all posts: those of whole portions, and the rest
abbrev pub all_posts : List (List PostView) → List PostView → List PostView
all_posts portions rest = flat_map (λ posts. posts) portions ++ rest

-- their texts, with the end of each whole portion
abbrev pub portions_text : ℕ → List (List PostView) → List PostView → List ℕ
portions_text count portions rest = flat_map (λ posts. followed_text posts (count_text count)) portions ++ flat_map post_text rest

-- lines were read that are the text of an opening that a server can show, of whole portions of posts that are due, each with its end, and of at most one portion more
pub record HasCome (scope : Scope) (portions : List (List PostView)) (rest : List PostView) (before after : Option (List Item)) (found : List MirrorView) : Type 0 where
  pub lines : List (List ℕ)
  pub shown : AreShown scope found
  pub whole : AllByRecursion (λ posts. length posts ≡ portion) portions
  pub within : length rest ≤ portion
  pub valid : AllByRecursion IsSentPost (all_posts portions rest)
  pub due : are_due scope found (all_posts portions rest) ≡ true
  pub read : ComeFirst before lines after
  pub text : printed lines ≡ opening_text (opening_found scope found) ++ portions_text portion portions rest

-- and behind them a refusal
pub record HasTold (scope : Scope) (portions : List (List PostView)) (rest : List PostView) (refusal : List ℕ) (before after : Option (List Item)) (found : List MirrorView) : Type 0 where
  pub middle : Option (List Item)
  pub came : HasCome scope portions rest before middle found
  pub refused : HasRefused refusal middle after

-- what was printed of lines up to a fault: nothing, or of lines that were read a part, and not all
abbrev pub IsUnsaid : ClientFault → Option (List Item) → Option (List ℕ) → Option (List ℕ) → Type 0
IsUnsaid Output before old new = IsPart before old new
IsUnsaid Connection before old new = Keeps old new
IsUnsaid NoMemory before old new = Keeps old new

-- a post was read that is due, and a part of its words was printed, not all
pub record IsHalfTold (named : NamedTelling) (scope : Scope) (mirrors : List MirrorView) (before : Option (List Item)) (old new : Option (List ℕ)) : Type 0 where
  pub post : PostView
  pub lines : List (List ℕ)
  pub later : Option (List Item)
  pub valid : IsSentPost post
  pub due : is_due scope mirrors post ≡ true
  pub read : ComeFirst before lines later
  pub text : printed lines ≡ post_text post
  pub out : IsCutOff (told_in named mirrors post) old new

-- what was printed up to a fault, where these mirrors have followed
abbrev pub IsStopped : NamedTelling → ClientFault → Scope → List MirrorView → Option (List Item) → Option (List ℕ) → Option (List ℕ) → Type 0
IsStopped named fault scope mirrors before old new = IsUnsaid fault before old new ⊎ ((fault ≡ Output) × IsHalfTold named scope mirrors before old new)

-- the same of a whole telling: nothing was told, or posts that had come behind the opening
abbrev pub IsBrokenOff : NamedTelling → ClientFault → Scope → Option (List Item) → Option (List ℕ) → Option (List ℕ) → Type 0
IsBrokenOff named fault scope before old new =
    IsUnsaid fault before old new
    ⊎ ((found : List MirrorView) × (portions : List (List PostView)) × (rest : List PostView) × (middle : Option (List Item)) × (between : Option (List ℕ)) × HasCome scope portions rest before middle found
    × Appends old between (posts_told named found (all_posts portions rest)) × IsStopped named fault scope (mirrors_by found (all_posts portions rest)) middle between new)

-- lines were read that are this text, of these posts, which are due; they were told, and the mirrors have followed
pub record AreTold (named : NamedTelling) (scope : Scope) (posts : List PostView) (said : List ℕ) (old new : List MirrorView) (before after : Option (List Item)) (begun done : Option (List ℕ)) : Type 0 where
  pub lines : List (List ℕ)
  pub valid : AllByRecursion IsSentPost posts
  pub due : are_due scope old posts ≡ true
  pub make : new ≡ mirrors_by old posts
  pub read : ComeFirst before lines after
  pub text : printed lines ≡ said
  pub out : Appends begun done (posts_told named old posts)

-- one post was told
abbrev pub HasToldPost : NamedTelling → Scope → List MirrorView → List MirrorView → Option (List Item) → Option (List Item) → Option (List ℕ) → Option (List ℕ) → Type 0
HasToldPost named scope old new before after begun done = (post : PostView) × AreTold named scope (post ∷ []) (post_text post) old new before after begun done

-- so many posts were told
pub record HasToldSome (named : NamedTelling) (count : ℕ) (scope : Scope) (old new : List MirrorView) (before after : Option (List Item)) (begun done : Option (List ℕ)) : Type 0 where
  pub posts : List PostView
  pub many : length posts ≡ count
  pub told : AreTold named scope posts (flat_map post_text posts) old new before after begun done

-- so many posts were told, and their end was read
pub record HasToldPortion (named : NamedTelling) (count : ℕ) (scope : Scope) (old new : List MirrorView) (before after : Option (List Item)) (begun done : Option (List ℕ)) : Type 0 where
  pub posts : List PostView
  pub many : length posts ≡ count
  pub told : AreTold named scope posts (followed_text posts (count_text count)) old new before after begun done

-- portions of so many posts were told, and at most so many posts more
pub record HasToldSo (named : NamedTelling) (count : ℕ) (scope : Scope) (old new : List MirrorView) (before after : Option (List Item)) (begun done : Option (List ℕ)) : Type 0 where
  pub portions : List (List PostView)
  pub rest : List PostView
  pub whole : AllByRecursion (λ posts. length posts ≡ count) portions
  pub within : length rest ≤ count
  pub told : AreTold named scope (all_posts portions rest) (portions_text count portions rest) old new before after begun done

-- and behind them a refusal was read
pub record HasToldAll (named : NamedTelling) (count : ℕ) (scope : Scope) (refusal : List ℕ) (old : List MirrorView) (before after : Option (List Item)) (begun done : Option (List ℕ)) : Type 0 where
  pub made : List MirrorView
  pub middle : Option (List Item)
  pub so : HasToldSo named count scope old made before middle begun done
  pub refused : HasRefused refusal middle after

-- and it was printed
abbrev pub HasToldAllOut : NamedTelling → ℕ → Scope → List MirrorView → Option (List Item) → Option (List Item) → Option (List ℕ) → Option (List ℕ) → Type 0
HasToldAllOut named count scope old before after begun done =
    (refusal : List ℕ) × (between : Option (List ℕ)) × HasToldAll named count scope refusal old before after begun between × Appends between done (ended refusal)

-- posts were told up to a fault
pub record IsToldUpTo (named : NamedTelling) (fault : ClientFault) (count : ℕ) (scope : Scope) (old : List MirrorView) (before : Option (List Item)) (begun done : Option (List ℕ)) : Type 0 where
  pub made : List MirrorView
  pub middle : Option (List Item)
  pub between : Option (List ℕ)
  pub so : HasToldSo named count scope old made before middle begun between
  pub stopped : IsStopped named fault scope made middle between done
