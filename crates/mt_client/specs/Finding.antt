-- What a watcher finds: the namespaces of its scope, each with the number of its last post and its table.
-- A word with no source is this project's rule.
use Rattle.std.specs.Prelude.{◌≡◌, ℕ, ◌+◌, ◌≤◌, List, [], ◌∷◌, map, length, Option, IsTrue, codes}
use Rattle.std.specs.List.{flat_map, AllByRecursion}
use Rattle.mt_skel.specs.Keyed.{rises}
use Rattle.mt_lines.specs.Lines.{Item}
use Rattle.mt_events.specs.Mirrors.{MirrorView}
use Rattle.mt_events.specs.declared.opening.Opening.{Opening}
use Rattle.mt_events.specs.declared.opening.Part.{Part}
use Rattle.mt_events.specs.declared.opening.Scope.{Scope}
use Rattle.mt_events.specs.declared.opening.Scope.TheVariants.{One, All}
use Rattle.mt_events.specs.Texts.{opening_text}
use Rattle.mt_client.specs.Limits.{most_opening_lines, most_spaces}
use Rattle.mt_client.specs.Requests.{numbered_text}
use Rattle.mt_client.specs.Reading.{printed, ComeFirst}
use Rattle.mt_client.specs.Mirroring.{IsShown, counted_line, part_lines}

-- the line of the request of a watcher
abbrev pub watch_text : Scope → List ℕ
watch_text (One space) = numbered_text (codes "watch") space
watch_text All = codes "watch all"

-- a mirror goes by its namespace
abbrev pub mirror_space : MirrorView → ℕ
mirror_space m = m.space

-- the lines of namespaces, one after another
abbrev pub parts_lines : List MirrorView → List (List ℕ)
parts_lines parts = flat_map part_lines parts

-- the lines of what a watcher finds: how many come for the namespaces, and then these
abbrev pub found_lines : List MirrorView → List (List ℕ)
found_lines parts = counted_line (length (parts_lines parts)) ∷ parts_lines parts

-- the namespaces of a scope: the one, or all that there are, by rising number, and no more than there may be
abbrev pub AreOf : Scope → List MirrorView → Type 0
AreOf (One space) parts = map mirror_space parts ≡ space ∷ []
AreOf All parts = IsTrue (rises mirror_space parts) × (length parts ≤ most_spaces)

-- namespaces that a server can show to a watcher of this scope, of no more lines than there may be
pub record AreShown (scope : Scope) (parts : List MirrorView) : Type 0 where
  pub each : AllByRecursion IsShown parts
  pub counted : length (parts_lines parts) ≤ most_opening_lines
  pub of : AreOf scope parts

-- a namespace as a server tells it to a watcher
abbrev pub part_found : MirrorView → Part
part_found m = record { space = m.space; number = m.number; table = m.rows }

-- the opening of a watcher that finds these namespaces
abbrev pub opening_found : Scope → List MirrorView → Opening
opening_found scope parts = record { scope = scope; parts = map part_found parts }

-- the lines that were read are those of these namespaces, which a server can show to a watcher of this scope
pub record HasFound (scope : Scope) (before after : Option (List Item)) (parts : List MirrorView) : Type 0 where
  pub shown : AreShown scope parts
  pub read : ComeFirst before (found_lines parts) after

-- lines were read that are the text of an opening that a server can show to a watcher of this scope
pub record HasWatched (scope : Scope) (before after : Option (List Item)) (parts : List MirrorView) : Type 0 where
  pub lines : List (List ℕ)
  pub shown : AreShown scope parts
  pub read : ComeFirst before lines after
  pub text : printed lines ≡ opening_text (opening_found scope parts)

-- the lines of what a watcher of this scope finds
pub record IsFinding (scope : Scope) (lines : List (List ℕ)) : Type 0 where
  pub found : List MirrorView
  pub shown : AreShown scope found
  pub all : lines ≡ found_lines found

-- the lines of a namespace, of which there are at most so many
pub record IsPartWithin (left : ℕ) (lines : List (List ℕ)) : Type 0 where
  pub found : MirrorView
  pub shown : IsShown found
  pub within : 1 + length found.rows ≤ left
  pub all : lines ≡ part_lines found

-- so many lines, which show namespaces
pub record ArePartLines (count : ℕ) (lines : List (List ℕ)) : Type 0 where
  pub found : List MirrorView
  pub shown : AllByRecursion IsShown found
  pub many : length (parts_lines found) ≡ count
  pub all : lines ≡ parts_lines found
