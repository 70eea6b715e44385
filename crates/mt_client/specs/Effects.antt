-- What a line changes, told: its answer, and the posts that the watcher has then.
-- A word with no source is this project's rule.
use Rattle.std.specs.Prelude.{◌≡◌, ℕ, true, false, List, [], ◌∷◌, ◌++◌, length, Option, Some, codes, ◌⊎◌}
use Rattle.std.specs.List.{flat_map}
use Rattle.std.specs.Io.KnownBytes.{Appends}
use Rattle.mt_lines.specs.Lines.{Item}
use Rattle.mt_events.specs.Posts.{PostView, post_text, ended}
use Rattle.mt_events.specs.Mirrors.{MirrorView}
use Rattle.mt_events.specs.declared.opening.Scope.TheVariants.{All}
use Rattle.mt_client.specs.declared.named.NamedTelling.{NamedTelling}
use Rattle.mt_client.specs.declared.fault.ClientFault.{ClientFault}
use Rattle.mt_protocol.specs.Verbs.{form_of}
use Rattle.mt_client.specs.Requests.{waiting_count}
use Rattle.mt_client.specs.Reading.{ComeFirst, HasPassed, IsBroken}
use Rattle.mt_client.specs.Replies.{IsAnswer}
use Rattle.mt_client.specs.Mirroring.{HasRefused}
use Rattle.mt_client.specs.Finding.{watch_text, HasFound}
use Rattle.mt_client.specs.Telling.{AreTold, IsUnsaid, IsStopped}

-- so many lines were read that are the text of posts, each the next one of its namespace, which were told
pub record HasToldLines (named : NamedTelling) (count : ℕ) (old new : List MirrorView) (before after : Option (List Item)) (begun done : Option (List ℕ)) : Type 0 where
  pub posts : List PostView
  pub told : AreTold named All posts (flat_map post_text posts) old new before after begun done
  pub many : length told.lines ≡ count

-- a line was read that says how many lines posts are, and then these posts, which were told
pub record HasToldTaken (named : NamedTelling) (old new : List MirrorView) (before after : Option (List Item)) (begun done : Option (List ℕ)) : Type 0 where
  pub first : List ℕ
  pub middle : Option (List Item)
  pub count : ℕ
  pub read : ComeFirst before (first ∷ []) middle
  pub counted : waiting_count first ≡ Some count
  pub told : HasToldLines named count old new middle after begun done

-- the request for the posts that wait, the most that one may ask for
abbrev pub taking_text : List ℕ
taking_text = codes "take 1024"

-- the requests: of a watcher, the line, and that for the posts
abbrev pub effects_text : List ℕ → List ℕ
effects_text line = ended (watch_text All) ++ ended line ++ ended taking_text

-- what a watcher of all namespaces finds was read, and an answer to a line that is `ok`, which was printed, and then what had changed since, which was told
pub record HasEffects (named : NamedTelling) (line : List ℕ) (before after : Option (List Item)) (begun done : Option (List ℕ)) : Type 0 where
  pub found : List MirrorView
  pub made : List MirrorView
  pub opened : Option (List Item)
  pub answered : Option (List Item)
  pub between : Option (List ℕ)
  pub watched : HasFound All before opened found
  pub answer : HasPassed (λ lines. IsAnswer (form_of line) lines true) opened answered begun between
  pub changes : HasToldTaken named found made answered after between done

-- a refusal was read, and printed
abbrev pub IsRefusedOut : Option (List Item) → Option (List Item) → Option (List ℕ) → Option (List ℕ) → Type 0
IsRefusedOut before after old new = (refusal : List ℕ) × HasRefused refusal before after × Appends old new (ended refusal)

-- a refusal stood in the place of the answer to a line, or it is the answer, or in the place of what had changed since, and was printed
abbrev pub IsRefusedLine : List ℕ → Option (List Item) → Option (List Item) → Option (List ℕ) → Option (List ℕ) → Type 0
IsRefusedLine line opened after begun done =
    IsRefusedOut opened after begun done
    ⊎ HasPassed (λ lines. IsAnswer (form_of line) lines false) opened after begun done
    ⊎ ((answered : Option (List Item)) × (between : Option (List ℕ)) × HasPassed (λ lines. IsAnswer (form_of line) lines true) opened answered begun between × IsRefusedOut answered after between done)

-- the same, or one stood in the place of what a watcher of all namespaces finds
abbrev pub IsRefusedEffect : List ℕ → Option (List Item) → Option (List Item) → Option (List ℕ) → Option (List ℕ) → Type 0
IsRefusedEffect line before after begun done =
    IsRefusedOut before after begun done
    ⊎ ((found : List MirrorView) × (opened : Option (List Item)) × HasFound All before opened found × IsRefusedLine line opened after begun done)

-- posts were told up to a fault
pub record IsToldShort (named : NamedTelling) (fault : ClientFault) (old : List MirrorView) (before : Option (List Item)) (begun done : Option (List ℕ)) : Type 0 where
  pub count : ℕ
  pub made : List MirrorView
  pub middle : Option (List Item)
  pub between : Option (List ℕ)
  pub so : HasToldLines named count old made before middle begun between
  pub stopped : IsStopped named fault All made middle between done

-- up to a fault nothing was told, or posts behind a first line
abbrev pub IsTakenShort : NamedTelling → ClientFault → List MirrorView → Option (List Item) → Option (List ℕ) → Option (List ℕ) → Type 0
IsTakenShort named fault old before begun done =
    IsUnsaid fault before begun done
    ⊎ ((first : List ℕ) × (middle : Option (List Item)) × ComeFirst before (first ∷ []) middle × IsToldShort named fault old middle begun done)

-- up to a fault whole lines of an answer were printed, or all of it, and then posts
abbrev pub IsAnsweredShort : NamedTelling → ClientFault → List ℕ → List MirrorView → Option (List Item) → Option (List ℕ) → Option (List ℕ) → Type 0
IsAnsweredShort named fault line found opened begun done =
    IsBroken fault opened begun done
    ⊎ ((answered : Option (List Item)) × (between : Option (List ℕ)) × HasPassed (λ lines. IsAnswer (form_of line) lines true) opened answered begun between × IsTakenShort named fault found answered between done)

-- the same, or nothing was printed, since what a watcher finds did not come
abbrev pub IsEffectShort : NamedTelling → ClientFault → List ℕ → Option (List Item) → Option (List ℕ) → Option (List ℕ) → Type 0
IsEffectShort named fault line before begun done =
    IsUnsaid fault before begun done
    ⊎ ((found : List MirrorView) × (opened : Option (List Item)) × HasFound All before opened found × IsAnsweredShort named fault line found opened begun done)
