-- What the words after a program give, one after another (mount(8), umount(8), unshare(1), nsenter(1)).
-- A word with no source is this project's rule.
use Rattle.std.specs.Prelude.{ℕ, Bool, true, false, List, [], ◌∷◌, fold, Option, None, Some, is_some, if◌then◌else◌, codes}
use Rattle.std.specs.Str.{bytes_eq}
use Rattle.mt_lines.specs.Words.{pieces}
use Rattle.mt_forms.specs.Attributes.{nothing_said, turned, turned_all}
use Rattle.mt_forms.specs.ListedWords.{listed_of}
use Rattle.mt_forms.specs.Tables.{all_made}
use Rattle.mt_forms.specs.declared.attribute.Attribute.{Attribute}
use Rattle.mt_forms.specs.declared.attribute.Attribute.TheVariants.{Nosuid, Nodev, Noexec}
use Rattle.mt_forms.specs.declared.attribute.Said.{Said}
use Rattle.mt_forms.specs.declared.command.Tool.{Tool}
use Rattle.mt_forms.specs.declared.command.Tool.TheVariants.{Mount, Umount, Unshare, Nsenter, PivotRoot}
use Rattle.mt_forms.specs.declared.operation.PropagationKind.TheVariants.{Shared, Private, Slave}
use Rattle.mt_forms.specs.declared.operation.Propagation.{Propagation}
use Rattle.mt_forms.specs.declared.operation.Reach.TheVariants as reach
use Rattle.mt_forms.specs.declared.given.Given.{Given}
use Rattle.mt_forms.specs.declared.given.Places.{Places}
use Rattle.mt_forms.specs.declared.given.Places.TheVariants as places
use Rattle.mt_forms.specs.declared.listed.Listed.{Listed}
use Rattle.mt_forms.specs.declared.listed.Listed.TheVariants as listed
use Rattle.mt_forms.specs.declared.slip.Slip.{Slip}
use Rattle.mt_forms.specs.declared.slip.Slip.TheVariants as slip
use Rattle.mt_forms.specs.declared.table.Change.{Change}
use Rattle.mt_forms.specs.declared.table.Change.TheVariants.{Bind, Rbind, Move}
use Rattle.mt_forms.specs.declared.table.Means.{Means}
use Rattle.mt_forms.specs.declared.table.Means.TheVariants as means

-- nothing is read yet
abbrev pub nothing_given : Given
nothing_given = record {
  waiting = None;
  has_ended = false;
  change = None;
  remounts = false;
  propagation = None;
  is_unchanged = false;
  said = nothing_said;
  has_list = false;
  kind = None;
  space = None;
  source = None;
  target = None;
  places = places.None;
  has_command = false;
  has_mounts = false;
  is_lazy = false;
  reach = reach.One;
  is_forced = false;
  is_less = false;
  foreign = None;
  has_more_foreign = false;
  slip = None;
}

-- of several things that are wrong the first is told
abbrev pub slipped : Slip → Given → Given
slipped slip g = if is_some g.slip then g else record g { slip = Some slip }

-- what more is said of attributes
abbrev pub with_said : Said → Given → Given
with_said said g = record g { said = said; has_list = true }

-- of bind, rbind and move a line asks for one
abbrev pub is_same_change : Change → Change → Bool
is_same_change Bind Bind = true
is_same_change Rbind Rbind = true
is_same_change Move Move = true
is_same_change one other = false

abbrev pub change_over : Option Change → Change → Given → Given
change_over None change g = record g { change = Some change }
change_over (Some first) change g = if is_same_change first change then g else slipped slip.TwoChanges g

abbrev pub with_one_change : Change → Given → Given
with_one_change change g = change_over g.change change g

-- a line asks for one propagation
abbrev pub propagation_over : Option Propagation → Propagation → Given → Given
propagation_over None propagation g = record g { propagation = Some propagation }
propagation_over (Some first) propagation g = slipped slip.TwoPropagations g

abbrev pub with_propagation : Propagation → Given → Given
with_propagation propagation g = propagation_over g.propagation propagation g

-- of the options of a filesystem the first is told
abbrev pub with_foreign : List ℕ → Given → Given
with_foreign word g = if is_some g.foreign then record g { has_more_foreign = true } else record g { foreign = Some word }

-- what `user` and `users` imply, and what `owner` and `group` do
abbrev pub users : List Attribute
users = Nosuid ∷ Nodev ∷ Noexec ∷ []

abbrev pub owners : List Attribute
owners = Nosuid ∷ Nodev ∷ []

-- what a word of the list of `-o` gives, by what it means
abbrev pub with_meaning : Option Listed → List ℕ → Given → Given
with_meaning None word g = with_foreign word g
with_meaning (Some (listed.Turns attribute on)) word g = with_said (turned on g.said attribute) g
with_meaning (Some listed.Users) word g = with_said (turned_all users g.said) g
with_meaning (Some listed.Owners) word g = with_said (turned_all owners g.said) g
with_meaning (Some (listed.Changes change)) word g = with_one_change change g
with_meaning (Some listed.Remounts) word g = record g { remounts = true }
with_meaning (Some (listed.Makes propagation)) word g = with_propagation propagation g
with_meaning (Some listed.Unseen) word g = g

abbrev pub with_listed : Given → List ℕ → Given
with_listed g word = with_meaning (listed_of word) word g

-- the list of `-o` has commas between its words
unfoldable pub with_list : List ℕ → Given → Given
with_list list g = fold with_listed (record g { has_list = true }) (pieces 44 list)

-- what the mounts of a new namespace are made (unshare(1), --propagation)
abbrev pub with_spread : List ℕ → Given → Given
with_spread word g =
    if bytes_eq word (codes "shared") then record g { propagation = Some (all_made Shared) }
    else (if bytes_eq word (codes "private") then record g { propagation = Some (all_made Private) }
    else (if bytes_eq word (codes "slave") then record g { propagation = Some (all_made Slave) }
    else (if bytes_eq word (codes "unchanged") then record g { is_unchanged = true }
    else slipped (slip.NoKind word) g)))

-- an option that has no value
abbrev pub with_option : Tool → Means → Given → Given
with_option tool (means.Changes change) g = with_one_change change g
with_option tool (means.Makes propagation) g = with_propagation propagation g
with_option tool (means.Turns attribute on) g = with_said (turned on g.said attribute) g
with_option tool means.Mounts g = record g { has_mounts = true }
with_option tool means.Lazy g = record g { is_lazy = true }
with_option tool (means.Reaches reach) g = record g { reach = reach }
with_option tool means.Forced g = record g { is_forced = true }
with_option tool means.Less g = record g { is_less = true }
with_option tool means.Fstab g = slipped (slip.Fstab tool) g
with_option tool m g = g

-- an option and its value
abbrev pub with_value : Tool → Means → List ℕ → Given → Given
with_value tool means.Options value g = with_list value g
with_value tool means.FilesystemType value g = record g { kind = Some value }
with_value tool means.Source value g = record g { source = Some value }
with_value tool means.Target value g = record g { target = Some value }
with_value tool means.Space value g = record g { space = Some value }
with_value tool means.Mounts value g = record g { has_mounts = true; space = Some value }
with_value tool means.Spread value g = with_spread value g
with_value tool m value g = with_option tool m g

-- a word that is no option: the first two are places
abbrev pub one_more_place : Places → List ℕ → Places
one_more_place places.None word = places.One word
one_more_place (places.One first) word = places.Two first word
one_more_place (places.Two first second) word = places.Many
one_more_place places.Many word = places.Many

-- of unshare(1) and nsenter(1) the first is a command, and the others are its own
abbrev pub runs_command : Tool → Bool
runs_command Unshare = true
runs_command Nsenter = true
runs_command Mount = false
runs_command Umount = false
runs_command PivotRoot = false

abbrev pub with_plain : Tool → List ℕ → Given → Given
with_plain tool word g = record g { places = one_more_place g.places word; has_command = runs_command tool }
