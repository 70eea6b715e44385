-- What a line does to the attributes of a mount (mount(2), MS_REMOUNT with MS_BIND; util-linux 2.38), and how `setattr` says it.
-- A word with no source is this project's rule.
use Rattle.std.specs.Prelude.{ℕ, Bool, true, false, not, ◌&&◌, ◌||◌, if◌then◌else◌, List, [], ◌∷◌, ◌++◌, codes}
use Rattle.std.specs.List.{flat_map}
use Rattle.mt_forms.specs.Attributes.{no_attributes, has_attribute, is_timed, laid_over}
use Rattle.mt_forms.specs.declared.attribute.Attribute.{Attribute}
use Rattle.mt_forms.specs.declared.attribute.Attribute.TheVariants.{Ro, Nosuid, Nodev, Noexec, Nosymfollow, Nodiratime, Relatime, Noatime, Strictatime}
use Rattle.mt_forms.specs.declared.attribute.Attributes.{Attributes}
use Rattle.mt_forms.specs.declared.attribute.Said.{Said}
use Rattle.mt_forms.specs.declared.setting.Setting.{Setting}

-- mount(8) sets attributes of a bind if one is asked for, but for strict access times alone
abbrev pub is_passed : Attributes → Bool
is_passed a = a.ro || a.nosuid || a.nodev || a.noexec || a.nosymfollow || a.nodiratime || a.relatime || a.noatime

abbrev pub are_none : Attributes → Bool
are_none a = not (is_passed a) && not a.strictatime

abbrev pub no_setting : Setting
no_setting = record { set = no_attributes; clear = no_attributes; clears_atime = false }

-- of access times the strict one counts, then none at all, then the relative one (mount(2))
abbrev pub timed_by : Attributes → Attributes
timed_by a =
    if a.strictatime then record a { relatime = false; noatime = false }
    else (if a.noatime then record a { relatime = false } else record a { relatime = true })

-- those that are cleared where exactly these are set
abbrev pub without_others : Attributes → Bool → Attributes
without_others a timed = record {
  ro = not a.ro;
  nosuid = not a.nosuid;
  nodev = not a.nodev;
  noexec = not a.noexec;
  nosymfollow = not a.nosymfollow;
  nodiratime = timed && not a.nodiratime;
  relatime = false;
  noatime = false;
  strictatime = false;
}

-- exactly these are set, and access times stay as they are where none of these says anything of them (mount(2), MS_REMOUNT)
abbrev pub set_exactly : Attributes → Setting
set_exactly a =
    if is_timed a then record { set = timed_by a; clear = without_others a true; clears_atime = true }
    else record { set = a; clear = without_others a false; clears_atime = false }

-- a bind with attributes is remounted with these alone, and so without those of its source (mount(8), util-linux 2.38)
abbrev pub for_bind : Said → Setting
for_bind s = if is_passed s.set then set_exactly s.set else no_setting

-- a remount reads the attributes that there are, and lays what is said over them (mount(8), remount)
abbrev pub for_remount : Said → Attributes → Setting
for_remount s old = set_exactly (laid_over old s)

-- a new mount has what is said of it; relative access times are those of any new mount
abbrev pub for_new : Said → Attributes
for_new s = record (timed_by s.set) { relatime = false }

abbrev pub is_empty_setting : Setting → Bool
is_empty_setting c = are_none c.set && are_none c.clear && not c.clears_atime

-- the word of an attribute
abbrev pub attribute_word : Attribute → List ℕ
attribute_word Ro = codes "ro"
attribute_word Nosuid = codes "nosuid"
attribute_word Nodev = codes "nodev"
attribute_word Noexec = codes "noexec"
attribute_word Nosymfollow = codes "nosymfollow"
attribute_word Nodiratime = codes "nodiratime"
attribute_word Relatime = codes "relatime"
attribute_word Noatime = codes "noatime"
attribute_word Strictatime = codes "strictatime"

abbrev pub all_attributes : List Attribute
all_attributes = Ro ∷ Nosuid ∷ Nodev ∷ Noexec ∷ Nosymfollow ∷ Nodiratime ∷ Relatime ∷ Noatime ∷ Strictatime ∷ []

-- the words of the attributes that are there, each after a comma
abbrev pub listed_word : Attributes → Attribute → List ℕ
listed_word a attribute = if has_attribute attribute a then 44 ∷ attribute_word attribute else []

unfoldable pub attribute_words : Attributes → List ℕ
attribute_words a = flat_map (listed_word a) all_attributes

-- an option with its list, which has a comma before each word, if there is one
abbrev pub option_text : List ℕ → List ℕ → List ℕ
option_text key [] = []
option_text key (comma ∷ words) = key ++ words

abbrev pub cleared_words : Setting → List ℕ
cleared_words c = attribute_words c.clear ++ (if c.clears_atime then codes ",atime" else [])

-- the attributes that are set, and the options of `setattr`
abbrev pub set_option : Attributes → List ℕ
set_option a = option_text (codes " set=") (attribute_words a)

abbrev pub setting_text : Setting → List ℕ
setting_text c = set_option c.set ++ option_text (codes " clr=") (cleared_words c)
