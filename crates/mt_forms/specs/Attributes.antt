-- Attributes of a mount, and what options say of them (mount(2), mountflags; mount(8), the options of any filesystem).
-- A word with no source is this project's rule.
use Rattle.std.specs.Prelude.{Bool, true, false, not, ◌&&◌, ◌||◌, List, fold}
use Rattle.mt_forms.specs.declared.attribute.Attribute.{Attribute}
use Rattle.mt_forms.specs.declared.attribute.Attribute.TheVariants.{Ro, Nosuid, Nodev, Noexec, Nosymfollow, Nodiratime, Relatime, Noatime, Strictatime}
use Rattle.mt_forms.specs.declared.attribute.Attributes.{Attributes}
use Rattle.mt_forms.specs.declared.attribute.Said.{Said}

-- no attribute
abbrev pub no_attributes : Attributes
no_attributes = record { ro = false; nosuid = false; nodev = false; noexec = false; nosymfollow = false; nodiratime = false; relatime = false; noatime = false; strictatime = false }

-- an attribute is among these
abbrev pub has_attribute : Attribute → Attributes → Bool
has_attribute Ro a = a.ro
has_attribute Nosuid a = a.nosuid
has_attribute Nodev a = a.nodev
has_attribute Noexec a = a.noexec
has_attribute Nosymfollow a = a.nosymfollow
has_attribute Nodiratime a = a.nodiratime
has_attribute Relatime a = a.relatime
has_attribute Noatime a = a.noatime
has_attribute Strictatime a = a.strictatime

-- these attributes, with one of them or without it
abbrev pub with_attribute : Attribute → Bool → Attributes → Attributes
with_attribute Ro on a = record a { ro = on }
with_attribute Nosuid on a = record a { nosuid = on }
with_attribute Nodev on a = record a { nodev = on }
with_attribute Noexec on a = record a { noexec = on }
with_attribute Nosymfollow on a = record a { nosymfollow = on }
with_attribute Nodiratime on a = record a { nodiratime = on }
with_attribute Relatime on a = record a { relatime = on }
with_attribute Noatime on a = record a { noatime = on }
with_attribute Strictatime on a = record a { strictatime = on }

-- one of them says when times of access are updated
abbrev pub is_timed : Attributes → Bool
is_timed a = a.nodiratime || a.relatime || a.noatime || a.strictatime

-- nothing is said
abbrev pub nothing_said : Said
nothing_said = record { set = no_attributes; clear = no_attributes }

-- an attribute is to be, or not; of two words the later one counts (mount(8), -o)
abbrev pub turned : Bool → Said → Attribute → Said
turned on s attribute = record { set = with_attribute attribute on s.set; clear = with_attribute attribute (not on) s.clear }

abbrev pub turned_all : List Attribute → Said → Said
turned_all attributes s = fold (turned true) s attributes

-- what is said, over the attributes that a mount had
abbrev pub laid_over : Attributes → Said → Attributes
laid_over old s = record {
  ro = (old.ro && not s.clear.ro) || s.set.ro;
  nosuid = (old.nosuid && not s.clear.nosuid) || s.set.nosuid;
  nodev = (old.nodev && not s.clear.nodev) || s.set.nodev;
  noexec = (old.noexec && not s.clear.noexec) || s.set.noexec;
  nosymfollow = (old.nosymfollow && not s.clear.nosymfollow) || s.set.nosymfollow;
  nodiratime = (old.nodiratime && not s.clear.nodiratime) || s.set.nodiratime;
  relatime = (old.relatime && not s.clear.relatime) || s.set.relatime;
  noatime = (old.noatime && not s.clear.noatime) || s.set.noatime;
  strictatime = (old.strictatime && not s.clear.strictatime) || s.set.strictatime;
}
