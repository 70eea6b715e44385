-- Words that set attributes, where a mount is new or is changed.
-- A word with no source is this project's rule.
use Rattle.std.specs.Prelude.{Bool, false, cond, ◌&&◌, ◌||◌}
use Rattle.mt_mounts.specs.declared.mount.Attrs.{Attrs}
use Rattle.mt_mounts.specs.declared.mount.Atime.TheVariants.{Relatime, Noatime, Strictatime}
use Rattle.mt_setattr.specs.declared.change.ClrWords.{ClrWords}
use Rattle.mt_setattr.specs.declared.change.SetWords.{SetWords}

-- nothing is set
abbrev pub nothing_set : SetWords
nothing_set = record { ro = false; nosuid = false; nodev = false; noexec = false; nosymfollow = false; nodiratime = false; relatime = false; noatime = false; strictatime = false }

-- something is set, or taken away (mount_setattr(2), attr_set and attr_clr)
abbrev pub sets_some : SetWords → Bool
sets_some s = s.ro || s.nosuid || s.nodev || s.noexec || s.nosymfollow || s.nodiratime || s.relatime || s.noatime || s.strictatime

abbrev pub clears_some : ClrWords → Bool
clears_some c = c.ro || c.nosuid || c.nodev || c.noexec || c.nosymfollow || c.nodiratime || c.atime

-- two access times are set (mount_setattr(2), MOUNT_ATTR__ATIME and EINVAL; that relatime is one of them is this project's rule)
abbrev pub sets_two_times : SetWords → Bool
sets_two_times s = s.relatime && s.noatime || s.relatime && s.strictatime || s.noatime && s.strictatime

-- a new mount has what is set, and is rw,relatime where nothing else is said (mount(2), MS_RDONLY and the other flags of a mount;
-- MS_RELATIME)
abbrev pub new_with : SetWords → Attrs
new_with s = record {
  ro = s.ro;
  nosuid = s.nosuid;
  nodev = s.nodev;
  noexec = s.noexec;
  nosymfollow = s.nosymfollow;
  nodiratime = s.nodiratime;
  atime = cond s.noatime Noatime (cond s.strictatime Strictatime Relatime);
}
