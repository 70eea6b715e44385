-- The attributes of mounts.
-- A word with no source is this project's rule.
use Rattle.std.specs.Prelude.{false}
use Rattle.mt_mounts.specs.declared.mount.Attrs.{Attrs}
use Rattle.mt_mounts.specs.declared.mount.Atime.TheVariants.{Relatime}

-- A mount that asks for nothing else is rw,relatime, as the kernel's are.
abbrev pub new_attrs : Attrs
new_attrs = record { ro = false; nosuid = false; nodev = false; noexec = false; nosymfollow = false; nodiratime = false; atime = Relatime }
