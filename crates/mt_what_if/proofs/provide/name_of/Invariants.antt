use Rattle.std.proofs.Common.{◌≡◌, drop}
use Rattle.std.specs.List.{find}
use Rattle.mt_what_if.specs.Provided.{goes_by_name}
use Rattle.mt_what_if.proofs.provide.name_of.Given as goal

-- the filesystem goes by none of the names passed
abbrev pub invariant-known : goal.invariant-known
invariant-known l = find (goes_by_name l.skel l.fs) (drop l.name-index l.known) ≡ find (goes_by_name l.skel l.fs) l.known
