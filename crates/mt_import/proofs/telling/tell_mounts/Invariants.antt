use Rattle.std.proofs.Common.{◌≡◌, ◌++◌, drop}
use Rattle.mt_import.specs.Telling.{mounts_text}
use Rattle.mt_import.proofs.telling.tell_mounts.Given as goal

-- what was appended and what is left are all
abbrev pub invariant-mounts : goal.invariant-mounts
invariant-mounts l = l.script ++ mounts_text l.table (drop l.mount-index l.mounts) l.others.rest.now ≡ l.initial.script ++ mounts_text l.table l.mounts l.ways
