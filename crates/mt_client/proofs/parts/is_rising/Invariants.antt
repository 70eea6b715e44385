use Rattle.std.proofs.Common.{◌≡◌, drop}
use Rattle.mt_skel.specs.Keyed.{rises}
use Rattle.mt_skel.specs.Rising.{rises_after}
use Rattle.mt_client.specs.Finding.{mirror_space}
use Rattle.mt_client.proofs.parts.is_rising.Given as goal

-- all numbers rise exactly if those to come rise, all of them above the last one
abbrev pub invariant-parts : goal.invariant-parts
invariant-parts l = rises_after mirror_space l.last (drop l.part-index l.parts) ≡ rises mirror_space l.parts
