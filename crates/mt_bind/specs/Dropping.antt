-- How the end of a namespace is worked out: its mounts go by their IDs. No public clause cites this module.
-- A word with no source is this project's rule.
use Rattle.std.specs.Prelude.{ℕ, List}
use Rattle.mt_skel.specs.Keyed.{among}
use Rattle.mt_peers.specs.Loss.{left}
use Rattle.mt_propagate.specs.World.{WorldView}
use Rattle.mt_propagate.specs.Carried.{staying}

-- a world without these mounts
abbrev pub without_mounts : WorldView → List ℕ → WorldView
without_mounts w ids = record w {
  forest = staying ids w.forest;
  peering = left (among ids) w.peering;
}
