-- What a new namespace leads to, and that a well-formed world stays so.
use Rattle.std.proofs.Common.{ℕ, ◌+◌, ◌<◌, length, None, refl, arith}
use Rattle.mt_skel.specs.Skeleton.{root_of}
use Rattle.mt_mounts.specs.declared.mount.Mount.{Mount}
use Rattle.mt_mounts.specs.Attrs.{new_attrs}
use Rattle.mt_propagate.specs.World.{WorldView}
use Rattle.mt_propagate.specs.WellFormed.{IsWellFormed}
use Rattle.mt_propagate.proofs.WalkLaws.{root_fits}
use Rattle.mt_propagate.proofs.PrivateLaws.{private-kept}
use Rattle.mt_bind.specs.Spaces.{with_space}

-- the root mount of a new namespace
abbrev pub new_root : WorldView → ℕ → Mount
new_root w fs = record { id = w.next_mount; space = w.next_space; place = None; root = root_of w.skel fs; attrs = new_attrs }

-- a new namespace keeps a world well-formed, if the root directory of the filesystem is there
pub space-kept : (w : WorldView) (fs : ℕ) → IsWellFormed w → root_of w.skel fs < length w.skel.directories → IsWellFormed (with_space w fs)
unfolding with_space
space-kept w fs h there =
    private-kept w (new_root w fs) (w.next_space + 1) h (root_fits w (new_root w fs) h refl refl refl) refl h.from_one.1 (omega arith) (omega arith) there
