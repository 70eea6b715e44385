-- Steps on the ways to mounts. No public clause cites this module.
-- A word with no source is this project's rule.
use Rattle.std.specs.Prelude.{ℕ, Bool, ◌&&◌, List}
use Rattle.mt_skel.specs.Skeleton.{Skeleton, is_directory, path_below}
use Rattle.mt_info.specs.declared.points.Step.{Step}

-- the directories of a step are there
abbrev pub is_step : Skeleton → Step → Bool
is_step s t = is_directory s t.root && is_directory s t.dir

-- the names that a step adds: from the root of the parent down to the place (proc_pid_mountinfo(5), field 5)
abbrev pub step_names : Skeleton → Step → List (List ℕ)
step_names s t = path_below s t.root t.dir
