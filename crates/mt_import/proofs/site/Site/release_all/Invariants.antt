use Rattle.std.proofs.Common.{◌≡◌, ◌++◌, drop, map}
use Rattle.std.specs.List.{flat_map}
use Rattle.mt_import.specs.Hook.{release_text}
use Rattle.mt_import.proofs.site.Site.release_all.Given as goal

-- what was appended and what is left are all
abbrev pub invariant-paths : goal.invariant-paths
invariant-paths l = l.script ++ flat_map (release_text l.self.space.now l.hook) (map (λ path. path.items) (drop l.path-index l.paths))
    ≡ l.initial.script ++ flat_map (release_text l.self.space.now l.hook) (map (λ path. path.items) l.paths)
