use Rattle.std.proofs.Common.{◌≡◌, ◌++◌, [], drop}
use Rattle.mt_import.specs.Turns.{turns_from}
use Rattle.mt_import.proofs.site.Site.make_tree.Given as goal

-- what was appended and what is left are all
abbrev pub invariant-mounts : goal.invariant-mounts
invariant-mounts l =
    l.script ++ turns_from l.self.groups.now.all l.self.space.now l.self.stage.now l.space l.open.items l.number (drop l.number l.mounts)
    ≡ l.initial.script ++ turns_from l.self.groups.now.all l.self.space.now l.self.stage.now l.space [] 0 l.mounts
