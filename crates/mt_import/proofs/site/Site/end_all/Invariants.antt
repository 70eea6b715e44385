use Rattle.std.proofs.Common.{◌≡◌, ◌++◌, drop}
use Rattle.std.specs.List.{flat_map}
use Rattle.mt_import.specs.Turns.{ended_at}
use Rattle.mt_import.proofs.site.Site.end_all.Given as goal

-- what was appended and what is left are all
abbrev pub invariant-numbers : goal.invariant-numbers
invariant-numbers l = l.script ++ flat_map (ended_at l.self.groups.now.all l.self.space.now l.self.stage.now l.space) (drop l.number-index l.numbers)
    ≡ l.initial.script ++ flat_map (ended_at l.self.groups.now.all l.self.space.now l.self.stage.now l.space) l.numbers
