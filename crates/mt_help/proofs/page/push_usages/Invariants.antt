use Rattle.std.proofs.Common.{◌≡◌, ◌++◌, drop}
use Rattle.std.specs.List.{flat_map}
use Rattle.mt_help.specs.Pages.{usage_text}
use Rattle.mt_help.proofs.page.push_usages.Given as goal

-- the ways appended, and those to come
abbrev pub invariant-usages : goal.invariant-usages
invariant-usages l = l.text.items ++ flat_map usage_text (drop l.usage-index l.usages) ≡ l.initial.text.items ++ flat_map usage_text l.usages
