use Rattle.std.proofs.Common.{◌≡◌, ◌++◌, drop}
use Rattle.std.specs.List.{flat_map}
use Rattle.mt_help.specs.Pages.{refusal_said_text}
use Rattle.mt_help.proofs.page.push_all_said.Given as goal

-- the refusals appended, and those to come
abbrev pub invariant-said : goal.invariant-said
invariant-said l = l.text.items ++ flat_map refusal_said_text (drop l.one-index l.said) ≡ l.initial.text.items ++ flat_map refusal_said_text l.said
