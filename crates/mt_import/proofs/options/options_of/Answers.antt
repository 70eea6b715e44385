use Rattle.std.proofs.Common.{List, map, ◌∙◌, ap, Bor, ℕ}
use Rattle.std.specs.Option.{option_map}
use Rattle.mt_import.specs.Options.{with_flags}
use Rattle.mt_import.proofs.CommandLaws.{options_joined}
use Rattle.mt_import.proofs.options.options_of.Goals as goal

pub returns : goal.returns
returns c =
    options_joined c.args.options.now (option_map (λ word. word.now) c.args.kind) c.new-text.result.items c.push_flags.new.text.items
    c.push_times.new.text.items c.push_kind.new.text.items c.new-text.ensures.items
    (c.in_ok-push_flags.ensures ∙ ap (λ (fs : List (Bor (List ℕ))). with_flags c.args.options.now c.new-text.result.items (map (λ flag. flag.now) fs)) c.as_slice.ensures)
    c.in_ok-push_times.ensures c.in_ok-push_kind.ensures
