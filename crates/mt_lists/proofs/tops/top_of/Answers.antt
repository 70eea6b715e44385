use Rattle.std.proofs.Common.{◌≡◌, Some, ap, sym, ◌∙◌}
use Rattle.std.proofs.lemmas.Bool.Decides.{Decides-eqb}
use Rattle.std.proofs.lemmas.Map.Made.{lookup_key_same}
use Rattle.mt_lists.proofs.tops.top_of.Goals as goal

pub returns-clause-there : goal.returns-clause-there
returns-clause-there c =
    let key : c.args.number ≡ c.in_ok-at.field-0-1.now = lookup_key_same Decides-eqb c.args.number c.args.tops.now.entries c.in_ok-at.field-0-1.now (sym c.in_ok-at.ensures.key) in
    c.in_ok-at.ensures.entry ∙ ap (λ k. Some (k, c.in_ok-at.top.now)) (sym key)
