use Rattle.std.proofs.Common.{sym, ap, ◌∙◌}
use Rattle.std.specs.List.{position_or_len}
use Rattle.mt_propagate.specs.Groups.{key_eq}
use Rattle.mt_propagate.specs.Keys.{key_view}
use Rattle.mt_propagate.proofs.KeyListLaws.{is_key, key-index, index-is, index-none}
use Rattle.mt_propagate.proofs.keys.NewKeys.index_of.Goals as goal

pub returns-in-Some : goal.returns-in-Some
returns-in-Some c =
    let k = c.args.key in
    let ks = c.self.inside.keys.keys in
    record { index = index-is (is_key k) ks c.in-Some.index (sym c.get_index_of.ensures.index ∙ c.in-Some.is) ∙ key-index k ks ∙ ap (position_or_len (key_eq (key_view k))) c.self.view_is }

pub returns-in-None : goal.returns-in-None
returns-in-None c =
    let k = c.args.key in
    let ks = c.self.inside.keys.keys in
    record { index = c.len.ensures.len ∙ index-none (is_key k) ks (sym c.get_index_of.ensures.index ∙ c.in-None.is) ∙ key-index k ks ∙ ap (position_or_len (key_eq (key_view k))) c.self.view_is }
