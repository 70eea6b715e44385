use Rattle.std.proofs.Common.{List, [], ◌∷◌, ◌++◌, cond, ap, ◌∙◌}
use Rattle.std.specs.List.{list_any}
use Rattle.mt_propagate.specs.Groups.{GroupKey, key_eq}
use Rattle.mt_propagate.specs.Keys.{key_view, keys_of}
use Rattle.mt_propagate.proofs.KeyListLaws.{keys-added}
use Rattle.mt_propagate.proofs.keys.NewKeys.add.Goals as goal

pub returns-clause-added : goal.returns-clause-added
returns-clause-added c =
    let k = c.args.key in
    ap keys_of c.in_ok-insert.ensures.keys ∙ keys-added k c.self.inside.keys.keys
    ∙ ap (λ (l : List GroupKey). cond (list_any (λ m. key_eq m (key_view k)) l) l (l ++ key_view k ∷ [])) c.self.view_is
