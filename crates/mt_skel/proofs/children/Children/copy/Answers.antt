use Rattle.std.proofs.Common.{◌∙◌}
use Rattle.std.proofs.lemmas.List.Elements.{same_from_all_zip}
use Rattle.mt_skel.proofs.ChildrenLaws.{copied_names}
use Rattle.mt_skel.proofs.children.Children.copy.Goals as goal

pub returns-clause-copy : goal.returns-clause-copy
returns-clause-copy c =
    copied_names (λ m. m.entries) _ (λ m n all. same_from_all_zip _ m.entries n.entries all (λ x y e. λ i. (e.0 i, e.1 i))) c.self.inside.maps.items c.in_ok-clone.field-0.items c.in_ok-clone.ensures.cases.0 ∙ c.self.view_is
