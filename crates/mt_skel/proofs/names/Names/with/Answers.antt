use Rattle.std.proofs.Common.{◌≡◌, true, [], ◌∷◌, ◌++◌, ap, ◌∙◌}
use Rattle.std.specs.List.{list_all}
use Rattle.mt_skel.specs.Names.{is_name, names_in, names_text}
use Rattle.mt_skel.proofs.NamesLaws.{one_more}
use Rattle.mt_skel.proofs.names.Names.with.Goals as goal

-- the text has one name more
longer : (c : goal.In_ok-extend_from_slice) → (let text = c.extend_from_slice.new.self.items in (names_in text ≡ names_in c.self.inside.text.items ++ c.args.name.now ∷ []) × ((text ≡ names_text (names_in text)) × (list_all is_name (names_in text) ≡ true)))
longer c =
    let added = c.in_ok-extend_from_slice.ensures.items ∙ ap (λ n. c.push.new.self.items ++ n) c.bytes.ensures.bytes in
    one_more c.self.inside.text.items c.push.new.self.items c.extend_from_slice.new.self.items c.args.name.now c.self.invariant.0 c.self.invariant.1 c.bytes.ensures.valid c.in_ok-push.ensures.items added

pub invariant_of-result : goal.invariant_of-result
invariant_of-result c = (longer c).1

pub returns : goal.returns
returns c = (longer c).0 ∙ ap (λ ns. ns ++ c.args.name.now ∷ []) c.self.view_is
