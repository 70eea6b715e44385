use Rattle.std.proofs.Common.{rules, tests, ◌≡◌, ◌+◌, ap, sym, ◌∙◌}
use Rattle.std.specs.Option.{option_map}
use Rattle.std.specs.Str.{bytes_eq}
use Rattle.std.proofs.lemmas.Iterator.{YieldsList-from_slice}
use Rattle.std.proofs.lemmas.Iterator.Search.{position_from_yields_List}
use Rattle.mt_skel.specs.Skeleton.{fs_named}
use Rattle.mt_skel.specs.declared.skel.Filesystem.{Filesystem}
use Rattle.mt_skel.proofs.NodeLaws.{fs_numbered}
use Rattle.mt_skel.proofs.skel.Skel.fs.Goals.{After-position}
use Rattle.mt_skel.proofs.skel.Skel.fs.Goals as goal

-- the place that is found, and the number from it
numbered : (c : After-position) → option_map (λ i. i + 1) c.position.result ≡ fs_named c.args.self.now c.args.name.now
numbered c =
    let fs = c.self.inside.filesystems.items in
    let found = position_from_yields_List (λ (f : Filesystem). bytes_eq f.name c.args.name.now) _ _ c.position.result c.position.ensures.ran (YieldsList-from_slice fs (c.iter.ensures.rest ∙ c.deref.ensures.value)) (λ x b q k. search (rules, tests)) in
    fs_numbered fs c.self.inside.nodes.items c.args.name.now c.position.result found ∙ ap (λ v. fs_named v c.args.name.now) c.self.view_is

pub returns-in_err-at-clause-number : goal.returns-in_err-at-clause-number
returns-in_err-at-clause-number c = c.from_residual.ensures ∙ ap (option_map (λ i. i + 1)) (sym c.in_err-at.was) ∙ numbered (goal.at.returns-in_err-at-clause-number c).After-position

pub returns-clause-number : goal.returns-clause-number
returns-clause-number c = ap (option_map (λ i. i + 1)) (sym c.in_ok-at.was) ∙ numbered (goal.at.returns-clause-number c).After-position
