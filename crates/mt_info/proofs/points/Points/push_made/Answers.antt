use Rattle.std.proofs.Common.{◌≡◌, ℕ, List, [], ◌∷◌, ◌++◌, ◌∙◌, refl, sym, ap, append_assoc, arith, unwrap_or, option_copied}
use Rattle.std.specs.List.{flat_map, list_all}
use Rattle.std.proofs.lemmas.Grind.{flat_map-append}
use Rattle.std.proofs.lemmas.Result.{on_ok_weaker}
use Rattle.mt_skel.specs.Escapes.{escaped}
use Rattle.mt_propagate.specs.declared.world.World.{World}
use Rattle.mt_propagate.specs.World.{world_view}
use Rattle.mt_info.specs.Table.{mount_point}
use Rattle.mt_info.specs.Steps.{is_step, step_names}
use Rattle.mt_info.proofs.FrontLaws.{front_same, front_through}
use Rattle.mt_info.proofs.points.Points.push_made.Goals as goal

pub returns-in_err-push_steps-clause-kept : goal.returns-in_err-push_steps-clause-kept
returns-in_err-push_steps-clause-kept c = front_through _ _ _ c.push_above.ensures.kept c.push_steps.ensures.kept

pub returns-clause-kept : goal.returns-clause-kept
returns-clause-kept c = front_through _ _ _ (front_through _ _ _ c.push_above.ensures.kept c.push_steps.ensures.kept) c.push_root.ensures.kept

pub returns-in_err-above-clause-kept : goal.returns-in_err-above-clause-kept
returns-in_err-above-clause-kept c = front_same _ _ refl

pub returns-in_err-push_above-clause-kept : goal.returns-in_err-push_above-clause-kept
returns-in_err-push_above-clause-kept c = c.push_above.ensures.kept

pub push_steps-requires : goal.push_steps-requires
push_steps-requires c =
    ap (λ (w : World). list_all (is_step w.skel) c.as_slice.result.now) c.self.view_is ∙ ap (list_all (is_step c.args.self.now.skel)) c.as_slice.ensures.value ∙ c.in_ok-above.ensures.steps

pub returns-clause-text : goal.returns-clause-text
returns-clause-text c =
    let skel = c.args.self.now.skel in
    let old = c.args.text.now.items in
    let names = mount_point (world_view c.args.self.now) c.args.mount.now.id in
    let above = unwrap_or (option_copied c.in_ok-above.above) [] in
    let steps = flat_map (step_names skel) c.way_down.new.way.items in
    let lies : List (List ℕ) → List ℕ = λ ns. flat_map (λ n. 47 ∷ escaped n) ns in
    let same = ap (λ (w : World). flat_map (step_names w.skel) c.as_slice.result.now) c.self.view_is ∙ ap (flat_map (step_names skel)) c.as_slice.ensures.value in
    let written : c.push_steps.new.text.items ≡ old ++ lies names =
    c.in_ok-push_steps.ensures.text ∙ ap (λ t. t ++ lies (flat_map (step_names c.self.inside.world.now.skel) c.as_slice.result.now)) c.in_ok-push_above.ensures.text
    ∙ append_assoc old (lies above) _ ∙ ap (λ ns. old ++ (lies above ++ lies ns)) same ∙ ap (λ t. old ++ t) (sym (flat_map-append (λ n. 47 ∷ escaped n) above steps))
    ∙ ap (λ ns. old ++ lies ns) (sym c.in_ok-above.ensures.point) in
    on_ok_weaker c.push_root.result (λ all. all old names (omega (arith, c.args.text.now.ok.0, c.len-start.ensures)) written) c.push_root.ensures.text
