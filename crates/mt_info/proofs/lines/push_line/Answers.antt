use Rattle.std.proofs.Common.{◌≡◌, Some, ◌++◌, ◌∙◌, refl, ap, sym, subst}
use Rattle.mt_skel.specs.Front.{IsFront}
use Rattle.mt_skel.specs.Skeleton.{filesystem}
use Rattle.mt_mounts.specs.Forest.{mount_at}
use Rattle.mt_peers.specs.declared.state.State.{State}
use Rattle.mt_propagate.specs.declared.world.World.{World}
use Rattle.mt_propagate.specs.World.{world_view}
use Rattle.mt_propagate.specs.WellFormed.{IsWellFormed}
use Rattle.mt_propagate.specs.FromGroup.{from_group}
use Rattle.mt_info.specs.declared.row.Row.{Row}
use Rattle.mt_info.specs.RowLine.{line, tag_words, path_text}
use Rattle.mt_info.specs.Building.{behind, numbers_text, end_text}
use Rattle.mt_info.specs.Table.{row_of, mount_point}
use Rattle.mt_info.proofs.FrontLaws.{front_same, front_through, front_of_three, front_of_four}
use Rattle.mt_info.proofs.PrintLaws.{line_appended}
use Rattle.mt_info.proofs.lines.push_line.Goals.{After-push_options}
use Rattle.mt_info.proofs.lines.push_line.Goals as goal

pub returns-clause-line : goal.returns-clause-line
returns-clause-line c =
    let m = c.args.mount.now in
    let w = c.world-world.result.now in
    let r : Row = row_of (world_view w) m in
    let before = c.args.text.now.items in
    let same = c.world-world.ensures in
    let minor = c.fs_of-minor.ensures.fs in
    let via = c.in_ok-via.ensures.group ∙ ap (λ (v : World). from_group (world_view v) m.id) (sym same) in
    let numbers =
    c.in_ok-push_numbers.ensures.text ∙ ap (λ p. before ++ numbers_text m.id p c.fs_of-minor.result) c.parent_or_itself.ensures
    ∙ ap (λ k. before ++ numbers_text m.id r.parent k) minor in
    let tags =
    c.in_ok-push_tags.ensures.text
    ∙ ap (λ (s : State). c.push_options.new.text.items ++ behind 32 (tag_words s.group s.master c.in_ok-via.via s.unbindable)) c.state_of-state.ensures
    ∙ ap (λ v. c.push_options.new.text.items ++ behind 32 (tag_words r.shared r.master v r.unbindable)) via in
    let kind = c.kind.ensures ∙ ap (λ k. (filesystem w.skel k).kind) minor in
    let source = c.source.ensures ∙ ap (λ k. (filesystem w.skel k).source) minor in
    let point = c.in_ok-push_point.ensures.text ∙ ap (λ (v : World). c.push.new.self.items ++ path_text (mount_point (world_view v) m.id)) (c.in_ok-via.ensures.kept ∙ sym same) in
    let end =
    c.in_ok-push_end.ensures.text ∙ ap (λ k. c.push_tags.new.text.items ++ end_text k c.source.result.now) kind
    ∙ ap (λ s. c.push_tags.new.text.items ++ end_text r.kind s) source in
    line_appended r before c.push_numbers.new.text.items c.push_dir.new.text.items c.push.new.self.items c.push_point.new.text.items c.push-2.new.self.items
    c.push_options.new.text.items c.push_tags.new.text.items c.push_end.new.text.items
    numbers c.in_ok-push_dir.ensures.text c.in_ok-push.ensures.items point c.in_ok-push-2.ensures.items c.in_ok-push_options.ensures.text tags end
    ∙ ap (λ (v : World). before ++ line (row_of (world_view v) m)) same

pub returns-clause-kept : goal.returns-clause-kept
returns-clause-kept c = (_, returns-clause-line c)

-- what stood in the text stays in front of what is appended up to the options
begun : (c : After-push_options) → IsFront c.args.text.now.items c.push_options.new.text.items
begun c =
    front_through _ _ _ (front_of_four _ _ _ _ _ c.push_numbers.ensures.kept c.push_dir.ensures.kept (_, c.in_ok-push.ensures.items) c.push_point.ensures.kept)
    (front_through _ _ _ (_, c.in_ok-push-2.ensures.items) c.push_options.ensures.kept)

pub returns-in_err-push_dir-clause-kept : goal.returns-in_err-push_dir-clause-kept
returns-in_err-push_dir-clause-kept c = front_through _ _ _ c.push_numbers.ensures.kept c.push_dir.ensures.kept

pub returns-in_err-push_point-clause-kept : goal.returns-in_err-push_point-clause-kept
returns-in_err-push_point-clause-kept c = front_of_four _ _ _ _ _ c.push_numbers.ensures.kept c.push_dir.ensures.kept (_, c.in_ok-push.ensures.items) c.push_point.ensures.kept

pub returns-in_err-push_options-clause-kept : goal.returns-in_err-push_options-clause-kept
returns-in_err-push_options-clause-kept c = begun (goal.at.returns-in_err-push_options-clause-kept c).After-push_options

pub returns-in_err-push_tags-clause-kept : goal.returns-in_err-push_tags-clause-kept
returns-in_err-push_tags-clause-kept c = front_through _ _ _ (begun (goal.at.returns-in_err-push_tags-clause-kept c).After-push_options) c.push_tags.ensures.kept

pub returns-in_err-push_end-clause-kept : goal.returns-in_err-push_end-clause-kept
returns-in_err-push_end-clause-kept c =
    front_through _ _ _ (begun (goal.at.returns-in_err-push_end-clause-kept c).After-push_options) (front_through _ _ _ c.push_tags.ensures.kept c.push_end.ensures.kept)

pub push_point-requires-clause-well_formed : goal.push_point-requires-clause-well_formed
push_point-requires-clause-well_formed c = subst (λ (w : World). IsWellFormed (world_view w)) (sym c.in_ok-via.ensures.kept) c.requires.well_formed

pub push_point-requires-clause-there : goal.push_point-requires-clause-there
push_point-requires-clause-there c =
    let m = c.args.mount.now in
    subst (λ (w : World). mount_at w.forest.mounts m.id ≡ Some m) (sym c.in_ok-via.ensures.kept) c.requires.there

pub returns-in_err-via-clause-kept : goal.returns-in_err-via-clause-kept
returns-in_err-via-clause-kept c = front_same _ _ refl

pub returns-in_err-push_numbers-clause-kept : goal.returns-in_err-push_numbers-clause-kept
returns-in_err-push_numbers-clause-kept c = c.push_numbers.ensures.kept

pub returns-in_err-push-clause-kept : goal.returns-in_err-push-clause-kept
returns-in_err-push-clause-kept c = front_of_three _ _ _ _ c.push_numbers.ensures.kept c.push_dir.ensures.kept (front_same _ _ c.in_err-push.ensures.items)

pub returns-in_err-push-2-clause-kept : goal.returns-in_err-push-2-clause-kept
returns-in_err-push-2-clause-kept c =
    front_through _ _ _ (front_of_four _ _ _ _ _ c.push_numbers.ensures.kept c.push_dir.ensures.kept (_, c.in_ok-push.ensures.items) c.push_point.ensures.kept)
    (front_same _ _ c.in_err-push-2.ensures.items)
