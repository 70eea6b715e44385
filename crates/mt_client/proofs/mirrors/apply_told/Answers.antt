use Rattle.std.proofs.Common.{◌++◌, Err, sym, ap, ◌∙◌}
use Rattle.mt_skel.proofs.MiddleLaws.{and-true}
use Rattle.mt_events.specs.Posts.{PostView}
use Rattle.mt_events.specs.Mirrors.{mirrored}
use Rattle.mt_render.specs.Events.{told_as}
use Rattle.mt_client.specs.Mirroring.{may_come}
use Rattle.mt_client.specs.Telling.{has_room, mirror_in}
use Rattle.mt_client.proofs.PlaceLaws.{found_there, others_there, applied_there, room_there, no_room_there, rises_with, first_false, second_false}
use Rattle.mt_client.proofs.RelayLaws.{same_fault}
use Rattle.mt_client.proofs.mirrors.apply_told.Goals as goal

pub returns-in_err-apply_next-clause-refused : goal.returns-in_err-apply_next-clause-refused
returns-in_err-apply_next-clause-refused c refused =
    let same = same_fault _ _ _ c.from_residual-in_err-apply_next.ensures.1 refused in
    let is =
    found_there c.args.post.now.space c.post.inside.space c.place_for-place.result c.as_slice.result.now c.args.mirrors.now.items c.take_at-mirror.result (ap (λ (p : PostView). p.space) c.post.view_is) c.as_slice.ensures.value
    c.requires.rising c.place_for-place.ensures.place c.take_at-mirror.ensures.there c.take_at-mirror.ensures.begun in
    first_false _ _ (ap (λ m. may_come m c.args.post.now) (sym is) ∙ c.in_err-apply_next.ensures.refused (ap Err same))

pub returns-in_err-put_at-clause-refused : goal.returns-in_err-put_at-clause-refused
returns-in_err-put_at-clause-refused c refused =
    let same = same_fault _ _ _ c.from_residual-in_err-put_at.ensures.1 refused in
    let is =
    found_there c.args.post.now.space c.post.inside.space c.place_for-place.result c.as_slice.result.now c.args.mirrors.now.items c.take_at-mirror.result (ap (λ (p : PostView). p.space) c.post.view_is) c.as_slice.ensures.value
    c.requires.rising c.place_for-place.ensures.place c.take_at-mirror.ensures.there c.take_at-mirror.ensures.begun in
    let others =
    others_there c.args.post.now.space c.post.inside.space c.place_for-place.result c.as_slice.result.now c.args.mirrors.now.items c.take_at-mirror.new.mirrors.items (ap (λ (p : PostView). p.space) c.post.view_is) c.as_slice.ensures.value
    c.requires.rising c.place_for-place.ensures.place c.take_at-mirror.ensures.taken in
    second_false _ _ (no_room_there c.args.post.now c.apply_next.new.mirror c.args.mirrors.now.items c.take_at-mirror.new.mirrors.items (c.in_ok-apply_next.ensures.applied.1 ∙ ap (λ m. mirrored m c.args.post.now) is) others (c.in_err-put_at.ensures.refused (ap Err same)))

pub returns : goal.returns
returns c =
    let is =
    found_there c.args.post.now.space c.post.inside.space c.place_for-place.result c.as_slice.result.now c.args.mirrors.now.items c.take_at-mirror.result (ap (λ (p : PostView). p.space) c.post.view_is) c.as_slice.ensures.value
    c.requires.rising c.place_for-place.ensures.place c.take_at-mirror.ensures.there c.take_at-mirror.ensures.begun in
    let others =
    others_there c.args.post.now.space c.post.inside.space c.place_for-place.result c.as_slice.result.now c.args.mirrors.now.items c.take_at-mirror.new.mirrors.items (ap (λ (p : PostView). p.space) c.post.view_is) c.as_slice.ensures.value
    c.requires.rising c.place_for-place.ensures.place c.take_at-mirror.ensures.taken in
    let applied =
    applied_there c.args.post.now c.post.inside.space c.place_for-place.result c.take_at-mirror.result c.apply_next.new.mirror c.as_slice.result.now c.args.mirrors.now.items c.take_at-mirror.new.mirrors.items c.put_at.new.mirrors.items
    (ap (λ (p : PostView). p.space) c.post.view_is) c.as_slice.ensures.value is c.in_ok-apply_next.ensures.applied.1 c.requires.rising c.place_for-place.ensures.place c.take_at-mirror.ensures.taken c.in_ok-put_at.ensures.put in
    record {
      told =
          c.in_ok-extend_from_slice.ensures.items ∙ ap (λ t. c.args.text.now.items ++ t) (c.as_slice-2.ensures.value ∙ c.in_ok-told.ensures.told ∙ ap (λ m. told_as c.args.telling c.args.name.now m c.args.post.now) is);
      applied = applied;
      next = and-true (may_come (mirror_in c.args.mirrors.now.items c.args.post.now.space) c.args.post.now) (has_room (mirrored (mirror_in c.args.mirrors.now.items c.args.post.now.space) c.args.post.now) c.args.mirrors.now.items)
          (ap (λ m. may_come m c.args.post.now) (sym is) ∙ c.in_ok-apply_next.ensures.applied.0)
          (room_there c.args.post.now c.apply_next.new.mirror c.args.mirrors.now.items c.take_at-mirror.new.mirrors.items (c.in_ok-apply_next.ensures.applied.1 ∙ ap (λ m. mirrored m c.args.post.now) is) others c.in_ok-put_at.ensures.few);
      refused = λ e. cc;
      rising = rises_with c.args.post.now c.args.mirrors.now.items c.put_at.new.mirrors.items c.requires.rising applied;
      kind = λ e. cc;
    }
