use Rattle.std.proofs.Common.{rules, sym, ap, ◌∙◌}
use Rattle.std.proofs.lemmas.List.Sorted.{answers_always}
use Rattle.mt_skel.proofs.SearchLaws.{found_at, not_found}
use Rattle.mt_skel.proofs.KeyedLaws.{row_at-key}
use Rattle.mt_render.proofs.PaletteLaws.{place_at, no_place}
use Rattle.mt_render.proofs.palette.place_among.Goals as goal

pub returns-in-Ok : goal.returns-in-Ok
returns-in-Ok c =
    let groups = c.args.groups.now in
    let equal = c.in-Ok.ensures.position (λ k. k) (answers_always _ _ _ (λ f a r g called. search rules)) in
    let found = found_at (λ k. k) c.args.group c.in-Ok.at groups 0 c.requires c.in-Ok.ensures.bound equal in
    place_at c.args.group c.in-Ok.at groups 0 c.requires c.in-Ok.ensures.bound (row_at-key (λ k. k) c.args.group groups _ (sym found))

pub returns-in-Err : goal.returns-in-Err
returns-in-Err c =
    let groups = c.args.groups.now in
    let parted = c.in-Err.ensures.position (λ k. k) (answers_always _ _ _ (λ f a r g called. search rules)) in
    no_place c.args.group groups (not_found (λ k. k) c.args.group c.in-Err.field-0 groups c.requires parted)
