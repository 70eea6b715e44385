use Rattle.std.proofs.Common.{◌≡◌, ◌∙◌, true, false, ◌&&◌, ◌||◌, not, is_some, sym, ap}
use Rattle.std.proofs.lemmas.Bool.{or_right}
use Rattle.mt_skel.specs.Keyed.{has}
use Rattle.mt_propagate.specs.World.{world_view}
use Rattle.mt_info.specs.Table.{row_id, table_of}
use Rattle.mt_events.specs.ByMount.{new_row}
use Rattle.mt_events.proofs.NewsLaws.{arrived-new, other-new}
use Rattle.mt_events.proofs.comparison.is_plain_news.Goals as goal

pub returns-then-not-was_there : goal.returns-then-not-was_there
returns-then-not-was_there c =
    let a = table_of (world_view c.args.before.now) c.args.space in
    let b = table_of (world_view c.args.after.now) c.args.space in
    let out : has row_id c.args.id a ≡ false = sym c.is_in-was_there.ensures ∙ c.if-not-was_there.true in
    record {
      news = λ e.
          ap (λ o. (o && not (has row_id c.args.id b)) || is_some (new_row a b c.args.id)) out ∙ arrived-new a b c.args.id out ∙ sym c.is_in-is_there.ensures ∙ e;
    }

pub returns : goal.returns
returns c =
    let v = world_view c.args.before.now in
    let w = world_view c.args.after.now in
    let a = table_of v c.args.space in
    let b = table_of w c.args.space in
    let there : has row_id c.args.id b ≡ true = sym c.is_in-is_there.ensures ∙ c.if-not-is_there.false in
    record {
      news = λ e.
          or_right (has row_id c.args.id a && not (has row_id c.args.id b)) (is_some (new_row a b c.args.id))
          (sym (other-new v w c.args.space c.args.id c.requires.before c.requires.after there (c.is_other.ensures.rows e)));
    }
