use Rattle.std.proofs.Common.{◌∙◌}
use Rattle.mt_lists.proofs.TyingLaws.{tied-more}
use Rattle.mt_lists.proofs.TiedLaws.{top-small}
use Rattle.mt_lists.proofs.tying.tie.Goals as goal

pub grown-top-requires : goal.grown-top-requires
grown-top-requires g c = record { small = top-small _ _ c.args.tops.now c.requires.tied c.args.number c.requires.few c.top_of-found.result c.top_of-found.ensures.top }

pub returns-clause-tied : goal.returns-clause-tied
returns-clause-tied g c =
    tied-more _ _ c.args.tops.now c.requires.tied c.args.place c.args.id c.args.number c.requires.free c.requires.absent c.place_for-before.result c.follower-after.result c.place_for-before.ensures c.follower-after.ensures
    _ _ _ c.put.ensures.ties c.set_after.ensures.ties c.set_before.ensures.ties _ (c.set_before.ensures.rows ∙ c.set_after.ensures.rows ∙ c.put.ensures.rows)
    _ c.put_top.new.tops c.top_of-found.ensures.top (rw c.grown-top.ensures at c.put_top.ensures.top)
