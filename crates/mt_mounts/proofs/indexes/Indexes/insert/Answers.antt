use Rattle.std.proofs.Common.{None, Some, ap, ◌∙◌}
use Rattle.std.specs.Option.{option_map}
use Rattle.mt_lists.specs.Lists.{with_number}
use Rattle.mt_mounts.specs.Forest.{root_place}
use Rattle.mt_mounts.specs.Indexes.{over}
use Rattle.mt_mounts.proofs.WrittenLaws.{put_written}
use Rattle.mt_mounts.proofs.IndexLaws.{bare, indexed_written}
use Rattle.mt_mounts.proofs.indexes.Indexes.insert.Goals as goal

pub returns-clause-indexed : goal.returns-clause-indexed
returns-clause-indexed c =
    let m = c.args.mount in
    λ ms r single absent free x. indexed_written ms _ c.args.self.now _ r single x m.id None (Some m) absent (put_written ms r m) free c.enter.ensures.places
    (c.enter-2.ensures.rows ∙ ap (λ o. with_number m.id o c.args.self.now.roots.rows) c.rooted_in.ensures)
    (c.enter-3.ensures.stacked (over ms) (λ p e. ap (option_map root_place) (free p e)) (bare ms r m absent) x.stacked)
