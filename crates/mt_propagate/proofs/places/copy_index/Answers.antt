use Rattle.std.proofs.Common.{ap, arith}
use Rattle.mt_propagate.specs.Planned.{LayoutView, targets_in}
use Rattle.mt_propagate.proofs.PositionLaws.{count-fits, absent-target, absent-source, index-fits, present}
use Rattle.mt_propagate.proofs.places.copy_index.Goals as goal
use Rattle.mt_propagate.proofs.places.copy_index.Goals.{then-before-count-via-then-before-count, then-before-count-via-else-before-count+then-index-sources}

pub overflow_mul-result : goal.overflow_mul-result
overflow_mul-result c =
    let fits = count-fits c.args.target c.args.source c.layout.inside.sources (targets_in c.layout.inside.targets) c.args.layout.now.copies c.target_count-count.result c.len-sources.result c.target_index-before.result c.index_of-index.result (ap (λ (l : LayoutView). l.copies) c.layout.view_is) c.target_count-count.ensures c.len-sources.ensures.len c.target_index-before.ensures c.index_of-index.ensures.index c.requires in
    omega (arith, fits)

pub returns-then-before-count : goal.returns-then-before-count
returns-then-before-count c = elim c.then-before-count.branch [
  | then-before-count-via-then-before-count w ↦ absent-target c.args.target c.args.source c.layout.inside.sources (targets_in c.layout.inside.targets) c.args.layout.now.copies c.target_count-count.result c.len-sources.result c.target_index-before.result c.index_of-index.result (ap (λ (l : LayoutView). l.copies) c.layout.view_is) c.target_count-count.ensures c.len-sources.ensures.len c.target_index-before.ensures c.index_of-index.ensures.index w.if-before-count.true
  | then-before-count-via-else-before-count+then-index-sources w ↦ absent-source c.args.target c.args.source c.layout.inside.sources (targets_in c.layout.inside.targets) c.args.layout.now.copies c.target_count-count.result c.len-sources.result c.target_index-before.result c.index_of-index.result (ap (λ (l : LayoutView). l.copies) c.layout.view_is) c.target_count-count.ensures c.len-sources.ensures.len c.target_index-before.ensures c.index_of-index.ensures.index w.if-index-sources.true
]

pub overflow_mul-result-2 : goal.overflow_mul-result-2
overflow_mul-result-2 c =
    let fits = index-fits c.args.target c.args.source c.layout.inside.sources (targets_in c.layout.inside.targets) c.args.layout.now.copies c.target_count-count.result c.len-sources.result c.target_index-before.result c.index_of-index.result (ap (λ (l : LayoutView). l.copies) c.layout.view_is) c.target_count-count.ensures c.len-sources.ensures.len c.target_index-before.ensures c.index_of-index.ensures.index c.if-before-count.false c.if-index-sources.false c.requires in
    omega (arith, fits)

pub overflow_add-result : goal.overflow_add-result
overflow_add-result c =
    let fits = index-fits c.args.target c.args.source c.layout.inside.sources (targets_in c.layout.inside.targets) c.args.layout.now.copies c.target_count-count.result c.len-sources.result c.target_index-before.result c.index_of-index.result (ap (λ (l : LayoutView). l.copies) c.layout.view_is) c.target_count-count.ensures c.len-sources.ensures.len c.target_index-before.ensures c.index_of-index.ensures.index c.if-before-count.false c.if-index-sources.false c.requires in
    omega (arith, fits)

pub returns : goal.returns
returns c = present c.args.target c.args.source c.layout.inside.sources (targets_in c.layout.inside.targets) c.args.layout.now.copies c.target_count-count.result c.len-sources.result c.target_index-before.result c.index_of-index.result (ap (λ (l : LayoutView). l.copies) c.layout.view_is) c.target_count-count.ensures c.len-sources.ensures.len c.target_index-before.ensures c.index_of-index.ensures.index c.if-before-count.false c.if-index-sources.false
