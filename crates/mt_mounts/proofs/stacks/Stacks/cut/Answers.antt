use Rattle.std.proofs.Common.{◌≡◌, Some, subst}
use Rattle.indexmap.specs.IndexMap.{get}
use Rattle.mt_mounts.specs.declared.mount.Place.{Place}
use Rattle.mt_mounts.specs.declared.stacks.Reach.{Reach}
use Rattle.mt_mounts.specs.declared.stacks.Stacks.{Stacks}
use Rattle.mt_mounts.specs.Forest.{place_eq}
use Rattle.mt_mounts.specs.Stacks.{IsShortened}
use Rattle.mt_mounts.proofs.StackLaws.{stacked_unlinked}
use Rattle.mt_mounts.proofs.stacks.Stacks.cut.Goals as goal

pub returns-clause-stacked : goal.returns-clause-stacked
returns-clause-stacked c =
    let old = c.args.self.now in
    let ends = get place_eq c.shorten.new.ends in
    let new : Stacks = record { ends = c.forget.new.table; starts = c.forget-2.new.table } in
    let kept : (s : Place) (e : Reach) → ends s ≡ Some e → IsShortened c.args.place c.args.root (get place_eq old.starts c.args.place) s (get place_eq old.ends s) e =
    subst (λ o. (s : Place) (e : Reach) → ends s ≡ Some e → IsShortened c.args.place c.args.root o s (get place_eq old.ends s) e) c.reach_at-start.ensures c.shorten.ensures.ends in
    λ next only x. stacked_unlinked next c.args.place c.args.root only old new ends x kept c.forget.ensures.table c.forget-2.ensures.table
