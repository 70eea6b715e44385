use Rattle.std.proofs.Common.{rules, ◌≡◌, ◌==◌, not, true, false, sym, ap, ◌∙◌}
use Rattle.std.specs.List.{filter}
use Rattle.std.specs.Option.{is_some}
use Rattle.std.proofs.lemmas.Fn.{filter_same}
use Rattle.mt_skel.specs.Counted.{occ}
use Rattle.mt_mounts.specs.Forest.{mount_at}
use Rattle.mt_mounts.proofs.SubtreeLaws.{members-there, members-absent}
use Rattle.mt_mounts.proofs.forest.Forest.members.Goals as goal

pub returns-then-is_some-clause-members : goal.returns-then-is_some-clause-members
returns-then-is_some-clause-members c =
    let known : is_some (mount_at c.args.self.now.mounts c.args.id) ≡ true = ap is_some (sym c.get.ensures) ∙ sym c.is_some.ensures ∙ c.if-is_some.true in
    members-there c.args.self.now.mounts c.args.id c.in_ok-ids.ids.items c.in_ok-ids.ensures.rising known c.in_ok-ids.ensures.gathered

pub returns-clause-members : goal.returns-clause-members
returns-clause-members c q =
    let unknown : is_some (mount_at c.args.self.now.mounts c.args.id) ≡ false = ap is_some (sym c.get.ensures) ∙ sym c.is_some.ensures ∙ c.if-is_some.false in
    let kept : c.retain.new.self.items ≡ filter (λ j. not (j == c.args.id)) c.in_ok-ids.ids.items = filter_same _ (λ j. not (j == c.args.id)) _ (λ x b f' k. search rules) _ _ c.retain.ensures.filtered in
    ap (occ q) kept ∙ members-absent c.args.self.now.mounts c.args.id c.in_ok-ids.ids.items c.in_ok-ids.ensures.rising unknown c.in_ok-ids.ensures.gathered q
