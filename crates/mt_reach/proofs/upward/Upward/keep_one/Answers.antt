use Rattle.std.proofs.Common.{◌∙◌, sym, ap}
use Rattle.mt_reach.specs.Tree.{leads_up}
use Rattle.mt_reach.specs.Upward.{UpwardView}
use Rattle.mt_reach.proofs.FoundLaws.{found_more}
use Rattle.mt_reach.proofs.upward.Upward.keep_one.Goals as goal

pub invariant_of-self-2 : goal.invariant_of-self-2
invariant_of-self-2 c =
    let v : UpwardView = record { rows = c.self.inside.rows.now; step = c.self.inside.step; goal = c.self.inside.goal } in
    found_more v c.self.inside.found c.insert.new.self c.args.number c.args.met c.self.invariant
    (c.requires ∙ ap (λ (u : UpwardView). leads_up u.rows u.step u.goal c.args.number) (sym c.self.view_is))
    c.in_ok-insert.ensures.updates.0
