use Rattle.std.proofs.Common.{None, sym, ap, ◌∙◌, option_and_then}
use Rattle.mt_peers.specs.declared.state.State.{State}
use Rattle.mt_peers.proofs.SinceLaws.{number_here, number_others}
use Rattle.mt_peers.proofs.following.list_state.Goals as goal

pub returns-in-Some-clause-group : goal.returns-in-Some-clause-group
returns-in-Some-clause-group c = number_here c.args.id c.in-Some.state.group c.args.members.now.rows _ c.len.ensures.rising c.set.ensures.rows ∙ ap (option_and_then (λ (s : State). s.group)) (sym c.in-Some.is)

pub returns-in-Some-clause-other_groups : goal.returns-in-Some-clause-other_groups
returns-in-Some-clause-other_groups c = number_others c.args.id c.in-Some.state.group c.args.members.now.rows _ c.len.ensures.rising c.set.ensures.rows

pub returns-in-Some-clause-master : goal.returns-in-Some-clause-master
returns-in-Some-clause-master c = number_here c.args.id c.in-Some.state.master c.args.slaves.now.rows _ c.len-2.ensures.rising c.set-in-Some.ensures.rows ∙ ap (option_and_then (λ (s : State). s.master)) (sym c.in-Some.is)

pub returns-in-Some-clause-other_masters : goal.returns-in-Some-clause-other_masters
returns-in-Some-clause-other_masters c = number_others c.args.id c.in-Some.state.master c.args.slaves.now.rows _ c.len-2.ensures.rising c.set-in-Some.ensures.rows

pub returns-in-None-clause-group : goal.returns-in-None-clause-group
returns-in-None-clause-group c = number_here c.args.id None c.args.members.now.rows _ c.len.ensures.rising c.remove.ensures.rows ∙ ap (option_and_then (λ (s : State). s.group)) (sym c.in-None.is)

pub returns-in-None-clause-other_groups : goal.returns-in-None-clause-other_groups
returns-in-None-clause-other_groups c = number_others c.args.id None c.args.members.now.rows _ c.len.ensures.rising c.remove.ensures.rows

pub returns-in-None-clause-master : goal.returns-in-None-clause-master
returns-in-None-clause-master c = number_here c.args.id None c.args.slaves.now.rows _ c.len-2.ensures.rising c.remove-in-None.ensures.rows ∙ ap (option_and_then (λ (s : State). s.master)) (sym c.in-None.is)

pub returns-in-None-clause-other_masters : goal.returns-in-None-clause-other_masters
returns-in-None-clause-other_masters c = number_others c.args.id None c.args.slaves.now.rows _ c.len-2.ensures.rising c.remove-in-None.ensures.rows
