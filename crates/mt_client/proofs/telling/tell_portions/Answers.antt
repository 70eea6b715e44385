use Rattle.std.proofs.Common.{Ok, ap, ◌⊎◌, inl, inr}
use Rattle.std.proofs.KnownBytes.{Appends-nil, Keeps-refl}
use Rattle.std.proofs.lemmas.Bool.{MatchBool-at_true, MatchBool-at_false}
use Rattle.mt_client.proofs.TellingLaws.{so_none, none_before, told_before, all_behind, follows_sent, follows_asked, follows_part}
use Rattle.mt_client.proofs.SeriesLaws.{came_at_first}
use Rattle.mt_client.proofs.CallLaws.{either, read_still, reads_both, writes_still, writes_both, handed_on, fault_refused, effect_behind}
use Rattle.mt_client.proofs.MissingLaws.{portions_of, portions_more, portions_cut, portions_over}
use Rattle.mt_client.proofs.RelayLaws.{sent_whole}
use Rattle.mt_client.specs.Reading.{known_lines, NoneFirst}
use Rattle.mt_client.specs.Due.{AreDuePosts, AreDuePortions}
use Rattle.mt_client.proofs.telling.tell_portions.Goals as goal

pub portions-init : goal.portions-init
portions-init g c = record {
  on = read_still _ c.requires.fresh;
  prints = writes_still g.O.Output _;
  writes = writes_still g.W.Output _;
  rising = c.requires.rising;
  goes = came_at_first (portions_of c.args.count c.args.scope) c.args.mirrors.now.items _;
  sent = Appends-nil _;
  told = none_before;
}

pub returns-in_err-tell_portion-clause-broken : goal.returns-in_err-tell_portion-clause-broken
returns-in_err-tell_portion-clause-broken g c =
    let h = c.in_err-tell_portion.ensures.broken in
    handed_on _ _ _ c.from_residual.ensures.1 (record { made = h.made; middle = h.middle; between = h.between; so = (c.portions.invariant.told _ _ _ h.so).0; stopped = h.stopped })

pub returns-in_err-tell_portion-clause-part : goal.returns-in_err-tell_portion-clause-part
returns-in_err-tell_portion-clause-part g c = follows_part c.args.count c.portions._portion _ _ _ c.portions.invariant.sent c.in_err-tell_portion.ensures.part

pub returns-then-not-branch-clause-told : goal.returns-then-not-branch-clause-told
returns-then-not-branch-clause-told g c =
    let told = all_behind c.args.count c.portions._portion c.args.scope _ _ _ _ _ _ _ _ c.portions.invariant.told (MatchBool-at_false _ _ c.if-not-branch.true c.in_ok-tell_portion.ensures.told) in
    (told.0, follows_asked c.args.count c.portions._portion _ told.1 c.portions.invariant.writes c.portions.invariant.sent c.in_ok-tell_portion.ensures.asked)

pub returns-then-not-branch-clause-part : goal.returns-then-not-branch-clause-part
returns-then-not-branch-clause-part g c = follows_part c.args.count c.portions._portion _ _ _ c.portions.invariant.sent c.in_ok-tell_portion.ensures.part

pub portions-preserved : goal.portions-preserved
portions-preserved g c =
    let going = ap Ok c.if-not-branch.false in
    record {
      on = reads_both c.portions.invariant.on c.in_ok-tell_portion.ensures.on;
      prints = writes_both c.portions.invariant.prints c.in_ok-tell_portion.ensures.prints;
      writes = writes_both c.portions.invariant.writes (c.in_ok-tell_portion.ensures.sent going).on;
      rising = c.in_ok-tell_portion.ensures.rising;
      goes = portions_more c.args.count c.portions._portion c.args.scope _ _ _ _ _ _ c.portions.invariant.goes (c.in_ok-tell_portion.ensures.applied going);
      sent = follows_sent c.args.count c.portions._portion _ _ _ c.portions.invariant.sent ((c.in_ok-tell_portion.ensures.sent going).went);
      told = told_before c.portions._portion c.portions.invariant.told (MatchBool-at_true _ _ c.if-not-branch.false c.in_ok-tell_portion.ensures.told);
    }

pub returns-clause-broken : goal.returns-clause-broken
returns-clause-broken g c = record { made = c.portions.mirrors.items; middle = known_lines c.portions.lines; between = g.O.Output.contents c.portions.out; so = (c.portions.invariant.told _ _ _ so_none).0; stopped = inl (Keeps-refl _) }

pub returns-clause-part : goal.returns-clause-part
returns-clause-part g c = (c.portions._portion, sent_whole _ _ _ c.portions.invariant.sent)

pub returns-in_err-tell_portion-clause-fault : goal.returns-in_err-tell_portion-clause-fault
returns-in_err-tell_portion-clause-fault g c =
    let h = c.portions.invariant in
    handed_on _ _ _ c.from_residual.ensures.1 (effect_behind (λ unsent. unsent ⊎ NoneFirst (AreDuePosts c.args.count c.args.scope c.portions.mirrors.items) (known_lines c.portions.lines)) (λ unsent. unsent ⊎ NoneFirst (AreDuePortions c.args.count c.args.scope c.args.mirrors.now.items) (known_lines c.args.lines.now)) h.on h.writes h.prints
    (λ less more later m. either later (portions_cut c.args.count c.portions._portion c.args.scope _ _ _ _ h.goes) m) c.in_err-tell_portion.ensures.fault)

pub returns-clause-fault : goal.returns-clause-fault
returns-clause-fault g c = fault_refused c.portions.invariant.on.limit (λ v. inr (portions_over c.args.count c.portions._portion c.args.scope _ _ _ _ c.portions-test.false c.portions.invariant.goes))
