use Rattle.std.proofs.Common.{[], ◌≡◌, ◌+◌, ◌∙◌, arith, refl, subst, inl}
use Rattle.std.proofs.KnownBytes.{Keeps-refl}
use Rattle.mt_client.proofs.TellingLaws.{none_told, both_lines}
use Rattle.mt_client.proofs.SeriesLaws.{lines_at_first, lines_more, lines_cut}
use Rattle.mt_client.proofs.CallLaws.{read_still, reads_both, writes_still, writes_both, handed_on, breaks_later, fault_behind, fault_refused}
use Rattle.mt_client.proofs.MissingLaws.{posts_due, due_lines}
use Rattle.mt_client.specs.Reading.{known_lines}
use Rattle.mt_client.specs.Effects.{HasToldLines}
use Rattle.mt_events.specs.Posts.{post_lines}
use Rattle.mt_client.proofs.effects.tell_lines.Goals as goal

pub telling-init : goal.telling-init
telling-init g c = record {
  on = read_still _ c.requires.fresh;
  prints = writes_still g.O.Output _;
  rising = c.requires.rising;
  coming = lines_at_first posts_due c.args.count c.args.mirrors.now.items _;
  told = (0, omega arith, record { posts = []; told = none_told; many = refl });
}

pub telling-preserved : goal.telling-preserved
telling-preserved g c =
    let less : c.telling.left ≡ (1 + c.in_ok-behind.behind) + c.in-Some.rest =
    let within = c.in-Some.ensures.0 in
    let rest = c.in-Some.ensures.1 in
    omega (arith, within, rest, c.telling-test.true) in
    record {
      on = reads_both c.telling.invariant.on c.in_ok-behind.ensures.on;
      prints = writes_both c.telling.invariant.prints c.in_ok-behind.ensures.prints;
      rising = c.in_ok-behind.ensures.rising;
      coming = lines_more posts_due c.args.count c.telling.left (1 + c.in_ok-behind.behind) c.in-Some.rest c.args.mirrors.now.items c.telling.mirrors.items _ _ _ _ less c.telling-test.true c.telling.invariant.coming (λ p rest due. c.in_ok-behind.ensures.only p rest due.0);
      told = let h = c.telling.invariant.told in (h.0 + (1 + c.in_ok-behind.behind), omega (arith, less, h.1), both_lines h.2 c.in_ok-behind.ensures.told);
    }

pub returns-clause-told : goal.returns-clause-told
returns-clause-told g c =
    let h = c.telling.invariant.told in
    let all : h.0 ≡ c.args.count = omega (arith, c.telling-test.false, h.1) in
    subst (λ n. HasToldLines c.args.named.now n c.args.mirrors.now.items c.telling.mirrors.items (known_lines c.args.lines.now) (known_lines c.telling.lines) (g.O.Output.contents c.args.out.now) (g.O.Output.contents c.telling.out)) all h.2

pub returns-in_err-behind-clause-broken : goal.returns-in_err-behind-clause-broken
returns-in_err-behind-clause-broken g c =
    let h = c.telling.invariant.told in
    handed_on _ _ _ c.from_residual.ensures.1 (record { count = h.0; made = c.telling.mirrors.items; middle = known_lines c.telling.lines; between = g.O.Output.contents c.telling.out; so = h.2; stopped = c.in_err-behind.ensures.broken })

pub returns-in_default-clause-broken : goal.returns-in_default-clause-broken
returns-in_default-clause-broken g c =
    let h = c.telling.invariant.told in
    record { count = h.0 + (1 + c.in_ok-behind.behind); made = c.tell_next.new.mirrors.items; middle = known_lines c.tell_next.new.lines; between = g.O.Output.contents c.tell_next.new.out; stopped = inl (Keeps-refl _); so = both_lines h.2 c.in_ok-behind.ensures.told }

pub returns-in_err-behind-clause-fault : goal.returns-in_err-behind-clause-fault
returns-in_err-behind-clause-fault g c =
    handed_on _ _ _ c.from_residual.ensures.1
    (fault_behind c.telling.invariant.on
    (λ none.
    lines_cut posts_due c.args.count c.telling.left c.args.mirrors.now.items c.telling.mirrors.items _ _ (due_lines c.args.count c.args.mirrors.now.items) c.telling-test.true c.telling.invariant.coming
    (λ p rest due within. none (post_lines p) rest (record { post = p; valid = due.0; such = due.1; all = refl })))
    (breaks_later c.telling.invariant.prints) c.in_err-behind.ensures.fault)

pub returns-in_default-clause-fault : goal.returns-in_default-clause-fault
returns-in_default-clause-fault g c =
    fault_refused (c.in_ok-behind.ensures.on.limit ∙ c.telling.invariant.on.limit)
    (
    lines_cut posts_due c.args.count c.telling.left c.args.mirrors.now.items c.telling.mirrors.items _ _ (due_lines c.args.count c.args.mirrors.now.items) c.telling-test.true c.telling.invariant.coming
    (λ p rest due within there.
    let size = (c.in_ok-behind.ensures.only p rest due.0 there).0 in
    omega (arith, size, within, c.in_default.ensures, c.telling-test.true)))
