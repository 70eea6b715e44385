use Rattle.std.proofs.Common.{[], ◌≡◌, ◌+◌, arith, refl, sym}
use Rattle.mt_client.proofs.EndingLaws.{blocks_join, blocks_of, are_blocks, one_block}
use Rattle.mt_client.proofs.SeriesLaws.{lines_at_first, lines_more, lines_cut}
use Rattle.mt_client.proofs.CallLaws.{read_both, out_both, out_as, handed_on, passes_read, passes_nothing, passes_both, pass_fault_behind, pass_refused_behind}
use Rattle.mt_client.proofs.RelayLaws.{printed-append}
use Rattle.mt_client.proofs.block.pass_blocks.Goals as goal

pub passing-init : goal.passing-init
passing-init g c = record { goes = lines_at_first (blocks_of c.args.block) c.args.count tt _; passed = passes_nothing g.O.Output _ _ _ c.requires.fresh (record { blocks = []; each = tt; all = refl }, omega arith) }

pub returns-in_err-behind-clause-fault : goal.returns-in_err-behind-clause-fault
returns-in_err-behind-clause-fault g c =
    let p = c.passing.invariant.passed in
    handed_on _ _ _ c.from_residual.ensures.1 (pass_fault_behind p.read p.out
    (λ none. lines_cut (blocks_of c.args.block) c.args.count c.passing.left tt tt _ _ (are_blocks c.args.block c.args.count) c.passing-test.true c.passing.invariant.goes (λ g rest is within. none g rest is)) c.in_err-behind.ensures.fault)

pub returns-in_default-clause-fault : goal.returns-in_default-clause-fault
returns-in_default-clause-fault g c =
    let p = c.passing.invariant.passed in
    let q = c.in_ok-behind.ensures.passed in
    pass_refused_behind (read_both p.read q.read) (out_as (sym (printed-append p.others q.others)) (out_both p.out q.out)) refl
    (
    lines_cut (blocks_of c.args.block) c.args.count c.passing.left tt tt _ _ (are_blocks c.args.block c.args.count) c.passing-test.true c.passing.invariant.goes
    (λ g rest is within there.
    let size = (one_block c.args.block c.in_ok-behind.behind _ _ (passes_read q) g rest is there).0 in
    omega (arith, size, within, c.in_default.ensures, c.passing-test.true)))

pub passing-preserved : goal.passing-preserved
passing-preserved g c =
    let less : c.passing.left ≡ 1 + (c.in_ok-behind.behind + c.in-Some.rest) =
    let within = c.in-Some.ensures.0 in
    let rest = c.in-Some.ensures.1 in
    omega (arith, within, rest, c.passing-test.true) in
    record {
      goes = lines_more (blocks_of c.args.block) c.args.count c.passing.left (1 + c.in_ok-behind.behind) c.in-Some.rest tt tt tt _ _ _ (omega (arith, less)) c.passing-test.true c.passing.invariant.goes (one_block c.args.block c.in_ok-behind.behind _ _ (passes_read c.in_ok-behind.ensures.passed));
      passed = passes_both (blocks_join c.args.block c.args.count c.passing.left c.in-Some.rest c.in_ok-behind.behind less) c.passing.invariant.passed c.in_ok-behind.ensures.passed;
    }
