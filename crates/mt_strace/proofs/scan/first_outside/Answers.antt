use Rattle.std.proofs.Common.{[], ap, ◌∙◌, arith}
use Rattle.mt_strace.specs.declared.scan.Scan.{Scan}
use Rattle.mt_strace.specs.Outside.{scan_start, pieces_from}
use Rattle.mt_strace.proofs.OutsideLaws.{onto_all, onto_nothing}
use Rattle.mt_strace.proofs.scan.first_outside.Goals as goal

pub loop-i-init : goal.loop-i-init
loop-i-init c =
    let is = c.scan_start-scan.ensures in
    record {
      pieces = ap (λ s. onto_all [] (pieces_from c.args.separator s c.args.text.now)) is ∙ onto_nothing c.args.separator scan_start c.args.text.now;
      depth = omega (arith, ap (λ (s : Scan). s.depth) is);
    }
