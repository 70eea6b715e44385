use Rattle.std.proofs.Common.{◌≡◌, ap, arith, ◌∙◌, inr}
use Rattle.std.proofs.KnownBytes.{Keeps-trans}
use Rattle.mt_lines.proofs.StreamLaws.{kept_none, kept_appended}
use Rattle.mt_lines.specs.Stream.{interruptions}
use Rattle.mt_lines.proofs.stream.write_once.Goals as goal

pub returns-clause-faults : goal.returns-clause-faults
returns-clause-faults g c t none =
    let all : c.trying._tries ≡ 1000 = omega (arith, c.trying.auto._tries-end, c.trying-test.false) in
    inr (c.trying.invariant.run t none ∙ ap interruptions all)

pub returns-in-Ok-eq0-clause-known : goal.returns-in-Ok-eq0-clause-known
returns-in-Ok-eq0-clause-known g c = kept_none _ _ _ c.trying.invariant.known (rw none at c.in-Ok-eq0.ensures.known) where
  none : c.in-Ok-eq0.field-0 ≡ 0
  none = c.in-Ok-eq0.field-0-test

pub returns-in-Ok-clause-known : goal.returns-in-Ok-clause-known
returns-in-Ok-clause-known g c = rw c.in-Ok.count-is (kept_appended _ _ _ _ c.trying.invariant.known c.in-Ok.ensures.known)

pub returns-in-Err-Failed-clause-known : goal.returns-in-Err-Failed-clause-known
returns-in-Err-Failed-clause-known g c = Keeps-trans _ _ _ c.trying.invariant.known c.in-Err-Failed.ensures.known
