use Rattle.std.proofs.Common.{refl}
use Rattle.mt_info.proofs.ReadLaws.{one_read}
use Rattle.mt_info.proofs.read.read_head.Goals as goal

pub returns-clause-head : goal.returns-clause-head
returns-clause-head c =
    let words = c.in-Some-Some-Some-Some-Some-Some in
    one_read _ _ _ _ _ words.ensures.steps c.in_ok-read_number.ensures.number
    (one_read _ _ _ _ _ words.ensures'.steps c.in_ok-read_number-2.ensures.number
    (one_read _ _ _ _ _ words.ensures''.steps c.in_ok-read_minor.ensures.minor
    (one_read _ _ _ _ _ words.ensures'''.steps c.in_ok-read_path.ensures.path
    (one_read _ _ _ _ _ words.ensures''''.steps c.in_ok-read_path-2.ensures.path
    (one_read _ _ _ _ _ words.ensures'''''.steps c.in_ok-read_options.ensures.attrs refl)))))

pub returns-clause-valid : goal.returns-clause-valid
returns-clause-valid c = record {
  id = c.in_ok-read_number.ensures.small;
  parent = c.in_ok-read_number-2.ensures.small;
  minor = c.in_ok-read_minor.ensures.small;
  root = c.in_ok-read_path.ensures.valid;
  point = c.in_ok-read_path-2.ensures.valid;
}
