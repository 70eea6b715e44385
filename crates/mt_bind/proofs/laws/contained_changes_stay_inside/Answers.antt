use Rattle.mt_bind.proofs.InsideLaws.{mount_outside, bind_outside, move_outside, end_outside, copied_outside, opened_outside}
use Rattle.mt_bind.proofs.PivotingLaws.{pivoted_outside}
use Rattle.mt_bind.proofs.AttachingLaws.{attached_outside}
use Rattle.mt_bind.proofs.laws.contained_changes_stay_inside.Goals as goal

pub returns : goal.returns
returns c = record {
  mounted = mount_outside;
  bound = bind_outside;
  moved = move_outside;
  pivoted = pivoted_outside;
  attached = attached_outside;
  ended = λ family w n h a here. end_outside w h n family a here;
  copied = copied_outside;
  opened = opened_outside;
}
