use Rattle.mt_bind.proofs.InsideLaws.{mount_contained, bind_contained, move_contained, made_contained, copied_contained, opened_contained, tree_made_contained, end_contained}
use Rattle.mt_bind.proofs.PivotingLaws.{pivoted_contained}
use Rattle.mt_bind.proofs.AttachingLaws.{attached_contained}
use Rattle.mt_bind.proofs.laws.contained_namespaces_stay_contained.Goals as goal

pub returns : goal.returns
returns c = record {
  mounted = mount_contained;
  bound = bind_contained;
  moved = move_contained;
  pivoted = pivoted_contained;
  made = made_contained;
  copied = copied_contained;
  opened = opened_contained;
  tree = tree_made_contained;
  attached = attached_contained;
  ended = λ family w n h a. end_contained w h n family a;
}
