use Rattle.std.proofs.Common.{◌≡◌, Some, None, sym, ap, ◌∙◌, arith}
use Rattle.mt_skel.specs.Keyed.{put}
use Rattle.mt_mounts.specs.Forest.{id_of, mount_at}
use Rattle.mt_mounts.proofs.SlotLaws.{row_put_here}
use Rattle.mt_mounts.proofs.WrittenLaws.{put_written, but_written}
use Rattle.mt_mounts.proofs.KeptLaws.{mount_fits}
use Rattle.mt_mounts.proofs.FollowLaws.{is_free, is_rootless, others_under}
use Rattle.mt_mounts.proofs.forest.Forest.take_in.Goals as goal

pub put_in-requires : goal.put_in-requires
put_in-requires c =
    let ms = c.args.self.now.mounts in
    let os = c.args.other.now.mounts in
    let i = c.args.id in
    let m = c.in-Some.mount in
    let absent : mount_at ms i ≡ None = grind (arith, c.is_some.ensures, c.if-is_some.false, c.get.ensures) in
    let there : mount_at os i ≡ Some m = sym c.get-2.ensures ∙ c.in-Some.is in
    record {
      room = c.requires.room;
      absent = ap (mount_at ms) (mount_fits os i m there) ∙ absent;
      free = is_free ms os i m c.known.ensures.rising c.known-2.ensures.single c.requires.part absent there;
      rootless = is_rootless ms os i m c.known.ensures.rising c.known-2.ensures.single c.requires.part absent there;
    }

pub returns-in-Some-clause-here : goal.returns-in-Some-clause-here
returns-in-Some-clause-here c =
    let there = sym c.get-2.ensures ∙ c.in-Some.is in
    ap (λ l. mount_at l c.args.id) c.put_in.ensures.mounts ∙ row_put_here c.args.self.now.mounts c.in-Some.mount c.args.id (mount_fits c.args.other.now.mounts c.args.id c.in-Some.mount there) ∙ sym there

pub returns-in-Some-clause-others : goal.returns-in-Some-clause-others
returns-in-Some-clause-others c i e =
    let ms = c.args.self.now.mounts in
    let m = c.in-Some.mount in
    others_under c.args.other.now.mounts ms (put id_of m ms) c.args.id m (sym c.get-2.ensures ∙ c.in-Some.is) (but_written ms m.id (Some m) (put id_of m ms) (put_written ms c.known.ensures.rising m)) i e
    ∙ ap (λ l. mount_at l i) (sym c.put_in.ensures.mounts)
