use Rattle.std.proofs.Common.{arith}
use Rattle.mt_session.proofs.SharedFollowLaws.{follow_posts, follow_none, follow_refused}
use Rattle.mt_session.proofs.shared_answer.Shared.follow.Goals as goal

pub returns-in-Ok-Posts : goal.returns-in-Ok-Posts
returns-in-Ok-Posts g c s out so_far =
    follow_posts s c.args.session.now.own c.args.session.now.sight c.take_posts.new.session c.args.most c.args.told c.min.result c.in-Ok-Posts.printed out c.tell.result.text c.tell.result.then
    so_far (rw c.in-Ok-Posts.field-0-is at c.in-Ok-Posts.ensures.portion) c.in-Ok-Posts.ensures.sight (omega (arith, c.min.ensures, c.requires.within)) c.tell.ensures.text c.tell.ensures.then

pub returns-in-Err : goal.returns-in-Err
returns-in-Err g c s out so_far =
    follow_refused s c.args.session.now.own c.args.session.now.sight c.take_posts.new.session c.args.most c.args.told c.min.result c.in-Err.fault out c.refusal.result.text c.refusal.result.then
    so_far c.in-Err.ensures.portion c.in-Err.ensures.sight (omega (arith, c.min.ensures, c.requires.within)) c.refusal.ensures.lost c.refusal.ensures.others

pub returns-in-Ok-Empty : goal.returns-in-Ok-Empty
returns-in-Ok-Empty g c s out so_far =
    follow_none s c.args.session.now.own c.args.session.now.sight c.take_posts.new.session c.args.most c.args.told c.min.result c.in-Ok-Empty.phase out c.pause.result.text c.pause.result.then
    so_far (rw c.in-Ok-Empty.field-0-is at c.in-Ok-Empty.ensures.portion) c.in-Ok-Empty.ensures.sight (omega (arith, c.if-told-most.false, c.requires.within)) c.pause.ensures.rest c.pause.ensures.over
