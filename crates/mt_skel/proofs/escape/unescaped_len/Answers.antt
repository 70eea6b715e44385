use Rattle.mt_skel.proofs.EscapeLaws.{all_counted}
use Rattle.mt_skel.proofs.escape.unescaped_len.Goals as goal

pub returns : goal.returns
returns c =
    all_counted c.loop-rest.length c.loop-rest.rest.now c.args.text.now c.loop-rest.invariant.counted c.loop-rest-test.ensures
