use Rattle.mt_events.proofs.PostLaws.{text_tells}
use Rattle.mt_events.proofs.laws.texts_tell_posts.Goals as goal

pub returns : goal.returns
returns c = text_tells
