use Rattle.mt_client.proofs.OpeningLaws.{heading_is}
use Rattle.mt_client.proofs.opening.read_heading.Goals as goal

pub returns-clause-heading : goal.returns-clause-heading
returns-clause-heading c = heading_is c.read_heading_words.result c.args.line.now c.words-words.result c.words-words.ensures c.read_heading_words.ensures.heading
