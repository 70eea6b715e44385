use Rattle.std.proofs.Common.{not, rules}
use Rattle.std.proofs.lemmas.Fn.{filter_same}
use Rattle.mt_peers.specs.declared.entries.Entry.{Entry}
use Rattle.mt_skel.specs.Keyed.{among}
use Rattle.mt_peers.proofs.entries.drop_entries.Goals as goal

pub returns-clause-entries : goal.returns-clause-entries
returns-clause-entries c = filter_same _ (λ (e : Entry). not (among c.args.ids.now e.mount)) _ (λ x b g r. search rules) c.args.entries.now.items c.retain.new.self.items c.retain.ensures.filtered
