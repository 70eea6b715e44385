use Rattle.std.proofs.Common.{ap, sym, ◌∙◌, arith, option_copied}
use Rattle.std.proofs.lemmas.Bool.Decides.{nat_tests}
use Rattle.mt_peers.proofs.EntryLaws.{rises_now, past_last}
use Rattle.mt_peers.proofs.entries.ends_by.Goals as goal

pub returns-in-Some : goal.returns-in-Some
returns-in-Some c =
    λ low. past_last c.args.id c.args.entries.now c.in-Some.last.now (sym (rises_now c.args.entries.now) ∙ c.requires) (sym c.last.ensures.value ∙ ap option_copied c.in-Some.is) (grind (arith, nat_tests))
