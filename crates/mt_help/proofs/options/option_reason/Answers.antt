use Rattle.std.proofs.Common.{◌≡◌, false, codes, rules, refl}
use Rattle.std.specs.Str.{bytes_eq}
use Rattle.mt_requests.specs.Options.{has_key}
use Rattle.mt_help.proofs.options.option_reason.Goals as goal

-- it is none of the four options
pub returns-in_default-strip_prefix-2 : goal.returns-in_default-strip_prefix-2
returns-in_default-strip_prefix-2 c =
    let no_rec : bytes_eq c.args.word.now (codes "rec") ≡ false = search rules in
    let no_set : has_key (codes "set=") c.args.word.now ≡ false = search rules in
    let no_clr : has_key (codes "clr=") c.args.word.now ≡ false = search rules in
    let no_prop : has_key (codes "prop=") c.args.word.now ≡ false = search rules in
    (refl, rw (no_rec, no_set, no_clr, no_prop) refl)
