use Rattle.std.proofs.Common.{◌≡◌, drop, map}
use Rattle.mt_import.specs.Options.{with_flags}
use Rattle.mt_import.proofs.options.push_flags.Given as goal

-- the flags that are left lead to the same as all did at first
abbrev pub invariant-flags : goal.invariant-flags
invariant-flags l = with_flags l.options l.text.items (map (λ flag. flag.now) (drop l.flag-index l.flags)) ≡ with_flags l.options l.initial.text.items (map (λ flag. flag.now) l.flags)
