-- Commands that are tried on a world.
use Rattle.std.proofs.Common.{◌≡◌, Bool, true, false, if◌then◌else◌, Result, Ok, Err, ap, sym, ◌∙◌}
use Rattle.mt_skel.specs.declared.fault.Fault.{Fault}
use Rattle.mt_skel.specs.declared.fault.Fault.TheVariants.{TooMany}
use Rattle.mt_propagate.specs.World.{WorldView}
use Rattle.mt_book.specs.Step.{step, world_or, makes_directories}
use Rattle.mt_book.specs.declared.command.Command.{Command}
use Rattle.mt_book.specs.declared.command.Reply.{Reply}
use Rattle.mt_book.proofs.EffectLaws.{skel_kept}
use Rattle.mt_book.specs.Attempts.{has_numbers, tried}

-- a command that is done where numbers are left is done
by_numbers : (b : Bool) (x : Result (WorldView × Reply) Fault) (v : WorldView) (r : Reply) → (if b then x else Err TooMany) ≡ Ok (v, r) → x ≡ Ok (v, r)
by_numbers true x v r e = e
by_numbers false x v r e = cc

-- one that makes no directories leaves them as they were
pub skel_after : (w : WorldView) (c : Command) (v : WorldView) (r : Reply) → makes_directories c ≡ false → tried w c ≡ Ok (v, r) → v.skel ≡ w.skel
skel_after w c v r d e = skel_kept w c v r d (by_numbers (has_numbers w) (step w c) v r e)

-- there is one world after it, where two worlds that are equal are changed
pub one_after : (w u : WorldView) (c : Command) (v x : WorldView) (r s : Reply) → u ≡ w → tried w c ≡ Ok (v, r) → tried u c ≡ Ok (x, s) → x ≡ v
one_after w u c v x r s same e d = ap (world_or w) (sym d ∙ ap (λ y. tried y c) same ∙ e)
