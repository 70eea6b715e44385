-- The spare world on its way to the one that is shown.
use Rattle.std.proofs.Common.{◌≡◌, ◌+◌, ◌-◌, false, List, [], ◌∷◌, length, get_or, refl, sym, ap, ◌∙◌, arith, length-append}
use Rattle.std.proofs.lemmas.List.{get_or_push}
use Rattle.mt_propagate.specs.World.{WorldView}
use Rattle.mt_book.specs.declared.command.Command.{Command}
use Rattle.mt_book.specs.Step.{after, makes_directories}
use Rattle.mt_book.specs.Kept.{IsBehind}
use Rattle.mt_book.proofs.EffectLaws.{skel_kept}

-- a last command that makes no directories left them as they were
pub behind_skel : (cs : List Command) (w shown : WorldView) (c : Command) → IsBehind cs w → shown ≡ after cs → c ≡ get_or cs (length cs - 1) c → makes_directories c ≡ false → shown.skel ≡ w.skel
behind_skel cs w shown c h s is d =
    let more : length cs ≡ length h.before + 1 = ap (λ (l : List Command). length l) h.all ∙ length-append h.before (h.last ∷ []) in
    let at : length cs - 1 ≡ length h.before = omega (arith, more) in
    let same : c ≡ h.last =
    is ∙ ap (λ i. get_or cs i c) at ∙ ap (λ (l : List Command). get_or l (length h.before) c) h.all ∙ get_or_push h.before h.last c (length h.before) refl in
    ap (λ (v : WorldView). v.skel) s ∙ skel_kept w h.last (after cs) h.reply (ap makes_directories (sym same) ∙ d) h.accepted
