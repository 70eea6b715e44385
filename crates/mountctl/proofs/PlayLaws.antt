-- A line that is served alone.
use Rattle.std.proofs.Common.{◌≡◌, ℕ, Bool, List, [], Option, Some, is_none, sym, ap, subst, ◌∙◌}
use Rattle.std.specs.Option.{option_map}
use Rattle.mt_floor.specs.Schedule.{FloorView}
use Rattle.mt_session.specs.Answering.{ServesNext}
use Rattle.mt_session.specs.Serving.{OnFloor}
use Rattle.mt_session.specs.declared.serving.End.{End}
use Rattle.mountctl.specs.Played.{IsServedAlone}

-- the input has these bytes, and the output was empty
pub served_alone :
    (sent kept items begun : List ℕ) (before later : Option (List ℕ)) (s s' : FloorView × Option ℕ) (end : Option End) (goes_on : Bool)
    → ServesNext OnFloor before s (Some begun) end later s' (Some kept) → before ≡ Some sent → begun ≡ [] → items ≡ kept → goes_on ≡ is_none end
    → IsServedAlone sent s items goes_on s'
served_alone sent kept items begun before later s s' end goes_on served known none same on = (
  end,
  later,
  on,
  subst (λ (x : List ℕ). ServesNext OnFloor (Some sent) s (Some []) end later s' (Some x)) (sym same)
      (subst (λ (x : List ℕ). ServesNext OnFloor (Some sent) s (Some x) end later s' (Some kept)) none
      (subst (λ (x : Option (List ℕ)). ServesNext OnFloor x s (Some begun) end later s' (Some kept)) known served)),
)

-- what was found, as its bytes
pub sent_bytes : {A : Type 0} (f : A → List ℕ) (o : Option A) (v : A) (w : Option (List ℕ)) → option_map f o ≡ w → o ≡ Some v → w ≡ Some (f v)
sent_bytes f o v w e is = sym e ∙ ap (option_map f) is
