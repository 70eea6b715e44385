-- What each half keeps after its steps.
use Rattle.std.proofs.Common.{◌≡◌, [], ◌∷◌, ◌++◌, sym, ap, ◌∙◌, subst}
use Rattle.std.specs.Arc.{arc_value}
use Rattle.crossbeam_queue.specs.Passes.{Pass, view, IsSamePass, IsPassOf}
use Rattle.mt_events.specs.declared.opening.Opening.{Opening}
use Rattle.mt_events.specs.Following.{IsRun}
use Rattle.mt_queue.specs.declared.rule.PassView.{PassView}
use Rattle.mt_queue.specs.PassViews.{Item}
use Rattle.mt_queue.specs.Steps.{IsPushed, IsPopped}
use Rattle.mt_queue.specs.Kept.{QueueOf, IsSending, IsTaking}

module _ {Q A : Type 0} where
  same_queue : (queue : QueueOf Q A) (old new : Pass Item PassView) → IsSamePass old new → IsPassOf queue old → IsPassOf queue new
  same_queue queue old new same is = (same.0 ∙ is.0, same.2 ∙ is.1)

  pub sent_more : (queue : QueueOf Q A) (old new : Pass Item PassView) (x : Item) → IsSending queue old → IsSamePass old new → IsRun (view old).opening.opening ((view old).sent ++ arc_value x ∷ [])
      → IsPushed (view old) x (view new) → IsSending queue new
  sent_more queue old new x h same run is = record {
    queue_is = same_queue queue old new same h.queue_is;
    capacity = ap (λ (v : PassView). v.capacity) is ∙ h.capacity;
    may_push = ap (λ (v : PassView). v.pushes) is ∙ h.may_push;
    no_pop = ap (λ (v : PassView). v.pops) is ∙ h.no_pop;
    run = subst (λ (v : PassView). IsRun v.opening.opening v.sent) (sym is) run;
  }

  pub sent_same : (queue : QueueOf Q A) (old new : Pass Item PassView) → IsSending queue old → IsSamePass old new → view new ≡ view old → IsSending queue new
  sent_same queue old new h same is = record {
    queue_is = same_queue queue old new same h.queue_is;
    capacity = ap (λ (v : PassView). v.capacity) is ∙ h.capacity;
    may_push = ap (λ (v : PassView). v.pushes) is ∙ h.may_push;
    no_pop = ap (λ (v : PassView). v.pops) is ∙ h.no_pop;
    run = subst (λ (v : PassView). IsRun v.opening.opening v.sent) (sym is) h.run;
  }

  pub took_more : (queue : QueueOf Q A) (o : Opening) (old new : Pass Item PassView) (x : Item) → IsTaking queue old o → IsSamePass old new → IsPopped (view old) x (view new) → IsTaking queue new o
  took_more queue o old new x h same is = record {
    queue_is = same_queue queue old new same h.queue_is;
    may_pop = ap (λ (v : PassView). v.pops) is.0 ∙ h.may_pop;
    no_push = ap (λ (v : PassView). v.pushes) is.0 ∙ h.no_push;
    opening_is = ap (λ (v : PassView). v.heard.opening) is.0 ∙ h.opening_is;
    run = subst (λ (v : PassView). IsRun v.heard.opening v.taken) (sym is.0) is.1;
  }

  pub took_same : (queue : QueueOf Q A) (o : Opening) (old new : Pass Item PassView) → IsTaking queue old o → IsSamePass old new → view new ≡ view old → IsTaking queue new o
  took_same queue o old new h same is = record {
    queue_is = same_queue queue old new same h.queue_is;
    may_pop = ap (λ (v : PassView). v.pops) is ∙ h.may_pop;
    no_push = ap (λ (v : PassView). v.pushes) is ∙ h.no_push;
    opening_is = ap (λ (v : PassView). v.heard.opening) is ∙ h.opening_is;
    run = subst (λ (v : PassView). IsRun v.heard.opening v.taken) (sym is) h.run;
  }
