use Rattle.std.proofs.Common.{◌≡◌, ◌∙◌, List, [], slice_get, MatchOption, None, Some, sym, ap, subst, arith}
use Rattle.std.proofs.lemmas.Option.{slice_get_past}
use Rattle.mt_events.specs.Posts.{PostView}
use Rattle.mt_floor.proofs.PlaceLaws.{sought, row_read}
use Rattle.mt_floor.proofs.KeptLaws.{unsought, waiting_is}
use Rattle.mt_floor.proofs.floor.Floor.waiting_post.Goals as goal

pub returns-in_default : goal.returns-in_default
returns-in_default c =
    let none = (unsought c.self.invariant c.self.view_is c.args.key c.deref.ensures.value c.place_of.ensures.value c.in_default.is).waits in
    ap (λ (ps : List PostView). slice_get ps c.args.index) none ∙ slice_get_past [] c.args.index (omega arith)

pub returns : goal.returns
returns c =
    let at = row_read (sought c.args.key c.deref.ensures.value c.place_of.ensures.value c.in-Some.is) c.index.ensures in
    subst (λ (ps : List PostView). MatchOption c.waiting_post.result (slice_get ps c.args.index ≡ None) (λ post. slice_get ps c.args.index ≡ Some post.now)) (sym (waiting_is c.self.invariant c.self.view_is at)) c.waiting_post.ensures
