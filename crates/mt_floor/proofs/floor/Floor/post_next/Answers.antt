use Rattle.std.proofs.Common.{◌∙◌, sym}
use Rattle.mt_floor.proofs.SettledLaws.{post_told}
use Rattle.mt_floor.proofs.PlaceLaws.{sought}
use Rattle.mt_floor.proofs.KeptLaws.{is_floor, unsought}
use Rattle.mt_floor.proofs.PostLaws.{post_none, post_nowhere, post_some, room_at}
use Rattle.mt_floor.proofs.floor.Floor.post_next.Goals as goal

pub returns-in_default : goal.returns-in_default
returns-in_default c =
    let done = post_none c.self.invariant c.self.view_is (sym c.first_key.ensures ∙ c.in_default.is) in
    let told = post_told (is_floor c.self.invariant c.self.view_is) done in
    record { done = done; fewer = told.0; settled = told.1 }

pub returns-in_default-place_of : goal.returns-in_default-place_of
returns-in_default-place_of c =
    let none = (unsought c.self.invariant c.self.view_is c.in-Some.key c.deref.ensures.value c.place_of.ensures.value c.in_default-place_of.is).none in
    let done = post_nowhere c.self.invariant c.self.view_is (sym c.first_key.ensures ∙ c.in-Some.is) none in
    let told = post_told (is_floor c.self.invariant c.self.view_is) done in
    record { done = done; fewer = told.0; settled = told.1 }

pub post_at-lagged-requires-clause-room : goal.post_at-lagged-requires-clause-room
post_at-lagged-requires-clause-room c = room_at c.self.invariant c.self.view_is (sought c.in-Some.key c.deref.ensures.value c.place_of.ensures.value c.in-Some-place_of.is)

pub invariant_of-self : goal.invariant_of-self
invariant_of-self c =
    let p = c.post_at-lagged.ensures in
    (post_some c.self.invariant c.self.view_is (sought c.in-Some.key c.deref.ensures.value c.place_of.ensures.value c.in-Some-place_of.is) (sym c.first_key.ensures ∙ c.in-Some.is) p.full p.rows p.due).kept

pub returns : goal.returns
returns c =
    let p = c.post_at-lagged.ensures in
    let some = post_some c.self.invariant c.self.view_is (sought c.in-Some.key c.deref.ensures.value c.place_of.ensures.value c.in-Some-place_of.is) (sym c.first_key.ensures ∙ c.in-Some.is) p.full p.rows p.due in
    let told = post_told (is_floor c.self.invariant c.self.view_is) some.step in
    record { done = some.step; fewer = told.0; settled = told.1 }
