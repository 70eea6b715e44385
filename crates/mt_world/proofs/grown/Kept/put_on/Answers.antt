use Rattle.std.proofs.Common.{◌≡◌, ◌∙◌, nat_eq, Some, None, sym, subst, inl, inr, arith}
use Rattle.std.specs.Option.{option_copied}
use Rattle.std.proofs.lemmas.Bool.{cases_eq}
use Rattle.std.proofs.lemmas.Option.{slice_get_within}
use Rattle.indexmap.specs.IndexMap.{get}
use Rattle.mt_propagate.specs.World.{world_view}
use Rattle.mt_world.specs.declared.misfit.Misfit.TheVariants.{NoParent}
use Rattle.mt_world.specs.Kept.{AreKept, waits_for_parent}
use Rattle.mt_world.specs.Places.{IsWhyNotPut, HasSameMounts}
use Rattle.mt_world.proofs.KeptLaws.{kept_put, kept_left, left_why}
use Rattle.mt_world.proofs.grown.Kept.put_on.Goals.{In-Some}
use Rattle.mt_world.proofs.grown.Kept.put_on.Goals as goal

pub keep-requires : goal.keep-requires
keep-requires c = let within = slice_get_within c.args.rows.now c.args.number c.args.row.now c.requires.here in omega (arith, within, c.requires.kept.sized)

pub leave-requires : goal.leave-requires
leave-requires c = let within = slice_get_within c.args.rows.now c.args.number c.args.row.now c.requires.here in omega (arith, within, c.requires.kept.sized)

pub returns-in_default-clause-kept : goal.returns-in_default-clause-kept
returns-in_default-clause-kept c =
    kept_put (world_view c.args.world.now) (world_view c.put_row.new.world) c.args.rows.now c.args.self.now.left.items c.keep.new.self.left.items (get nat_eq c.args.self.now.put) c.args.number c.args.row.now (option_copied c.args.above)
    c.requires.kept c.requires.here c.requires.waits c.requires.stands c.put_row.ensures.sound c.put_row.ensures.grown c.put_row.ensures.same (c.in_ok-why.ensures.put c.in_default.is) c.in_ok-keep.ensures.set (get nat_eq c.keep.new.self.put)
    c.in_ok-keep.ensures.noted

-- why it was refused
told : (c : In-Some) → IsWhyNotPut (world_view c.put_row.new.world) c.args.row.now (option_copied c.args.above) c.in-Some.why
told c = rw c.in-Some.is at c.in_ok-why.ensures.why

same : (c : In-Some) → HasSameMounts (world_view c.args.world.now) (world_view c.put_row.new.world)
same c = c.in_ok-why.ensures.refused (λ none. let v : Some c.in-Some.why ≡ None = sym c.in-Some.is ∙ none in absurd (cc))

pub returns-clause-kept : goal.returns-clause-kept
returns-clause-kept c =
    let a = (goal.at.returns-clause-kept c).In-Some in
    subst (λ p. AreKept (world_view c.put_row.new.world) c.args.rows.now c.leave.new.self.left.items (get nat_eq p)) (sym c.leave.ensures.put)
    (kept_left (world_view c.args.world.now) (world_view c.put_row.new.world) c.args.rows.now c.args.self.now.left.items c.leave.new.self.left.items (get nat_eq c.args.self.now.put) c.args.number c.args.row.now (option_copied c.args.above)
    c.requires.kept c.requires.here c.requires.waits c.requires.stands c.put_row.ensures.sound c.put_row.ensures.grown c.put_row.ensures.same (same a) c.in-Some.why (told a) c.leave.ensures.set)

pub returns-clause-others : goal.returns-clause-others
returns-clause-others c k w = elim (cases_eq c.args.number k) [
  | inl at ↦ subst (waits_for_parent c.args.self.now.left.items) at c.requires.waits
  | inr off ↦ sym (c.leave.ensures.set.others k off) ∙ w
]

pub returns-clause-done : goal.returns-clause-done
returns-clause-done c w =
    let a = (goal.at.returns-clause-done c).In-Some in
    let v : Some (Some c.in-Some.why) ≡ Some (Some NoParent) = sym c.leave.ensures.set.here ∙ w in
    let e : c.in-Some.why ≡ NoParent = cc in
    left_why (world_view c.args.world.now) (world_view c.put_row.new.world) c.args.rows.now c.args.self.now.left.items c.leave.new.self.left.items (get nat_eq c.args.self.now.put) c.args.number c.args.row.now (option_copied c.args.above)
    c.requires.kept c.requires.here c.requires.waits c.requires.stands c.put_row.ensures.sound c.put_row.ensures.grown c.put_row.ensures.same (same a) c.in-Some.why (told a) c.leave.ensures.set e
