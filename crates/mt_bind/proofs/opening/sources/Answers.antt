use Rattle.std.proofs.Common.{◌≡◌, ℕ, ◌≤◌, List, ◌++◌, map, drop, length, append-nil, refl, sym, ap, ◌∙◌}
use Rattle.std.proofs.lemmas.List.{drop_all}
use Rattle.mt_mounts.specs.declared.mount.Mount.{Mount}
use Rattle.mt_propagate.specs.World.{world_view}
use Rattle.mt_propagate.specs.Copies.{Source}
use Rattle.mt_propagate.specs.Plans.{member_of}
use Rattle.mt_propagate.proofs.ListedLaws.{map-map}
use Rattle.mt_bind.specs.Opening.{unplaced_top}
use Rattle.mt_bind.proofs.MemberLaws.{either_is}
use Rattle.mt_bind.proofs.opening.sources.Goals as goal

all_pushed : {X Y : Type 0} (f : X → Y) (xs : List X) (i : ℕ) (out : List Y) → length xs ≤ i → out ++ map f (drop i xs) ≡ map f xs → out ≡ map f xs
all_pushed f xs i out end e = sym (append-nil out) ∙ ap (λ l. out ++ map f l) (sym (drop_all i xs end)) ∙ e

pub returns-clause-sources : goal.returns-clause-sources
returns-clause-sources c =
    let w = world_view c.args.world.now in
    let p = c.args.from in
    let members = c.in_ok-members.members.items in
    let f : ℕ → Mount = λ i. unplaced_top p.mount (member_of w p.mount p.dir i) in
    all_pushed f c.deref-id-items.result.now c.loop-id.id-index c.loop-id.mounts.items c.loop-id-test.false c.loop-id.invariant
    ∙ ap (map f) c.deref-id-items.ensures.value
    ∙ sym (map-map (member_of w p.mount p.dir) (unplaced_top p.mount) f (λ i. refl) members)
    ∙ ap (λ (s : Source). map (unplaced_top p.mount) s.mounts) (either_is w p c.requires.well_formed.forest.rising c.args.recursive members c.in_ok-members.ensures.members)
