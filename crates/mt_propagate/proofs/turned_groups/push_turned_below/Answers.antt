use Rattle.std.proofs.Common.{◌≡◌, ◌||◌, ℕ, List, [], true, false, refl, sym, ap, ◌∙◌, map}
use Rattle.std.specs.Prelude.{nat_eq}
use Rattle.std.specs.List.{flat_map, list_any}
use Rattle.mt_skel.specs.Keyed.{among}
use Rattle.mt_peers.specs.Peers.{is_slave}
use Rattle.mt_peers.proofs.SlaveLaws.{no-slaves}
use Rattle.mt_propagate.specs.World.{world_view, space_of}
use Rattle.mt_propagate.specs.Turned.{groups_of_changed, groups_lasting}
use Rattle.mt_propagate.proofs.TurnedLaws.{among-any, around-ids, turned-touched}
use Rattle.mt_propagate.proofs.turned_groups.push_turned_below.Goals as goal

pub returns-then-not-has_slaves-clause-touched : goal.returns-then-not-has_slaves-clause-touched
returns-then-not-has_slaves-clause-touched c =
    let v = world_view c.args.before.now in
    let w = world_view c.args.after.now in
    let ids = c.args.ids.now.items in
    let none : list_any is_slave w.peering.peers ≡ false = sym c.has_slaves.ensures ∙ c.if-not-has_slaves.true in
    turned-touched v w c.requires.before c.requires.after ids ids [] [] (λ n. true) c.requires.noted
    (λ i at. at)
    (λ i at. (refl, refl))
    (λ g at out some. absurd (some (no-slaves w.peering.peers g none)))
    (λ g at out some. absurd (some (no-slaves w.peering.peers g none)))
    (λ g i at. cc)
    (λ g i at. cc)

pub returns-clause-touched : goal.returns-clause-touched
returns-clause-touched c =
    let v = world_view c.args.before.now in
    let w = world_view c.args.after.now in
    let ids = c.args.ids.now.items in
    let spaces = c.in_ok-spaces.spaces.items in
    turned-touched v w c.requires.before c.requires.after ids c.push_below_in.new.ids.items c.in_ok-led.led.items c.in_ok-turned.turned.items (among spaces) c.requires.noted
    (λ i e. c.in_ok-push_below_in.ensures.kept i (c.in_ok-push_all_below.ensures.kept i e))
    (λ i e.
    let q = around-ids v w ids i e in (
      c.in_ok-spaces.ensures.spaces (space_of v i)
          ∙ (ap (λ (xs : List ℕ). among (map (space_of v) xs) (space_of v i) || among (map (space_of w) xs) (space_of v i)) c.deref-5.ensures.value ∙ q.0),
      c.in_ok-spaces.ensures.spaces (space_of w i)
          ∙ (ap (λ (xs : List ℕ). among (map (space_of v) xs) (space_of w i) || among (map (space_of w) xs) (space_of w i)) c.deref-5.ensures.value ∙ q.1),
    ))
    (λ g e. c.in_ok-led.ensures.led g (ap (λ xs. among xs g) c.deref-2.ensures.value ∙ (c.in_ok-groups.ensures.groups g ∙ (ap (λ xs. among (flat_map (groups_of_changed v w) xs) g) c.deref.ensures.value ∙ e))))
    (λ g e. c.in_ok-turned.ensures.turned g (ap (λ xs. among xs g) c.deref-4.ensures.value ∙ (c.in_ok-lasting.ensures.groups g ∙ (ap (λ xs. among (flat_map (groups_lasting v w) xs) g) c.deref-3.ensures.value ∙ e))))
    (λ g i e b. c.in_ok-push_below_in.ensures.kept i (c.in_ok-push_all_below.ensures.below g i (ap (λ xs. among xs g) c.deref-6.ensures.value ∙ e) b))
    (λ g i e b on. c.in_ok-push_below_in.ensures.below g i (ap (λ xs. among xs g) c.deref-7.ensures.value ∙ e) b (ap (λ xs. list_any (nat_eq (space_of w i)) xs) c.deref-8.ensures.value ∙ (sym (among-any spaces (space_of w i)) ∙ on)))
