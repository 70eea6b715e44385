use Rattle.std.proofs.Common.{rules, ◌≡◌, nat_le, Some, None, arith}
use Rattle.std.specs.List.{position_or_len}
use Rattle.mt_skel.proofs.PlaceLaws.{place-within}
use Rattle.mt_events.specs.Mirrors.{MirrorView}
use Rattle.mt_client.proofs.PlaceLaws.{place_is}
use Rattle.mt_client.proofs.mirrors.place_for.Goals as goal

pub returns-in-Some : goal.returns-in-Some
returns-in-Some c =
    let e : c.in-Some.place ≡ position_or_len (λ (m : MirrorView). nat_le c.args.space m.space) c.args.mirrors.now = place_is c.first_from.result (Some c.in-Some.place) (λ (m : MirrorView). nat_le c.args.space m.space) c.args.mirrors.now c.first_from.ensures (search rules) in
    let w = place-within (λ (m : MirrorView). nat_le c.args.space m.space) c.args.mirrors.now in
    record { place = e; within = omega (arith, e, w) }

pub returns-in-None-clause-place : goal.returns-in-None-clause-place
returns-in-None-clause-place c = place_is c.first_from.result None (λ (m : MirrorView). nat_le c.args.space m.space) c.args.mirrors.now c.first_from.ensures (search rules)
