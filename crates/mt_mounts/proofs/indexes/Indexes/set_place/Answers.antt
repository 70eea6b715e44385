use Rattle.std.proofs.Common.{◌≡◌, true, false, cond, Some, None, refl, sym, ap, ◌∙◌}
use Rattle.std.specs.Option.{option_map}
use Rattle.mt_mounts.specs.Forest.{on, is_at, place_eq, root_place}
use Rattle.mt_mounts.specs.Indexes.{over}
use Rattle.mt_mounts.proofs.WrittenLaws.{moved_to, place_written}
use Rattle.mt_mounts.proofs.IndexLaws.{rooted, stands_once, indexed_written}
use Rattle.mt_mounts.proofs.indexes.Indexes.set_place.Goals as goal

pub returns-clause-indexed : goal.returns-clause-indexed
returns-clause-indexed c =
    let m = c.args.mount in
    let p = c.args.place in
    λ ms r single there free x. indexed_written ms _ c.args.self.now _ r single x m.id (Some m) (Some (moved_to p m)) there (place_written ms r m.id (Some m) there p) (λ q e. let pq : p ≡ q = cc in ap (on ms) (sym pq) ∙ free)
    (λ q. c.stand.ensures.places q ∙ ap (cond (place_eq q p) (Some m.id)) (c.leave.ensures.places q))
    (c.uproot.ensures.rows (rooted ms c.args.self.now r x m.id (Some m) there))
    (c.go.ensures.stacked (over ms) (elim (is_at p m) as (λ b. cond b None (over ms p) ≡ None) [ true ↦ refl | false ↦ ap (option_map root_place) free ]) (stands_once ms r m there) x.stacked)
