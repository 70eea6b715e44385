use Rattle.std.proofs.Common.{rules, sym, ap, ◌∙◌}
use Rattle.std.proofs.lemmas.List.Sorted.{answers_always}
use Rattle.mt_skel.proofs.SearchLaws.{found_at, not_found}
use Rattle.mt_peers.proofs.EntryLaws.{entry_mount, entry_state, rises_now, state_now}
use Rattle.mt_peers.proofs.entries.find_state.Goals as goal

pub returns-in-Ok : goal.returns-in-Ok
returns-in-Ok c =
    let equal = c.in-Ok.ensures.position entry_mount (answers_always _ _ _ (λ f a r g called. search rules)) in
    let rising = sym (rises_now c.args.entries.now) ∙ c.requires in
    ap entry_state (found_at entry_mount c.args.id c.in-Ok.at c.args.entries.now _ rising c.in-Ok.ensures.bound equal) ∙ sym (state_now c.args.id c.args.entries.now)

pub returns-in-Err : goal.returns-in-Err
returns-in-Err c =
    let parted = c.in-Err.ensures.position entry_mount (answers_always _ _ _ (λ f a r g called. search rules)) in
    let rising = sym (rises_now c.args.entries.now) ∙ c.requires in
    sym (ap entry_state (not_found entry_mount c.args.id c.in-Err.field-0 c.args.entries.now rising parted)) ∙ sym (state_now c.args.id c.args.entries.now)
