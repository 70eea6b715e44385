use Rattle.std.proofs.Common.{◌≡◌, rules, sym, ap, ◌∙◌, None}
use Rattle.std.proofs.lemmas.List.Sorted.{answers_always}
use Rattle.mt_skel.specs.Keyed.{row_at}
use Rattle.mt_skel.proofs.SearchLaws.{found_at, not_found}
use Rattle.mt_peers.proofs.EntryLaws.{entry_mount, entry_state, rises_now, state_now, give_found, give_none}
use Rattle.mt_peers.proofs.entries.give_state.Goals as goal

pub returns-in-Ok-clause-entries : goal.returns-in-Ok-clause-entries
returns-in-Ok-clause-entries c =
    let equal = c.in-Ok.ensures.position entry_mount (answers_always _ _ _ (λ f a r g called. search rules)) in
    give_found c.args.id c.args.state c.args.entries.now c.in-Ok.at _ (sym (rises_now c.args.entries.now) ∙ c.requires) c.in-Ok.ensures.bound equal

pub returns-in-Ok-clause-was : goal.returns-in-Ok-clause-was
returns-in-Ok-clause-was c =
    let equal = c.in-Ok.ensures.position entry_mount (answers_always _ _ _ (λ f a r g called. search rules)) in
    ap entry_state (found_at entry_mount c.args.id c.in-Ok.at c.args.entries.now _ (sym (rises_now c.args.entries.now) ∙ c.requires) c.in-Ok.ensures.bound equal)
    ∙ sym (state_now c.args.id c.args.entries.now)

none : (c : goal.In-Err) → row_at entry_mount c.args.id c.args.entries.now ≡ None
none c =
    let parted = c.in-Err.ensures.position entry_mount (answers_always _ _ _ (λ f a r g called. search rules)) in
    not_found entry_mount c.args.id c.in-Err.field-0 c.args.entries.now (sym (rises_now c.args.entries.now) ∙ c.requires) parted

pub returns-in-Err-clause-entries : goal.returns-in-Err-clause-entries
returns-in-Err-clause-entries c = give_none c.args.id c.args.state c.args.entries.now (none c)

pub returns-in-Err-clause-was : goal.returns-in-Err-clause-was
returns-in-Err-clause-was c = sym (ap entry_state (none c)) ∙ sym (state_now c.args.id c.args.entries.now)
