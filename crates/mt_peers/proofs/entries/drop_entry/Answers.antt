use Rattle.std.proofs.Common.{rules, sym, ap, ◌∙◌}
use Rattle.std.proofs.lemmas.List.Sorted.{answers_always}
use Rattle.mt_skel.specs.Keyed.{rises, row_at}
use Rattle.mt_skel.proofs.SearchLaws.{not_found}
use Rattle.mt_peers.proofs.EntryLaws.{entry_mount, rises_now, drop_found, drop_none}
use Rattle.mt_peers.proofs.entries.drop_entry.Goals as goal

pub returns-in-Ok-clause-entries : goal.returns-in-Ok-clause-entries
returns-in-Ok-clause-entries c =
    let equal = c.in-Ok.ensures.position entry_mount (answers_always _ _ _ (λ f a r g called. search rules)) in
    drop_found c.args.id c.deref.result.now c.args.entries.now.items c.remove.new.self.items c.in-Ok.at c.deref.ensures.value (sym (rises_now c.args.entries.now.items) ∙ c.requires) c.in-Ok.ensures.bound equal c.remove.ensures.by_index.2

pub returns-in_default-clause-entries : goal.returns-in_default-clause-entries
returns-in_default-clause-entries c =
    let parted = c.in_default.ensures.position entry_mount (answers_always _ _ _ (λ f a r g called. search rules)) in
    let rising = ap (rises entry_mount) c.deref.ensures.value ∙ sym (rises_now c.args.entries.now.items) ∙ c.requires in
    drop_none c.args.id c.args.entries.now.items (ap (row_at entry_mount c.args.id) (sym c.deref.ensures.value) ∙ not_found entry_mount c.args.id c.in_default.field-0 c.deref.result.now rising parted)
