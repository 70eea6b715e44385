use Rattle.std.proofs.Common.{ℕ, Bool, List, ap, ◌∙◌, nat_lt, ◌≡◌, is_ok, if◌then◌else◌}
use Rattle.std.specs.List.{insert, position_or_len}
use Rattle.mt_peers.specs.declared.entries.Entry.{Entry}
use Rattle.mt_peers.specs.Entries.{now_peers}
use Rattle.mt_peers.proofs.EntryLaws.{now-insert}
use Rattle.mt_peers.proofs.entries.add_entry.Goals as goal

pub returns-clause-peers : goal.returns-clause-peers
returns-clause-peers c =
    let old = c.args.entries.now.items in
    let x : Entry = record { mount = c.args.id; state = c.args.state; was = c.args.state } in
    let place : c.place_for-place.result ≡ position_or_len (λ (e : Entry). nat_lt c.args.id e.mount) old =
    c.place_for-place.ensures.place ∙ ap (λ (es : List Entry). position_or_len (λ (e : Entry). nat_lt c.args.id e.mount) es) c.deref.ensures.value in
    ap now_peers (c.insert.ensures.items ∙ ap (λ (b : Bool). if b then insert old c.place_for-place.result x else old) (ap is_ok c.unwrap.ensures))
    ∙ ap (λ (n : ℕ). now_peers (insert old n x)) place
    ∙ now-insert x old c.requires.absent
