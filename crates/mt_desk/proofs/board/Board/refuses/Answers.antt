use Rattle.std.proofs.Common.{◌≡◌, ◌∙◌, length, ap, sym, arith}
use Rattle.std.proofs.lemmas.List.{length-map}
use Rattle.mt_desk.specs.Desk.{DeskView, floor_of_desk, late_watcher}
use Rattle.mt_desk.specs.Places.{row_in}
use Rattle.mt_desk.proofs.board.Board.refuses.Goals as goal

-- there are as many watchers as places in use
pub returns : goal.returns
returns g c =
    let here = sym c.self.view_is in
    let count : length c.self.inside.order.items ≡ c.len.result = omega (arith, c.len.ensures, c.self.inside.order.ok.0, c.self.inside.order.ok.1) in
    c.opening_refusal.ensures (floor_of_desk c.args.self.now)
    (ap (λ (d : DeskView). d.journal) here)
    (length-map c.args.self.now.rows (late_watcher c.args.self.now.capacity) ∙ ap (λ (d : DeskView). length d.rows) here
    ∙ length-map c.self.inside.order.items (row_in c.self.inside.slots.items) ∙ count)
    (ap (λ (d : DeskView). d.next_key) here)
    (ap (λ (d : DeskView). d.stopped) here)
