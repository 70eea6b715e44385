use Rattle.std.proofs.Common.{◌≡◌, List, ℕ, ◌++◌, ◌∙◌, ap, append_assoc, codes, decimal, length}
use Rattle.std.specs.List.{flat_map}
use Rattle.mt_info.specs.RowLine.{whole_line}
use Rattle.mt_events.proofs.texts.push_part.Goals as goal

eight : (text0 text1 text2 text3 text4 text5 text6 text7 text8 a b c d e f g h : List ℕ) → text1 ≡ text0 ++ a → text2 ≡ text1 ++ b → text3 ≡ text2 ++ c → text4 ≡ text3 ++ d → text5 ≡ text4 ++ e → text6 ≡ text5 ++ f
    → text7 ≡ text6 ++ g → text8 ≡ text7 ++ h → text8 ≡ text0 ++ (a ++ b ++ c ++ d ++ e ++ f ++ g ++ h)
eight text0 text1 text2 text3 text4 text5 text6 text7 text8 a b c d e f g h e1 e2 e3 e4 e5 e6 e7 e8 = rw (e8, e7, e6, e5, e4, e3, e2, e1) (simp append_assoc)

pub returns : goal.returns
returns c =
    let part = c.args.part.now in
    eight c.args.lines.now.items c.extend_from_slice.new.self.items c.push_number.new.text.items c.extend_from_slice-2.new.self.items c.push_number-2.new.text.items c.extend_from_slice-3.new.self.items
    c.push_number-3.new.text.items c.extend_from_slice-4.new.self.items c.push_rows.new.lines.items
    (codes "space ") (decimal part.space) (codes " ") (decimal part.number) (codes " ") (decimal (length part.table)) (codes "\n") (flat_map whole_line part.table)
    c.in_ok-extend_from_slice.ensures.items c.in_ok-push_number.ensures.text c.in_ok-extend_from_slice-2.ensures.items c.in_ok-push_number-2.ensures.text c.in_ok-extend_from_slice-3.ensures.items
    (c.in_ok-push_number-3.ensures.text ∙ ap (λ rows. c.extend_from_slice-3.new.self.items ++ decimal (length rows)) c.rows-rows.ensures.rows)
    c.in_ok-extend_from_slice-4.ensures.items
    (c.in_ok-push_rows.ensures ∙ ap (λ rows. c.extend_from_slice-4.new.self.items ++ flat_map whole_line rows) c.rows-rows.ensures.rows)
