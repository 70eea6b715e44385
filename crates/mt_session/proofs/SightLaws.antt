-- What a session has seen of the history, one moment after another.
use Rattle.std.proofs.Common.{◌≡◌, ℕ, List, ◌++◌, refl, sym, ap, ◌∙◌, subst, append_assoc}
use mathlib.Core.List.{IsPrefix}
use Rattle.mt_desk.specs.declared.act.LogEntry.{LogEntry}
use Rattle.mt_desk.specs.Entries.{WitnessView, acts_by}
use Rattle.mt_desk.proofs.EntryLaws.{seen_all}
use Rattle.mt_desk.specs.Desk.{DeskView}
use Rattle.mt_session.specs.SharedTurns.{IsAtDesk, SeesOn}

pub prefix_trans : (xs ys zs : List LogEntry) → IsPrefix xs ys → IsPrefix ys zs → IsPrefix xs zs
prefix_trans xs ys zs p q = (p.0 ++ q.0, sym (append_assoc xs p.0 q.0) ∙ ap (λ (l : List LogEntry). l ++ q.0) p.1 ∙ q.1)

-- it looks at nothing
pub sees_none : (v : WitnessView) → SeesOn v v
sees_none v = (refl, seen_all v.by v.seen)

pub sees_same : (v v' : WitnessView) → v' ≡ v → SeesOn v v'
sees_same v v' same = subst (λ (x : WitnessView). SeesOn v x) (sym same) (sees_none v)

-- it has looked at a desk, and done nothing there
pub sees_at : (v v' : WitnessView) (d : DeskView) (log : List LogEntry) → IsAtDesk v d log → v' ≡ record v { seen = log } → SeesOn v v'
sees_at v v' d log at is = subst (λ (x : WitnessView). SeesOn v x) (sym is) (refl, at.2)

-- it looks again
pub sees_then : (a b c : WitnessView) → SeesOn a b → SeesOn b c → SeesOn a c
sees_then a b c h k =
    let same : b.by ≡ a.by = ap (λ (x : WitnessView). x.by) h.0 in
    let acts : acts_by a.by c.seen ≡ acts_by a.by b.seen = subst (λ (n : ℕ). acts_by n c.seen ≡ acts_by n b.seen) same k.1.1 in
    (k.0 ∙ ap (λ (x : WitnessView). record x { seen = c.seen }) h.0, (prefix_trans a.seen b.seen c.seen h.1.0 k.1.0, acts ∙ h.1.1))
