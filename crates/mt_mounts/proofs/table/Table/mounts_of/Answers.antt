use Rattle.std.proofs.Common.{◌≡◌, ℕ, ◌+◌, ◌<◌, List, [], ◌∷◌, ◌++◌, length, get_or, drop, sym, ap, ◌∙◌, append-nil, append_assoc}
use Rattle.std.specs.Option.{option_map_or}
use Rattle.std.proofs.lemmas.List.{at_drop_more, at_drop_all}
use Rattle.mt_mounts.specs.declared.mount.Mount.{Mount}
use Rattle.mt_mounts.specs.Forest.{mount_at}
use Rattle.mt_mounts.specs.Slots.{mounts_of}
use Rattle.mt_mounts.proofs.table.Table.mounts_of.Goals as goal

-- the mounts with the one of the next ID, if it is there
listed : (ms : List Mount) (ids : List ℕ) (i : ℕ) (old new all : List Mount) → i < length ids → old ++ mounts_of ms (drop i ids) ≡ all → new ≡ old ++ mounts_of ms (get_or ids i 0 ∷ []) → new ++ mounts_of ms (drop (i + 1) ids) ≡ all
listed ms ids i old new all l h e =
    let rest = mounts_of ms (drop (i + 1) ids) in
    let one : List Mount = option_map_or (λ m. m ∷ []) (mount_at ms (get_or ids i 0)) [] in
    ap (λ t. t ++ rest) (e ∙ ap (λ t. old ++ t) (append-nil one)) ∙ append_assoc old one rest ∙ ap (λ t. old ++ t) (sym (at_drop_more (mounts_of ms) ids i 0 l)) ∙ h

pub loop-id-preserved : goal.loop-id-preserved
loop-id-preserved c =
    listed c.args.self.now.mounts c.args.ids.now c.loop-id.id-index c.loop-id.mounts.items c.list.new.mounts.items _ c.loop-id-test.true c.loop-id.invariant c.in_ok-list.ensures.listed

pub returns-clause-mounts : goal.returns-clause-mounts
returns-clause-mounts c =
    let none = at_drop_all (mounts_of c.args.self.now.mounts) c.args.ids.now c.loop-id.id-index c.loop-id-test.false in
    sym (ap (λ t. c.loop-id.mounts.items ++ t) none ∙ append-nil c.loop-id.mounts.items) ∙ c.loop-id.invariant
