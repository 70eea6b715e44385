-- Which mounts are looked at where the tables of two worlds are compared.
use Rattle.std.proofs.Common.{◌≡◌, ℕ, ◌<◌, Bool, true, false, ◌==◌, eqb-true, List, [], length, get_or, Option, Some, None, refl, sym, ap, ◌∙◌, arith}
use Rattle.std.specs.List.{filter}
use Rattle.std.specs.Option.{option_map, unwrap_or}
use Rattle.std.proofs.lemmas.Bool.{or_parts}
use Rattle.std.proofs.lemmas.Map.Views.{any-filter_same}
use Rattle.std.proofs.lemmas.List.{get_or_default}
use Rattle.std.specs.Prelude.{nat_eq}
use Rattle.mt_skel.specs.Keyed.{row_at}
use Rattle.mt_mounts.specs.declared.mount.Mount.{Mount}
use Rattle.mt_mounts.specs.Forest.{mount_at}
use Rattle.mt_propagate.specs.World.{WorldView, space_of}
use Rattle.mt_propagate.specs.WellFormed.{IsWellFormed}
use Rattle.mt_info.specs.Table.{row_id, table_of}
use Rattle.mt_events.specs.Difference.{HoldsChanged}
use Rattle.mt_events.proofs.TouchedLaws.{row_nowhere, row_elsewhere}
use Rattle.mt_book.specs.declared.command.Command.{Command}
use Rattle.mt_book.specs.Step.{next_world, makes_directories}
use Rattle.mt_book.specs.Parts.{is_part, part_at}
use Rattle.mt_book.proofs.EffectLaws.{skel_kept, next_by}

-- a command that makes no directories leaves them as they are
pub skel_stays : (w v : WorldView) (c : Command) → makes_directories c ≡ false → v ≡ next_world w c → w.skel ≡ v.skel
skel_stays w v c d e = sym (ap (λ (x : WorldView). x.skel) e ∙ next_by (λ x. x.skel ≡ w.skel) w c refl (λ x r q. skel_kept w c x r d q))

-- a mount that is not of a namespace, if it is there, has no row in its table
pub no_row : (w : WorldView) (n i : ℕ) → IsWellFormed w → ((m : Mount) → mount_at w.forest i ≡ Some m → (m.space == n) ≡ false) → row_at row_id i (table_of w n) ≡ None
no_row w n i h out = go (mount_at w.forest i) refl
  where
    go : (o : Option Mount) → mount_at w.forest i ≡ o → row_at row_id i (table_of w n) ≡ None
    go None e = row_nowhere w n i h e
    go (Some m) e = row_elsewhere w n i h m e (out m e)

-- the mounts of one namespace hold those whose rows differ there
pub part_holds : (w v : WorldView) (n : ℕ) (rows : List ℕ) → IsWellFormed w → IsWellFormed v → HoldsChanged (table_of w n) (table_of v n) rows → HoldsChanged (table_of w n) (table_of v n) (filter (is_part w v n) rows)
part_holds w v n rows h g held i out = go (is_part w v n i) refl
  where
    space : Option Mount → ℕ
    space o = unwrap_or (option_map (λ (m : Mount). m.space) o) 0

    go : (b : Bool) → is_part w v n i ≡ b → row_at row_id i (table_of w n) ≡ row_at row_id i (table_of v n)
    go true is = held i (sym (any-filter_same (λ k. nat_eq k i) (is_part w v n) true (λ k e. ap (is_part w v n) (eqb-true k i e) ∙ is) rows) ∙ out)
    go false is =
        let off = or_parts (space_of w i == n) _ is in
        no_row w n i h (λ m e. ap (λ o. space o == n) (sym e) ∙ off.0) ∙ sym (no_row v n i g (λ m e. ap (λ o. space o == n) (sym e) ∙ off.1))

-- the mounts of one namespace, by its place among all
pub part_is : (parts : List (List ℕ)) (part ids : List ℕ) (k n : ℕ) (t : ℕ → Bool) → part ≡ get_or parts k part → length parts ≡ n → k < n → (k < n → part_at parts k ≡ filter t ids) → part ≡ filter t ids
part_is parts part ids k n t at e l is = at ∙ get_or_default parts k part [] (omega (arith, e, l)) ∙ is l
