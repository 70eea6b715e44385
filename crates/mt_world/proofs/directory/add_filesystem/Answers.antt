use Rattle.std.proofs.Common.{◌≡◌, ◌∙◌, ℕ, List, Option, Some, None, refl, subst, sym, ap, inl}
use Rattle.std.specs.Option.{is_some}
use Rattle.std.proofs.lemmas.Bool.{true≢false}
use Rattle.std.proofs.lemmas.Result.{on_ok_weaker}
use Rattle.mt_skel.specs.Skeleton.{Skeleton, IsSkeleton, fs_named}
use Rattle.mt_info.specs.Laws.{Grows}
use Rattle.mt_world.proofs.DirectoryLaws.{grows_same, fs_made, fs_filed, fs_refused}
use Rattle.mt_world.specs.Kept.{IsNamed}
use Rattle.mt_world.proofs.directory.add_filesystem.Goals as goal

pub returns-then-is_some-clause-grown : goal.returns-then-is_some-clause-grown
returns-then-is_some-clause-grown c = grows_same c.args.skel.now

pub returns-in_err-copy-clause-grown : goal.returns-in_err-copy-clause-grown
returns-in_err-copy-clause-grown c = grows_same c.args.skel.now

pub returns-in_err-copy-2-clause-grown : goal.returns-in_err-copy-2-clause-grown
returns-in_err-copy-2-clause-grown c = grows_same c.args.skel.now

pub returns-in_err-copy-3-clause-grown : goal.returns-in_err-copy-3-clause-grown
returns-in_err-copy-3-clause-grown c = grows_same c.args.skel.now

pub returns-in-Ok-clause-skeleton : goal.returns-in-Ok-clause-skeleton
returns-in-Ok-clause-skeleton c = (fs_made c.args.skel.now c.add_fs.new.self _ c.requires.skeleton c.in-Ok.ensures.done.0).0

pub returns-in-Ok-clause-grown : goal.returns-in-Ok-clause-grown
returns-in-Ok-clause-grown c = (fs_made c.args.skel.now c.add_fs.new.self _ c.requires.skeleton c.in-Ok.ensures.done.0).1

pub returns-in-Ok-clause-room : goal.returns-in-Ok-clause-room
returns-in-Ok-clause-room c = (fs_made c.args.skel.now c.add_fs.new.self _ c.requires.skeleton c.in-Ok.ensures.done.0).2

pub returns-in-Err-clause-room : goal.returns-in-Err-clause-room
returns-in-Err-clause-room c = ap (λ (s : Skeleton). s.room) c.in-Err.ensures.unchanged

pub returns-in-Err-clause-skeleton : goal.returns-in-Err-clause-skeleton
returns-in-Err-clause-skeleton c = subst IsSkeleton (sym c.in-Err.ensures.unchanged) c.requires.skeleton

pub returns-in-Err-clause-grown : goal.returns-in-Err-clause-grown
returns-in-Err-clause-grown c = subst (Grows c.args.skel.now) (sym c.in-Err.ensures.unchanged) (grows_same c.args.skel.now)

pub returns-then-is_some-clause-named : goal.returns-then-is_some-clause-named
returns-then-is_some-clause-named c = go (fs_named c.args.skel.now c.args.row.now.device) refl
  where
    go : (o : Option ℕ) → fs_named c.args.skel.now c.args.row.now.device ≡ o → IsNamed c.args.skel.now c.args.row.now.device
    go (Some f) e = inl (f, e)
    go None e = absurd (true≢false (sym c.if-is_some.true ∙ c.is_some.ensures ∙ ap is_some (c.fs.ensures.number ∙ e)))

pub returns-in-Ok-clause-named : goal.returns-in-Ok-clause-named
returns-in-Ok-clause-named c = subst (IsNamed c.add_fs.new.self) c.in_ok-copy.ensures.copy (fs_filed c.args.skel.now c.add_fs.new.self _ c.in-Ok.ensures.done.0)

pub returns-in-Err-clause-named : goal.returns-in-Err-clause-named
returns-in-Err-clause-named c =
    on_ok_weaker c.but_memory.result (λ other.
    subst (λ s. IsNamed s c.args.row.now.device) (sym c.in-Err.ensures.unchanged)
    (subst (IsNamed c.args.skel.now) c.in_ok-copy.ensures.copy
    (fs_refused c.args.skel.now _ c.in-Err.fault
    (ap (λ (n : List ℕ). is_some (fs_named c.args.skel.now n)) c.in_ok-copy.ensures.copy ∙ ap is_some (sym c.fs.ensures.number) ∙ sym c.is_some.ensures ∙ c.if-is_some.false) (c.in-Err.ensures.refused other))))
    c.but_memory.ensures.other
