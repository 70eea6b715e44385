use Rattle.std.proofs.Common.{◌≡◌, ◌+◌, ◌++◌, ◌∷◌, [], ap, sym, ◌∙◌, length, Ok, None, inl, inr, arith}
use Rattle.std.proofs.lemmas.List.{length_push}
use Rattle.mt_skel.specs.declared.skel.Filesystem.{Filesystem}
use Rattle.mt_skel.specs.declared.skel.Node.{Node}
use Rattle.mt_skel.specs.Skeleton.{fs_named, with_fs}
use Rattle.mt_skel.specs.Nodes.{skeleton_with, IsKeptSkeleton}
use Rattle.mt_skel.proofs.AddedLaws.{many_fs, fs_added}
use Rattle.mt_skel.proofs.NodeLaws.{counted}
use Rattle.mt_skel.proofs.IndexLaws.{fs_kept}
use Rattle.mt_skel.proofs.skel.Skel.add_fs.Goals.{After-unwrap-2}
use Rattle.mt_skel.proofs.skel.Skel.add_fs.Goals as goal
use Rattle.mt_skel.proofs.skel.Skel.add_fs.Goals.{then-has_most_filesystems-via-then-has_most_filesystems, then-has_most_filesystems-via-else-has_most_filesystems+then-has_most_directories}

pub returns-then-has_most_filesystems-clause-refused :
    goal.returns-then-has_most_filesystems-clause-refused
returns-then-has_most_filesystems-clause-refused c _ =
    let free : fs_named c.args.self.now c.args.name ≡ None = grind (arith, c.is_some.ensures, c.if-is_some.false, c.fs.ensures.number) in
    many_fs c.args.self.now _ free (elim c.then-has_most_filesystems.branch [
      | then-has_most_filesystems-via-then-has_most_filesystems w ↦ inl (sym c.has_most_filesystems.ensures ∙ w.if-has_most_filesystems.true)
      | then-has_most_filesystems-via-else-has_most_filesystems+then-has_most_directories w ↦ inr (sym w.has_most_directories.ensures ∙ w.if-has_most_directories.true)
    ])

-- one filesystem more
grown : (c : After-unwrap-2) → IsKeptSkeleton c.push-2.new.self.items c.push.new.self.items c.push_root.new.self
    × (skeleton_with c.push-2.new.self.items c.push.new.self.items c.self.inside.room ≡ with_fs c.args.self.now (record { name = c.args.name; kind = c.args.kind; source = c.args.source }))
grown c =
    let free : fs_named c.args.self.now c.args.name ≡ None = grind (arith, c.is_some.ensures, c.if-is_some.false, c.fs.ensures.number) in
    let f : Filesystem = record { name = c.args.name; kind = c.args.kind; source = c.args.source; root = c.len-root.result } in
    let node : Node = record { fs = c.len.result + 1; up = None } in
    let root : c.len-root.result ≡ length c.self.inside.nodes.items = omega (arith, c.len-root.ensures, c.in_ok-reserve.ensures.len, c.self.inside.nodes.ok) in
    let next : c.len.result + 1 ≡ length c.self.inside.filesystems.items + 1 = omega (arith, c.len.ensures, c.in_ok-reserve-2.ensures.len, c.self.inside.filesystems.ok) in
    let with_node = rw c.unwrap.ensures at c.push.ensures.items in
    let with_f = rw c.unwrap-2.ensures at c.push-2.ensures.items in
    fs_kept c.push_root.new.self c.args.self.now f (c.len.result + 1) c.self.invariant c.self.view_is free root next c.in_ok-push_root.ensures.length c.in_ok-push_root.ensures.child
    (with_f ∙ ap (λ l. l ++ f ∷ []) c.in_ok-reserve-2.ensures.items) (with_node ∙ ap (λ l. l ++ node ∷ []) c.in_ok-reserve.ensures.items)

pub invariant_of-self-2 : goal.invariant_of-self-2
invariant_of-self-2 c = (grown c).0

pub returns-clause-done : goal.returns-clause-done
returns-clause-done c =
    let free : fs_named c.args.self.now c.args.name ≡ None = grind (arith, c.is_some.ensures, c.if-is_some.false, c.fs.ensures.number) in
    let size = counted _ _ _ c.self.view_is in
    let few_fs = sym c.has_most_filesystems.ensures ∙ c.if-has_most_filesystems.false in
    let few_dirs = sym c.has_most_directories.ensures ∙ c.if-has_most_directories.false in (
      fs_added c.args.self.now _ free few_fs few_dirs ∙ ap (λ v. Ok v) (sym (grown c).1),
      omega (arith, c.len.ensures, c.in_ok-reserve-2.ensures.len, c.self.inside.filesystems.ok, size, ap (λ v. length v.filesystems) (grown c).1, length_push c.args.self.now.filesystems (record { name = c.args.name; kind = c.args.kind; source = c.args.source })),
    )
