use Rattle.std.proofs.Common.{◌≡◌, ◌∷◌, [], ◌++◌, ap, sym, ◌∙◌, Ok, inl, inr, arith}
use Rattle.std.specs.Option.{is_some}
use Rattle.std.proofs.lemmas.Result.{IfOk-weaker}
use Rattle.mt_skel.specs.Skeleton.{directory, child, with_dir}
use Rattle.mt_skel.proofs.AddedLaws.{IsPlaced, root_exists, parent_at, parent_there, dir_exists, many_dirs, dir_added}
use Rattle.mt_skel.proofs.NodeLaws.{sound}
use Rattle.mt_skel.proofs.skel.Skel.add_dir.Goals.{In-Some-find, After-is_some}
use Rattle.mt_skel.proofs.skel.Skel.add_dir.Goals as goal
use Rattle.mt_skel.proofs.skel.Skel.add_dir.Goals.{then-path-gt-MOST_DEPTH-via-then-path-gt-MOST_DEPTH, then-path-gt-MOST_DEPTH-via-else-path-gt-MOST_DEPTH+then-has_most_directories}

pub returns-in_default-split_last-clause-refused :
    goal.returns-in_default-split_last-clause-refused
returns-in_default-split_last-clause-refused c _ =
    root_exists c.args.self.now (sound c.self.invariant.laid_out _ c.self.view_is) c.args.fs.now c.args.path.now c.in-Some.fs (sym c.in-Some.ensures.number) c.in_default-split_last.ensures.cases c.in-Some.ensures.there

-- the parent is there
placed : (c : In-Some-find) → IsPlaced c.args.self.now c.args.fs.now c.args.path.now c.in-Some.fs c.in-Some-split_last.above.now c.in-Some-split_last.name.now c.in-Some-find.parent
placed c = record {
  named = sym c.in-Some.ensures.number;
  split = c.in-Some-split_last.ensures.cases.0;
  found = sym c.in-Some-find.ensures;
}

-- and whether it has a directory of the name is tested
tested : (c : After-is_some) → is_some (child c.args.self.now c.in-Some-find.parent c.in-Some-split_last.name.now) ≡ c.is_some.result
tested c = ap (λ o. is_some o) (sym c.child.ensures.child) ∙ sym c.is_some.ensures

pub returns-then-is_some-clause-refused : goal.returns-then-is_some-clause-refused
returns-then-is_some-clause-refused c _ =
    let a = goal.at.returns-then-is_some-clause-refused c in
    dir_exists (placed a.In-Some-find) (tested a.After-is_some ∙ c.if-is_some.true)

pub returns-then-path-gt-MOST_DEPTH-clause-refused :
    goal.returns-then-path-gt-MOST_DEPTH-clause-refused
returns-then-path-gt-MOST_DEPTH-clause-refused c _ =
    let a = goal.at.returns-then-path-gt-MOST_DEPTH-clause-refused c in
    many_dirs (placed a.In-Some-find) (tested a.After-is_some ∙ c.if-is_some.false) (elim c.then-path-gt-MOST_DEPTH.branch [
      | then-path-gt-MOST_DEPTH-via-then-path-gt-MOST_DEPTH w ↦ inl (omega (arith, w.if-path-gt-MOST_DEPTH.true))
      | then-path-gt-MOST_DEPTH-via-else-path-gt-MOST_DEPTH+then-has_most_directories w ↦ inr (sym w.has_most_directories.ensures ∙ w.if-has_most_directories.true)
    ])

pub push_node-requires-clause-there : goal.push_node-requires-clause-there
push_node-requires-clause-there c = parent_there (placed (goal.at.push_node-requires-clause-there c).In-Some-find)

pub push_node-requires-clause-same : goal.push_node-requires-clause-same
push_node-requires-clause-same c = ap (λ d. d.fs) (sym (parent_at (placed (goal.at.push_node-requires-clause-same c).In-Some-find)))

pub returns-clause-done : goal.returns-clause-done
returns-clause-done c =
    let a = goal.at.returns-clause-done c in
    let few = sym c.has_most_directories.ensures ∙ c.if-has_most_directories.false in
    let added = dir_added (placed a.In-Some-find) (tested a.After-is_some ∙ c.if-is_some.false) (omega (arith, c.if-path-gt-MOST_DEPTH.false)) few in
    IfOk-weaker c.push_node.result _ _
    (λ dir h. (added ∙ ap (λ x. Ok (with_dir c.args.self.now (record { fs = c.in-Some.fs; path = (directory c.args.self.now c.in-Some-find.parent).path ++ x ∷ [] }))) (sym c.in_ok-name.ensures.copy) ∙ ap (λ v. Ok v) (sym h.0), h.1))
    c.push_node.ensures.done
