use Rattle.std.proofs.Common.{◌≡◌, ◌+◌, ◌<◌, ◌≤◌, ◌++◌, [], ◌∷◌, take, length, get_or, sym, ap, subst, ◌∙◌, arith}
use Rattle.mt_mounts.proofs.SubtreeLaws.{IsGathering, gathered_by, gathering-start, gathering-next, gathering-bound, gathering-end}
use Rattle.mt_mounts.proofs.forest.Forest.gather.Goals as goal

pub mounts-init : goal.mounts-init
mounts-init c =
    let one : c.push.new.self.items ≡ c.args.id ∷ [] = c.in_ok-push.ensures.items ∙ ap (λ l. l ++ c.args.id ∷ []) c.new-gathered.ensures.items in
    subst (λ l. IsGathering c.args.self.now.mounts c.args.id [] l) (sym one) (gathering-start c.args.self.now.mounts c.args.id)

pub mounts-smaller : goal.mounts-smaller
mounts-smaller c =
    let in_all : c.mounts.visited < length c.mounts.gathered.items = omega (arith, c.mounts-test.true, c.len.ensures, c.mounts.gathered.ok.0) in
    let bound = gathering-bound c.args.self.now.mounts c.args.id (take c.mounts.visited c.mounts.gathered.items) c.mounts.gathered.items c.mounts.invariant in
    omega (arith, in_all, bound)

pub mounts-preserved : goal.mounts-preserved
mounts-preserved c =
    let ms = c.args.self.now.mounts in
    let g = c.args.id in
    let i = c.mounts.visited in
    let m = c.index-parent.result.now in
    let all = c.mounts.gathered.items in
    let in_all : i < length all = omega (arith, c.mounts-test.true, c.len.ensures, c.mounts.gathered.ok.0) in
    let at : get_or all i m ≡ m = sym c.index-parent.ensures in
    let grown : c.gather_children.new.gathered.items ≡ all ++ gathered_by ms g (get_or all i m) = c.in_ok-gather_children.ensures.gathered ∙ ap (λ k. all ++ gathered_by ms g k) (sym at) in
    subst (λ l. IsGathering ms g (take (i + 1) l) l) (sym grown) (gathering-next ms g i m all c.known.ensures.rising c.mounts.invariant in_all)

pub returns-clause-gathered : goal.returns-clause-gathered
returns-clause-gathered c q =
    let out : length c.mounts.gathered.items ≤ c.mounts.visited = omega (arith, c.mounts-test.false, c.len.ensures, c.mounts.gathered.ok.0) in
    gathering-end c.args.self.now.mounts c.args.id c.mounts.visited c.mounts.gathered.items c.mounts.invariant out q
