use Rattle.std.proofs.Common.{◌<◌, ◌==◌, ◌&&◌, ap, ◌∙◌, cond, map, length, Some, arith}
use Rattle.std.specs.Str.{bytes_eq}
use Rattle.std.proofs.lemmas.List.{length-map}
use Rattle.std.proofs.lemmas.Result.{err_from_is_err_and}
use Rattle.mt_skel.specs.Children.{child_in}
use Rattle.mt_skel.proofs.ChildrenLaws.{unchanged_names, grown}
use Rattle.mt_skel.proofs.children.Children.push_child.Goals as goal

pub returns-in_err-insert-clause-unchanged : goal.returns-in_err-insert-clause-unchanged
returns-in_err-insert-clause-unchanged c =
    let f = err_from_is_err_and c.from_residual-in_err-insert.result c.from_residual-in_err-insert.ensures.1 in
    rw f.1 (unchanged_names (λ m. m.entries) c.reserve.new.self.items c.args.dir c.index_mut.result.now c.insert.new.self c.index_mut.ensures.value c.in_err-insert.ensures.err
    ∙ ap (λ l. map (λ m. m.entries) l) c.in_ok-reserve.ensures.items ∙ c.self.view_is)

pub returns-clause-child : goal.returns-clause-child
returns-clause-child c =
    let names = ap (λ l. map (λ m. m.entries) l) c.in_ok-reserve.ensures.items ∙ c.self.view_is in
    let within : c.args.dir < length c.reserve.new.self.items = omega (arith, c.requires, ap length names, length-map c.reserve.new.self.items (λ m. m.entries)) in
    λ d other.
    ap (λ l. child_in (map (λ m. m.entries) l) d other) c.in_ok-push.ensures.items
    ∙ grown (λ m. m.entries) c.reserve.new.self.items c.args.dir c.index_mut.result.now c.insert.new.self c.new.result c.args.name c.args.child within c.index_mut.ensures.value (λ q. c.in_ok-insert.ensures.updates.0 q) c.new.ensures.empty d other
    ∙ ap (λ l. cond ((c.args.dir == d) && bytes_eq c.args.name other) (Some c.args.child) (child_in l d other)) names
