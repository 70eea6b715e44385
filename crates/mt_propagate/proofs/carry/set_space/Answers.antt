use Rattle.std.proofs.Common.{List, sym, ap, ◌∙◌}
use Rattle.mt_skel.specs.Keyed.{put}
use Rattle.mt_mounts.specs.declared.mount.Mount.{Mount}
use Rattle.mt_mounts.specs.Forest.{id_of, mount_at, on}
use Rattle.mt_propagate.proofs.RehomedLaws.{absent-then, free-then, put-homed, none-homed}
use Rattle.mt_propagate.proofs.carry.set_space.Goals as goal

pub insert-requires-clause-absent : goal.insert-requires-clause-absent
insert-requires-clause-absent c =
    ap (λ (ms : List Mount). mount_at ms c.in-Some.mount.id) c.remove.ensures.mounts
    ∙ absent-then c.args.id c.args.space c.args.forest.now.mounts c.requires.leaves c.in-Some.mount (sym c.get.ensures ∙ c.in-Some.is)

pub insert-requires-clause-free : goal.insert-requires-clause-free
insert-requires-clause-free c p e =
    ap (λ (ms : List Mount). on ms p) c.remove.ensures.mounts
    ∙ free-then c.args.id c.args.space c.args.forest.now.mounts c.requires.leaves c.in-Some.mount (sym c.get.ensures ∙ c.in-Some.is) p e

pub returns-in-Some-clause-mounts : goal.returns-in-Some-clause-mounts
returns-in-Some-clause-mounts c =
    c.insert.ensures.mounts
    ∙ ap (put id_of (record c.in-Some.mount { space = c.args.space })) c.remove.ensures.mounts
    ∙ put-homed c.args.id c.args.space c.args.forest.now.mounts c.requires.leaves c.in-Some.mount (sym c.get.ensures ∙ c.in-Some.is)

pub returns-in_default-clause-mounts : goal.returns-in_default-clause-mounts
returns-in_default-clause-mounts c = sym (none-homed c.args.id c.args.space c.args.forest.now.mounts c.requires.leaves.rising (sym c.get.ensures ∙ c.in_default.is))
