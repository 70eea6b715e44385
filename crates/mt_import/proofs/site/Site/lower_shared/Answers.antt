use Rattle.std.proofs.Common.{rules, ◌++◌}
use Rattle.mt_import.proofs.CommandLaws.{three_pushed}
use Rattle.mt_import.specs.Commands.{pivot_text, umount_text}
use Rattle.mt_import.specs.Covers.{unshelve_text}
use Rattle.mt_import.specs.Script.{command_text}
use Rattle.mt_import.specs.Slots.{second}
use Rattle.mt_import.proofs.site.Site.lower_shared.Goals as goal

pub returns : goal.returns
unfolding unshelve_text command_text
returns c =
    let space = c.args.self.space.now in
    let peer = c.args.peer.now in
    three_pushed c.args.script.now c.run.new.script c.unmount.new.script c.unmount-2.new.script
    (pivot_text space second second) (umount_text space (peer ++ second)) (umount_text space peer)
    (search rules) (search rules) (search rules)
