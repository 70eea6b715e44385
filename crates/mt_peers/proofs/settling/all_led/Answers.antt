use Rattle.std.proofs.Common.{true, ◌&&◌, sym, ap}
use Rattle.std.specs.Option.{option_map_or}
use Rattle.mt_peers.specs.Peers.{has_member}
use Rattle.mt_peers.proofs.settling.all_led.Goals as goal

pub returns-then-not-live : goal.returns-then-not-live
returns-then-not-live c es told = sym (ap (λ b. b && option_map_or (has_member es) c.args.master true) c.if-not-live.true)
