use Rattle.std.proofs.Common.{◌≡◌, ◌++◌, drop, map}
use Rattle.std.specs.List.{flat_map}
use Rattle.mt_import.specs.Front.{plain_text}
use Rattle.mt_import.proofs.front.stage_devices.Given as goal

-- what was appended and what is left are all
abbrev pub invariant-devices : goal.invariant-devices
invariant-devices l =
    l.script ++ flat_map plain_text (map (λ device. device.now) (drop l.device-index l.devices)) ≡ l.initial.script ++ flat_map plain_text (map (λ device. device.now) l.devices)
