use Rattle.std.proofs.Common.{◌≡◌, take}
use Rattle.guest_names.specs.Standing.{files_in}
use Rattle.guest_names.specs.Planted.{planted_of, stood_after}
use Rattle.guest_names.proofs.planting.plant_all.Given as goal

abbrev pub invariant-loop-index : goal.invariant-loop-index
invariant-loop-index l = planted_of l.to ≡ stood_after l.opened (files_in (take l.index l.lines))
