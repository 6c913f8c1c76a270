use Rattle.std.proofs.Common.{◌≡◌, ◌<◌, ◌+◌, ◌-◌, suc, arith}
use Rattle.sha_tree.specs.Tree.{div_up}
use Rattle.sha_tree.proofs.Levels.{climbed_not, climbed_on, climbed_all, some_left}
use Rattle.sha_tree.proofs.top_level.Goals as goal

pub levels-init : goal.levels-init
levels-init c = record { low = omega arith; climbed = climbed_not c.args.blocks (omega arith) }

pub levels-preserved : goal.levels-preserved
levels-preserved c =
    let some : 0 < 10 - c.levels.level = some_left _ c.levels.count c.levels-test.true c.levels.invariant.climbed.few in
    let is : 10 - c.levels.level ≡ suc (10 - (c.levels.level + 1)) = omega arith in
    let one : c.div_ceil-count.result ≡ div_up c.levels.count 128 = omega arith in
    record { low = omega arith; climbed = rw one (climbed_on _ _ _ _ _ is c.levels-test.true c.levels.invariant.climbed) }

pub returns-clause-value : goal.returns-clause-value
returns-clause-value c = climbed_all c.levels.level _ c.levels.count c.args.blocks (omega arith) c.levels.invariant.climbed
