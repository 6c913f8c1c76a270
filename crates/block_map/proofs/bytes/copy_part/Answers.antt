use Rattle.std.proofs.Common.{◌∙◌, arith, length-take, length-drop, ℕ}
use Rattle.block_map.proofs.Patches.{spliced_before, spliced_in}
use Rattle.block_map.proofs.bytes.copy_part.Goals as goal

pub returns-clause-before : goal.returns-clause-before
returns-clause-before c = λ k lt. spliced_before c.args.done c.args.out.now _ k (omega arith) lt

pub returns-clause-part : goal.returns-clause-part
returns-clause-part c = λ k lt. spliced_in c.args.done c.args.out.now c.copy_from.new.out _ k (omega arith) (omega (arith, length-take {A = ℕ}, length-drop {A = ℕ})) ∙ c.copy_from.ensures k (omega (arith, length-take {A = ℕ}, length-drop {A = ℕ}))
