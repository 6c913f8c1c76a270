use Rattle.std.proofs.Common.{◌≡◌, ◌+◌, drop}
use Rattle.gpt.specs.Image.{taken}
use Rattle.gpt.proofs.writing.taken.Given as goal

abbrev pub invariant-loop-part : goal.invariant-loop-part
invariant-loop-part l = l.sum + taken (drop l.part-index l.parts) ≡ taken l.parts
