use Rattle.std.proofs.Common.{arith}
use Rattle.gpt.specs.Image.{taken}
use Rattle.test_formats.proofs.disks.image.Goals as goal

pub write_gpt-requires-clause-few : goal.write_gpt-requires-clause-few
unfolding taken
write_gpt-requires-clause-few c = omega (arith, c.in_ok-part_of.ensures.few, c.in_ok-part_of-2.ensures.few, c.in_ok-part_of-3.ensures.few)
