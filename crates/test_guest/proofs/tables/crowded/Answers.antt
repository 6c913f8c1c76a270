use Rattle.std.proofs.Common.{arith}
use Rattle.std.proofs.lemmas.List.Elements.{All-replicate}
use Rattle.gpt.specs.Image.{HasSectors}
use Rattle.gpt.proofs.ImageLaws.{taken-replicate}
use Rattle.test_guest.proofs.tables.crowded.Goals as goal

pub write_gpt-requires-clause-each : goal.write_gpt-requires-clause-each
write_gpt-requires-clause-each c =
    let some : HasSectors c.part-one.result = omega (arith, c.part-one.ensures) in
    All-replicate HasSectors 129 c.part-one.result some

pub write_gpt-requires-clause-few : goal.write_gpt-requires-clause-few
write_gpt-requires-clause-few c = omega (arith, c.part-one.ensures, taken-replicate 129 c.part-one.result)
