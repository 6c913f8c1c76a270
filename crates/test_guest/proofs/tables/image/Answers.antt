use Rattle.std.proofs.Common.{◌∷◌, [], arith}
use Rattle.std.proofs.lemmas.List.Elements.{All-from_recursion}
use Rattle.gpt.specs.Image.{taken, HasSectors}
use Rattle.test_guest.proofs.tables.image.Goals as goal

pub write_gpt-requires-clause-each : goal.write_gpt-requires-clause-each
write_gpt-requires-clause-each c =
    let first : HasSectors c.part.result = omega (arith, c.part.ensures) in
    let second : HasSectors c.part-2.result = omega (arith, c.part-2.ensures) in
    All-from_recursion HasSectors (c.part.result ∷ c.part-2.result ∷ []) (first, (second, tt))

pub write_gpt-requires-clause-few : goal.write_gpt-requires-clause-few
unfolding taken
write_gpt-requires-clause-few c = omega (arith, c.part.ensures, c.part-2.ensures)
