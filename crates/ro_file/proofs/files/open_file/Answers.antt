use Rattle.ro_file.proofs.Opens.{answered}
use Rattle.ro_file.proofs.Serving.{failed_right, memory_right, answered_right}
use Rattle.ro_file.proofs.files.open_file.Goals as goal

pub returns-clause-did : goal.returns-clause-did
returns-clause-did g c =
    answered c.args.file c.args.digest.now _ _ c.file_descriptor.new.raw c.in-Ok.ensures.fills c.described.result c.in-Ok.ensures.asked
    (rw c.layout.ensures at c.described.ensures.answer) (rw c.layout.ensures at c.described.ensures.describes)

pub returns-clause-held : goal.returns-clause-held
returns-clause-held g c =
    answered_right c.args.file c.args.digest.now _ _ c.file_descriptor.new.raw c.described.result c.in-Ok.ensures.asked
    (rw c.layout.ensures at c.described.ensures.answer)

pub returns-in-Err-Failed-clause-held : goal.returns-in-Err-Failed-clause-held
returns-in-Err-Failed-clause-held g c =
    failed_right c.args.file c.args.digest.now _ _ c.file_descriptor.new.raw c.in-Err-Failed.field-0 c.in-Err-Failed.field-0-is c.in-Err-Failed.ensures.asked _

pub returns-in-Err-Memory-clause-held : goal.returns-in-Err-Memory-clause-held
returns-in-Err-Memory-clause-held g c =
    memory_right c.args.file c.args.digest.now _ _ c.file_descriptor.new.raw c.in-Err-Memory.field-0 c.in-Err-Memory.field-0-is c.in-Err-Memory.ensures.asked
