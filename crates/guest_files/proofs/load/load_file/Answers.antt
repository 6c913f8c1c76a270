use Rattle.std.proofs.Common.{arith}
use Rattle.guest_files.proofs.Loading.{long_file, past_file, loaded_file}
use Rattle.guest_files.proofs.load.load_file.Goals as goal
use Rattle.guest_files.proofs.load.load_file.Goals.{then-len-gt-FILE_LIMIT-via-then-len-gt-FILE_LIMIT, then-len-gt-FILE_LIMIT-via-else-len-gt-FILE_LIMIT+then-len-loaded}

pub returns-then-len-gt-FILE_LIMIT-clause-err : goal.returns-then-len-gt-FILE_LIMIT-clause-err
returns-then-len-gt-FILE_LIMIT-clause-err g c = elim c.then-len-gt-FILE_LIMIT.branch [
  | then-len-gt-FILE_LIMIT-via-then-len-gt-FILE_LIMIT w ↦ long_file c.args.name.now c.in-Ok.bytes _ c.args.loaded.now c.in-Ok.ensures.loaded (omega (arith, w.if-len-gt-FILE_LIMIT.true))
  | then-len-gt-FILE_LIMIT-via-else-len-gt-FILE_LIMIT+then-len-loaded w ↦ past_file c.args.name.now c.in-Ok.bytes _ c.args.loaded.now c.in-Ok.ensures.loaded (omega (arith, w.if-len-loaded.true, c.requires))
]

pub returns-clause-ok : goal.returns-clause-ok
returns-clause-ok g c = loaded_file c.args.name.now c.in-Ok.bytes _ c.args.loaded.now _ c.in-Ok.ensures.loaded (omega (arith, c.if-len-gt-FILE_LIMIT.false)) (omega arith) (omega (arith, c.if-len-loaded.false, c.requires))
