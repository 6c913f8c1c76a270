use Rattle.real_files.proofs.Writing.{goes_on, stands_still}
use Rattle.real_files.proofs.streams.write_whole.Goals as goal
use Rattle.real_files.proofs.streams.write_whole.Goals.{in-Ok, in-Err}

pub loop-preserved : goal.loop-preserved
loop-preserved g c = elim c.match-write.branch [
  | in-Ok w ↦ goes_on _ _ _ c.args.bytes.now c.loop.done w.in-Ok.count _ w.done-is c.loop.invariant w.in-Ok.ensures.bound w.in-Ok.ensures.bytes
  | in-Err w ↦ stands_still _ _ _ c.args.bytes.now c.loop.done _ w.done-is c.loop.invariant w.in-Err.ensures.bytes
]
