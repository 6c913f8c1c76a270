use Rattle.host_traits.specs.Did.{Did}
use Rattle.verity_path.specs.Range.{IsForRead, RangeSoFar}
use Rattle.verity_path.proofs.Ranges.{answers_to}
use Rattle.verity_path.proofs.Right.{RightSoFar}
use Rattle.verity_path.proofs.device.read_range.Given as goal

abbrev pub invariant-loop-index : goal.invariant-loop-index
invariant-loop-index g l = record {
  did : Did (IsForRead l.device.layout l.device.measure l.size l.at l.len) (answers_to l.device.measure l.at l.index)
      (g.H.Host.told l.fn.host) (g.H.Host.told l.host) (RangeSoFar l.device.layout l.device.measure l.at l.end l.index l.served);
  held : RightSoFar l.device.layout l.device.measure l.size l.at l.end l.index (g.H.Host.told l.fn.host) (g.H.Host.told l.host) l.served;
}
