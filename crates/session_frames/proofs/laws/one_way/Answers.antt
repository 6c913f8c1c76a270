use Rattle.session_frames.proofs.Streams.{one_way}
use Rattle.session_frames.proofs.laws.one_way.Goals as goal

pub returns : goal.returns
returns c = one_way
