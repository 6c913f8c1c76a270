use Rattle.frame_text.proofs.Streams.{only_stream}
use Rattle.frame_text.proofs.dumping.text_of_frames.Goals as goal

pub returns-clause-only : goal.returns-clause-only
returns-clause-only c = only_stream (λ text. text.items) c.args.bytes.now c.dump.result c.dump.ensures.made c.dump.ensures.fault
