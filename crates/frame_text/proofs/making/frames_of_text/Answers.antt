use Rattle.frame_text.proofs.Texts.{only_text}
use Rattle.frame_text.proofs.making.frames_of_text.Goals as goal

pub returns-clause-only : goal.returns-clause-only
returns-clause-only c = only_text (λ out. out.items) c.args.text.now c.make.result c.make.ensures.made c.make.ensures.fault
