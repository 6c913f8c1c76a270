use Rattle.verity_path.proofs.Asking.{in_file, in_parts}
use Rattle.verity_path.proofs.ask.ask.Goals as goal

pub ask_file-requires : goal.ask_file-requires
ask_file-requires g c = record { within = in_file _ _ _ _ (rw c.in-File.is at c.requires.suits) c.requires.within }

pub ask_parts-requires-clause-blocks : goal.ask_parts-requires-clause-blocks
ask_parts-requires-clause-blocks g c = in_parts c.in-Parts.first _ _ _ ((rw c.in-Parts.is at c.requires.suits).0) c.requires.within
