use Rattle.verity_path.proofs.Asking.{in_file, parts_placed}
use Rattle.verity_path.proofs.ask.piece_of.Goals as goal

pub file_want-want-requires : goal.file_want-want-requires
file_want-want-requires c = record { within = in_file _ _ _ _ (rw c.in-File.is at c.requires.suits) c.requires.within }

pub returns-in-Parts : goal.returns-in-Parts
returns-in-Parts c = rw c.in-Parts.is (parts_placed c.in-Parts.disk c.in-Parts.first c.in-Parts.tree c.args.geometry.now c.args.level c.args.index _ _ c.page_offset-from.ensures.value c.sectors_len.ensures)
