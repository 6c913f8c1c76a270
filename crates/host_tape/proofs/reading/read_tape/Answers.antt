use Rattle.host_tape.proofs.Grammar.{all_bytes, reading_is, read_again, refused_again}
use Rattle.host_tape.proofs.reading.read_tape.Goals as goal

pub returns-clause-read : goal.returns-clause-read
returns-clause-read c = reading_is c.args.bytes.items c.read.result (all_bytes c.args.bytes.items c.items_fit) c.read.ensures

pub returns-clause-only : goal.returns-clause-only
returns-clause-only c = λ items is. read_again c.args.bytes.items items c.read.result c.read.ensures is

pub returns-clause-refused : goal.returns-clause-refused
returns-clause-refused c = λ at b. refused_again c.args.bytes.items at c.read.result (all_bytes c.args.bytes.items c.items_fit) c.read.ensures b
