use Rattle.composite_spec.specs.Said.{composite}
use Rattle.composite_spec.proofs.Written.{file_written, read_again}
use Rattle.composite_spec.proofs.writing.write_spec.Goals as goal

pub returns-in-Ok-clause-spelled : goal.returns-in-Ok-clause-spelled
returns-in-Ok-clause-spelled c = file_written (composite c.args.spec.now) c.requires

pub returns-in-Ok-clause-again : goal.returns-in-Ok-clause-again
returns-in-Ok-clause-again c = read_again (composite c.args.spec.now) c.requires

pub returns-in-Err-clause-spelled : goal.returns-in-Err-clause-spelled
returns-in-Err-clause-spelled c = file_written (composite c.args.spec.now) c.requires

pub returns-in-Err-clause-again : goal.returns-in-Err-clause-again
returns-in-Err-clause-again c = read_again (composite c.args.spec.now) c.requires
