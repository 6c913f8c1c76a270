use Rattle.std.proofs.Common.{rules}
use Rattle.composite_spec.specs.Said.{composite}
use Rattle.composite_spec.proofs.Judged.{reads_description}
use Rattle.composite_spec.proofs.Files.{are_bytes, answer_found, answer_only}
use Rattle.composite_spec.proofs.reading.read_spec.Goals as goal

pub returns-clause-found : goal.returns-clause-found
returns-clause-found c = answer_found c.args.bytes.now c.decoded.result (are_bytes c.args.bytes.now (λ i. search rules)) c.decoded.ensures

pub returns-clause-only : goal.returns-clause-only
returns-clause-only c = λ s is. answer_only c.args.bytes.now s c.decoded.result c.decoded.ensures is

pub returns-clause-describes : goal.returns-clause-describes
returns-clause-describes c = reads_description composite c.args.bytes.now c.decoded.result c.decoded.ensures
