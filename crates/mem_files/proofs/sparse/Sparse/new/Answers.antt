use Rattle.std.proofs.Common.{◌∙◌, refl}
use Rattle.mem_files.proofs.Kept.{byte_of, no_bytes}
use Rattle.mem_files.proofs.sparse.Sparse.new.Goals as goal

pub invariant_of-result : goal.invariant_of-result
invariant_of-result c = λ place le. byte_of c.new.result.entries place ∙ rw c.new.ensures.empty refl

pub returns : goal.returns
returns c = no_bytes c.new.result.entries
