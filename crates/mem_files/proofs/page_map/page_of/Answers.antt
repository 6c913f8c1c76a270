use Rattle.std.proofs.Common.{◌≡◌, ◌∙◌, ℕ, List, Some, None, get_or, ap, sym}
use Rattle.mem_files.specs.Files.{at}
use Rattle.mem_files.proofs.Kept.{zeros_by, there_by}
use Rattle.mem_files.proofs.page_map.page_of.Goals as goal

pub returns-in-Some-clause-bytes : goal.returns-in-Some-clause-bytes
returns-in-Some-clause-bytes c = λ k lt.
    let there : at c.args.pages.now.entries c.args.page ≡ Some c.in-Some.kept.now = sym c.in-Some.ensures.value in
    ap (λ (bytes : List ℕ). get_or bytes k 0) c.bytes.ensures.value ∙ there_by c.args.pages.now.entries c.args.page k c.in-Some.kept.now there lt

pub returns-in-None-clause-bytes : goal.returns-in-None-clause-bytes
returns-in-None-clause-bytes c = λ k lt.
    let none : at c.args.pages.now.entries c.args.page ≡ None = sym c.in-None.ensures.value in
    zeros_by c.args.pages.now.entries c.args.page k none lt
