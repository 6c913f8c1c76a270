use Rattle.std.proofs.Common.{◌≡◌, ◌∙◌, ℕ, min, take, length, ap, arith}
use Rattle.std.proofs.lemmas.List.{take_min}
use Rattle.mem_files.proofs.mem_file.MemFile.read_descriptor.Goals as goal

pub returns : goal.returns
returns c =
    let bytes = c.self.inside.descriptor.items in
    let to : c.min-to.result ≡ min 256 (length bytes) = omega arith in
    c.put.ensures ∙ ap (take c.min-to.result) c.deref.ensures.value ∙ ap (λ (n : ℕ). take n bytes) to ∙ take_min 256 bytes ∙ ap (λ f. take 256 f.descriptor) c.self.view_is
