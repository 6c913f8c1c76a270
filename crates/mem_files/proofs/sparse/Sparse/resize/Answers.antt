use Rattle.std.proofs.Common.{◌≡◌, ◌∙◌, ◌<◌, ℕ, ap, refl}
use Rattle.std.proofs.lemmas.Bool.{lt-ltb}
use Rattle.mem_files.specs.Files.{byte_in}
use Rattle.mem_files.proofs.Kept.{sparse_resized}
use Rattle.mem_files.proofs.sparse.Sparse.resize.Goals as goal
use Rattle.mem_files.proofs.sparse.Sparse.resize.Goals.{then-size-self, else-size-self}

pub returns : goal.returns
returns c =
    let old = c.self.inside.pages.entries in
    let size = c.args.size in
    let same : (i : ℕ) → i < size → byte_in c.if-size-self.self-inside.pages.entries i ≡ byte_in old i = λ i lt. elim c.if-size-self.branch [
      | then-size-self w ↦ ap (λ s. byte_in s.pages.entries i) w.self-inside-is ∙ w.cut.ensures i ∙ rw (lt-ltb i size lt) refl
      | else-size-self w ↦ ap (λ s. byte_in s.pages.entries i) w.self-inside-is
    ] in
    rw (← c.self.view_is) (sparse_resized c.self.inside.size size old c.if-size-self.self-inside.pages.entries c.self.invariant same)
