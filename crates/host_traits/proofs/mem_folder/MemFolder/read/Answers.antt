use Rattle.std.proofs.Common.{◌≡◌, ◌<◌, ◌∙◌, ap, subst, get_or, List}
use Rattle.host_traits.specs.Mem.{Named, FolderData}
use Rattle.host_traits.proofs.Places.{found_there}
use Rattle.host_traits.proofs.mem_folder.MemFolder.read.Goals.{in-Ok-part, in-Err}
use Rattle.host_traits.proofs.mem_folder.MemFolder.read.Goals as goal

pub returns-clause-loaded : goal.returns-clause-loaded
returns-clause-loaded c =
    let files : c.self.inside.files.items ≡ c.args.self.now.files = ap (λ (f : FolderData). f.files) (c.self.view_is ∙ c.in-Ok.ensures.counted.1) in
    let there = subst (λ (fs : List Named). c.index.result.now ≡ get_or fs c.in-Ok.place c.index.result.now) files c.index.ensures in
    let found = found_there c.args.self.now.files c.args.name.now c.in-Ok.place c.index.result.now c.in-Ok.ensures.place.0 c.in-Ok.ensures.place.1 there in
    elim c.match-part.branch [
      | in-Ok-part w ↦ rw w.result-is (c.index.result.now.bytes, found, w.in-Ok-part.ensures)
      | in-Err w ↦ rw w.result-is tt
    ]
