use Rattle.std.proofs.Common.{◌≡◌, ap}
use Rattle.host_traits.specs.Mem.{Named}
use Rattle.host_traits.proofs.Places.{found_set}
use Rattle.host_traits.proofs.mem_folder.put_at.Goals as goal

pub returns : goal.returns
returns c =
    let name_is : c.put.new.self.name ≡ c.index_mut.result.now.name = ap (λ (f : Named). f.name) c.put.ensures in
    let bytes_is : c.put.new.self.bytes ≡ c.args.bytes.items = ap (λ (f : Named). f.bytes) c.put.ensures in
    let there = c.index_mut.ensures.value in
    rw (← bytes_is) (found_set c.args.files.now.items c.args.name.now c.args.at c.index_mut.result.now c.put.new.self c.requires.place c.requires.there there name_is)
