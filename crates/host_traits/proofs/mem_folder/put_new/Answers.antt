use Rattle.std.proofs.Common.{◌≡◌, ◌++◌, ◌∷◌, []}
use Rattle.std.specs.Prelude.{string_bytes}
use Rattle.host_traits.proofs.Places.{found_push}
use Rattle.host_traits.specs.Mem.{Named}
use Rattle.host_traits.proofs.mem_folder.put_new.Goals as goal

pub returns-clause-added : goal.returns-clause-added
returns-clause-added c =
    let f : Named = record { name = string_bytes c.in_ok-name.name; bytes = c.args.bytes.items } in
    let name_is : string_bytes c.in_ok-name.name ≡ c.args.name.now = c.in_ok-name.ensures.ok in
    let items : c.push.new.self.items ≡ c.args.files.now.items ++ f ∷ [] = c.in-Ok.ensures.items in
    rw (items, ← name_is) (found_push c.args.files.now.items f (rw name_is c.requires))
