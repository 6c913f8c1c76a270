use Rattle.std.proofs.Common.{◌≡◌, [], length, take, arith, refl, sym, Some, None}
use Rattle.std.proofs.lemmas.List.{take_all}
use Rattle.mem_files.specs.Files.{at, page_in}
use Rattle.host_mem.proofs.Changes.{no_file, reads_tree}
use Rattle.host_mem.proofs.files.read_tree.Goals as goal

pub returns-in-Some-clause-does : goal.returns-in-Some-clause-does
returns-in-Some-clause-does c = λ disks dirs.
    let there : at c.args.files.now.entries c.args.file ≡ Some c.in-Some.held.now = sym c.in-Some.ensures.value in
    let page = page_in c.in-Some.held.now.pages c.args.level c.args.index in
    let len : length page ≡ 4096 = rw c.read_tree.ensures.value at c.read_tree.ensures.len in
    let whole : take 4096 page ≡ page = take_all 4096 page (omega (arith, len)) in
    rw (c.read_tree.ensures.value, ← whole) (reads_tree disks c.args.files.now.entries dirs c.args.file c.args.level c.args.index c.in-Some.held.now there)

pub returns-in-None-clause-does : goal.returns-in-None-clause-does
returns-in-None-clause-does c = λ disks dirs.
    let none : at c.args.files.now.entries c.args.file ≡ None = sym c.in-None.ensures.value in
    ((no_file disks c.args.files.now.entries dirs c.args.file c.args.level c.args.index [] none).1, refl)
