use Rattle.std.proofs.Common.{◌≡◌, ◌∙◌, ◌+◌, ◌++◌, ℕ, Bool, List, true, false, length, take, drop, refl, sym, ap, subst, arith}
use Rattle.std.specs.Global.{Vec}
use Rattle.host_traits.specs.Held.{Disk, over, all_writable}
use Rattle.block_map.specs.Disk.{contents, disk_bytes, AreWritten}
use Rattle.host_mem.specs.Made.{composite_disk}
use Rattle.host_mem.specs.Mem.{DiskData, plain_of, composite_of, disk_of, IsDisk, IsMapped}
use Rattle.host_mem.specs.Stores.{disk_data}
use Rattle.host_mem.proofs.Composites.{is_ok, judged, composite_length, composite_written, all_true, all_new}
use Rattle.host_mem.proofs.mem_disk.write.Goals as goal

-- what the disk is, where it is known what it is made of
writable_at : (d e : DiskData) (at n : ℕ) (b : Bool) → d ≡ e → b ≡ all_writable (disk_of e).writable at n → b ≡ all_writable (disk_of d).writable at n
writable_at d e at n b same is = is ∙ ap (λ z. all_writable (disk_of z).writable at n) (sym same)

pub returns-in-Plain-clause-judged : goal.returns-in-Plain-clause-judged
returns-in-Plain-clause-judged c =
    let is : disk_data c.args.store.now ≡ plain_of c.in-Plain.all.items = ap disk_data c.in-Plain.is in
    writable_at (disk_data c.args.store.now) (plain_of c.in-Plain.all.items) c.args.at (length c.args.bytes.now) true is (sym (all_true (λ place. true) c.args.at (length c.args.bytes.now) (λ x low high. refl)))

pub returns-in-Ok-clause-judged : goal.returns-in-Ok-clause-judged
returns-in-Ok-clause-judged c =
    let s = c.in-Composite.map in
    let files = contents c.in-Composite.files.items in
    let is : disk_data c.args.store.now ≡ composite_of s files = ap disk_data c.in-Composite.is in
    let mapped : IsMapped s files = subst IsDisk is c.requires.is in
    let size : length (disk_of (disk_data c.args.store.now)).bytes ≡ s.length = ap (λ d. length (disk_of d).bytes) is ∙ composite_length s files in
    let same : contents c.as_mut_slice.result.now ≡ files = ap (λ (z : List (Vec ℕ)). contents z) c.as_mut_slice.ensures.value in
    writable_at (disk_data c.args.store.now) (composite_of s files) c.args.at (length c.args.bytes.now) true is
    (sym (ap is_ok c.in-Ok.is) ∙ judged s files c.args.at (length c.args.bytes.now) c.write.result mapped.is (omega (arith, c.requires.inside, size)) (rw (← same) c.write.ensures.judged))

pub returns-in-Ok-clause-wrote : goal.returns-in-Ok-clause-wrote
returns-in-Ok-clause-wrote c =
    let s = c.in-Composite.map in
    let files = contents c.in-Composite.files.items in
    let is : disk_data c.args.store.now ≡ composite_of s files = ap disk_data c.in-Composite.is in
    let size : length (disk_of (disk_data c.args.store.now)).bytes ≡ s.length = ap (λ d. length (disk_of d).bytes) is ∙ composite_length s files in
    let same : contents c.as_mut_slice.result.now ≡ files = ap (λ (z : List (Vec ℕ)). contents z) c.as_mut_slice.ensures.value in
    let long : c.in-Composite.files.len ≡ length c.in-Composite.files.items = omega (arith, c.as_mut_slice.ensures.len, ap length c.as_mut_slice.ensures.value) in
    let count : length c.write.new.files ≡ c.in-Composite.files.len = omega (arith, c.as_mut_slice.ensures.len, c.write.auto.files) in
    let kept : take c.in-Composite.files.len (c.write.new.files ++ drop (length c.write.new.files) c.in-Composite.files.items) ≡ c.write.new.files = all_new c.in-Composite.files.len c.write.new.files c.in-Composite.files.items count long in
    let written : AreWritten s c.args.at c.args.bytes.now files (contents c.write.new.files) = rw (← same) c.in-Ok.ensures.wrote in
    let disk : disk_bytes s (contents c.write.new.files) ≡ take c.args.at (disk_bytes s files) ++ c.args.bytes.now ++ drop (c.args.at + length c.args.bytes.now) (disk_bytes s files) = rw (← same) c.in-Ok.ensures.disk in
    ap (λ (z : List (Vec ℕ)). composite_disk s (contents z)) kept ∙ composite_written s files (contents c.write.new.files) c.args.at c.args.bytes.now (omega (arith, c.requires.inside, size)) written disk
    ∙ sym (ap (λ d. let r : Disk = record (disk_of d) { bytes = over (disk_of d).bytes c.args.at c.args.bytes.now } in r) is)

pub returns-in-Err-clause-judged : goal.returns-in-Err-clause-judged
returns-in-Err-clause-judged c =
    let s = c.in-Composite.map in
    let files = contents c.in-Composite.files.items in
    let is : disk_data c.args.store.now ≡ composite_of s files = ap disk_data c.in-Composite.is in
    let mapped : IsMapped s files = subst IsDisk is c.requires.is in
    let size : length (disk_of (disk_data c.args.store.now)).bytes ≡ s.length = ap (λ d. length (disk_of d).bytes) is ∙ composite_length s files in
    let same : contents c.as_mut_slice.result.now ≡ files = ap (λ (z : List (Vec ℕ)). contents z) c.as_mut_slice.ensures.value in
    writable_at (disk_data c.args.store.now) (composite_of s files) c.args.at (length c.args.bytes.now) false is
    (sym (ap is_ok c.in-Err.is) ∙ judged s files c.args.at (length c.args.bytes.now) c.write.result mapped.is (omega (arith, c.requires.inside, size)) (rw (← same) c.write.ensures.judged))
