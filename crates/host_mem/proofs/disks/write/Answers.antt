use Rattle.std.proofs.Common.{◌≡◌, ◌∙◌, ◌+◌, ◌*◌, ◌/◌, ◌%◌, ℕ, true, false, length, sym, ap, refl, Some, arith}
use Rattle.std.specs.Prelude.{IsSome}
use Rattle.std.specs.Ordering.{nat_cmp}
use Rattle.std.specs.BTreeMap.{is_at}
use Rattle.std.proofs.lemmas.Map.Steps.{set_value_same}
use Rattle.host_traits.specs.Held.{all_writable}
use Rattle.mem_files.specs.Files.{Entries, Puts, at}
use Rattle.host_mem.specs.Mem.{DiskData, disk_of, held_of}
use Rattle.host_mem.proofs.Changes.{unwritten, covered, writes_disk, shut_disk}
use Rattle.host_mem.proofs.disks.write.Goals as goal

whole_of : (sector len : ℕ) → len % 512 ≡ 0 → 512 * (sector + len / 512) ≡ 512 * sector + len
whole_of sector len e = omega (arith, e)

pub returns-then-not-has : goal.returns-then-not-has
returns-then-not-has c = λ files dirs.
    let whole = whole_of c.args.sector (length c.args.bytes.now) c.requires.whole in
    (unwritten c.args.disks.now.entries files dirs c.args.disk c.args.sector (length c.args.bytes.now / 512) c.args.bytes.now whole (sym c.has.ensures ∙ c.if-not-has.true), refl)

pub returns-then-write : goal.returns-then-write
returns-then-write c = λ files dirs.
    let disks = c.args.disks.now.entries in
    let count = length c.args.bytes.now / 512 in
    let held = c.in-Some.held.now in
    let whole = whole_of c.args.sector (length c.args.bytes.now) c.requires.whole in
    let there : at disks c.args.disk ≡ Some held = sym c.in-Some.ensures.value in
    let inside = covered (at disks c.args.disk) held c.args.sector count there (sym c.has.ensures ∙ c.if-not-has.false) in
    let here : IsSome (at disks c.args.disk) = rw there refl in
    let w = c.get_mut.follows.holds c.write.new.self in
    let new = (c.get_mut.follows.lender c.write.new.self).entries in
    let puts : Puts disks new c.args.disk c.write.new.self = (w.3 here).0 in
    let may : all_writable (disk_of held).writable (512 * c.args.sector) (length c.args.bytes.now) ≡ true = sym c.write.ensures.judged ∙ c.if-write.true in
    writes_disk disks new files dirs c.args.disk c.args.sector count c.args.bytes.now held c.write.new.self whole there inside may c.if-write.ensures.wrote puts

pub returns-else-write : goal.returns-else-write
returns-else-write c = λ files dirs.
    let disks = c.args.disks.now.entries in
    let count = length c.args.bytes.now / 512 in
    let held = c.in-Some.held.now in
    let whole = whole_of c.args.sector (length c.args.bytes.now) c.requires.whole in
    let there : at disks c.args.disk ≡ Some held = sym c.in-Some.ensures.value in
    let inside = covered (at disks c.args.disk) held c.args.sector count there (sym c.has.ensures ∙ c.if-not-has.false) in
    let w = c.get_mut.follows.holds c.write.new.self in
    let shut : all_writable (disk_of held).writable (512 * c.args.sector) (length c.args.bytes.now) ≡ false = sym c.write.ensures.judged ∙ c.if-write.false in
    let same = w.0 ∙ set_value_same (is_at (nat_cmp c.args.disk)) disks c.write.new.self (rw c.if-write.ensures.wrote there) in
    (shut_disk disks files dirs c.args.disk c.args.sector count c.args.bytes.now held whole there inside shut, ap (λ (z : Entries DiskData). held_of z files dirs) same)
