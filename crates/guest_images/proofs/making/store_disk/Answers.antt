use Rattle.std.proofs.Common.{◌∷◌, [], refl, Option, string_bytes}
use Rattle.host_traits.specs.Folders.{Files}
use Rattle.guest_files.specs.Files.{Names}
use Rattle.guest_files.specs.Keeping.{Parcel, IsStored, MayBeStored}
use Rattle.guest_images.proofs.Storing.{stops}
use Rattle.guest_images.proofs.making.store_disk.Goals as goal

pub returns-in-Err-store_file-clause-stored : goal.returns-in-Err-store_file-clause-stored
returns-in-Err-store_file-clause-stored g c =
    let disk = c.args.disk.now in
    let old : Option Files = g.F.Folder.files c.args.folder.now in
    let mid : Option Files = g.F.Folder.files c.store_file.new.folder in
    let new : Option Files = g.F.Folder.files c.store_file-2.new.folder in
    let text : Parcel = (c.args.out.now, disk.text.items) in
    let head : Parcel = (string_bytes disk.head_name, disk.head.items) in
    let tail : Parcel = (string_bytes disk.tail_name, disk.tail.items) in
    let first : IsStored old mid text = rw c.deref.ensures.value at c.in-Ok.ensures.ok in
    let may : MayBeStored mid new head = rw (c.as_str.ensures.value, c.deref-2.ensures.value) at c.in-Err-store_file.ensures.err.0 in
    let named : Names head.0 c.in-Err-store_file.refusal = rw c.as_str.ensures.value at c.in-Err-store_file.ensures.err.1 in
    rw c.refused-in-Err-store_file.ensures (stops old mid new (text ∷ []) head (tail ∷ []) c.in-Err-store_file.refusal (mid, first, refl) may named)

pub returns-in-Err-store_file-2-clause-stored : goal.returns-in-Err-store_file-2-clause-stored
returns-in-Err-store_file-2-clause-stored g c =
    let disk = c.args.disk.now in
    let old : Option Files = g.F.Folder.files c.args.folder.now in
    let one : Option Files = g.F.Folder.files c.store_file.new.folder in
    let two : Option Files = g.F.Folder.files c.store_file-2.new.folder in
    let new : Option Files = g.F.Folder.files c.store_file-3.new.folder in
    let text : Parcel = (c.args.out.now, disk.text.items) in
    let head : Parcel = (string_bytes disk.head_name, disk.head.items) in
    let tail : Parcel = (string_bytes disk.tail_name, disk.tail.items) in
    let first : IsStored old one text = rw c.deref.ensures.value at c.in-Ok.ensures.ok in
    let second : IsStored one two head = rw (c.as_str.ensures.value, c.deref-2.ensures.value) at c.in-Ok-store_file.ensures.ok in
    let may : MayBeStored two new tail = rw (c.as_str-2.ensures.value, c.deref-3.ensures.value) at c.in-Err-store_file-2.ensures.err.0 in
    let named : Names tail.0 c.in-Err-store_file-2.refusal = rw c.as_str-2.ensures.value at c.in-Err-store_file-2.ensures.err.1 in
    rw c.refused-in-Err-store_file-2.ensures (stops old two new (text ∷ head ∷ []) tail [] c.in-Err-store_file-2.refusal (one, first, (two, second, refl)) may named)
