-- What is opened where a host holds the idsig in its part, and no call failed or the host is honest: its device, or nothing for
-- want of memory.
use Rattle.std.specs.Prelude.{◌≡◌, ℕ, ◌+◌, ◌*◌, List, length, take, drop, Some, Result, Ok, Err}
use Rattle.host_traits.specs.Held.{Held, Disk}
use Rattle.host_traits.specs.Told.{Told, Calm}
use Rattle.sha_tree.specs.declared.measure.Measure.{Measure}
use Rattle.sha_tree.specs.Tree.{tree_pages}
use Rattle.verity_path.specs.declared.device.Device.{Device}
use Rattle.verity_path.specs.declared.walk.Layout.TheVariants.{Parts}
use Rattle.idsig_v4.specs.declared.head.Head.{Head}
use Rattle.idsig_v4.specs.Grammar.{IsIdsig}
use Rattle.apk_verity.specs.declared.ApkFault.{ApkFault}
use Rattle.apk_verity.specs.declared.ApkFault.TheVariants as fault
use Rattle.apk_verity.specs.Opening.{Opening, measure_of}

-- The part of a disk that is held, all its sectors, begins with an idsig, whose measure is the one that has to be met, where
-- there is one, and which has the tree over the measure's blocks.
pub record HoldsIdsig (h : Held) (o : Opening) (head : Head) (m : Measure) : Type 0 where
  pub disk : Disk
  pub there : h.disk o.disk ≡ Some disk
  pub part : List ℕ
  pub bytes : take (512 * o.idsig.sectors) (drop (512 * o.idsig.first) disk.bytes) ≡ part
  pub whole : length part ≡ 512 * o.idsig.sectors
  pub idsig : IsIdsig part head
  pub measure : measure_of o.apk o.measure head ≡ Ok m
  pub tree : head.tree_len ≡ 4096 * tree_pages m.blocks

-- it was opened as the device of a measure, or the host had no memory
abbrev pub OpensAs : Device → Result Device ApkFault → Type 0
OpensAs device (Ok d) = d ≡ device
OpensAs device (Err why) = why ≡ fault.Memory

-- Where a host held such a part, and no call failed or the host is honest, its device was opened, and the host holds afterwards
-- what it held.
pub record DeviceOpens (o : Opening) (old new : Told) (result : Result Device ApkFault) : Type 0 where
  pub right : (h : Held) (head : Head) (m : Measure) → Calm old new → old.held ≡ Some h → HoldsIdsig h o head m
      → (new.held ≡ Some h)
      × OpensAs (record { measure = m; layout = Parts o.disk o.apk.first (512 * o.idsig.first + head.tree_at) }) result
