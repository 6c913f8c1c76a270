-- What opening an image comes to, where a host holds it.
use Rattle.std.specs.Prelude.{◌≡◌, ℕ, ◌+◌, ◌*◌, ◌<◌, ◌≤◌, List, All, length, take, drop, Some, Result, Ok, Err}
use Rattle.host_traits.specs.Held.{Held, Disk}
use Rattle.host_traits.specs.Told.{Told, Calm}
use Rattle.instance_image.specs.declared.faults.ImageFault.{ImageFault}
use Rattle.instance_image.specs.declared.faults.ImageFault.TheVariants as faults
use Rattle.instance_image.specs.Records.{Kept}
use Rattle.instance_image.specs.Opening.{Opening}
use Rattle.instance_image.specs.Grammar.{Slot, IsImage, parts_from}

-- a host holds an image of these partitions in its sectors
pub record HoldsImage (h : Held) (o : Opening) (slots : List Slot) : Type 0 where
  pub disk : Disk
  pub is : h.disk o.disk ≡ Some disk
  pub room : 512 * (o.span.first + o.span.sectors) ≤ length disk.bytes
  pub image : IsImage o.span.sectors o.salt slots (take (512 * o.span.sectors) (drop (512 * o.span.first) disk.bytes))

-- the image as it is read: its partitions from sector 1 on
abbrev pub image_of : Opening → List Slot → Kept
image_of o slots = record { disk = o.disk; first = o.span.first; salt = o.salt; parts = parts_from 1 slots }

-- each is a number below 256
abbrev pub AreBytes : List ℕ → Type 0
AreBytes xs = All (λ b. b < 256) xs

-- a host holds these bytes in the image's sectors
pub record HoldsSpan (h : Held) (o : Opening) (bytes : List ℕ) : Type 0 where
  pub disk : Disk
  pub is : h.disk o.disk ≡ Some disk
  pub room : 512 * (o.span.first + o.span.sectors) ≤ length disk.bytes
  pub bytes_is : bytes ≡ take (512 * o.span.sectors) (drop (512 * o.span.first) disk.bytes)

-- they are an image, and these are its partitions
pub record IsRead (o : Opening) (bytes : List ℕ) (k : Kept) : Type 0 where
  pub slots : List Slot
  pub image : IsImage o.span.sectors o.salt slots bytes
  pub is : k ≡ image_of o slots

-- what was opened is such
abbrev pub OnlyRead : Opening → List ℕ → Result Kept ImageFault → Type 0
OnlyRead o bytes (Ok k) = IsRead o bytes k
OnlyRead o bytes (Err why) = Unit {0}

-- it was opened as these partitions, or there was no memory
abbrev pub OpensAs : Kept → Result Kept ImageFault → Type 0
OpensAs k (Ok found) = found ≡ k
OpensAs k (Err why) = why ≡ faults.Memory

-- Where a host held an image, and no call failed or the host is honest, its partitions were read. Whatever it held in the image's
-- sectors, what was opened is an image that stands there. Either way it holds afterwards what it held.
pub record ImageOpens (o : Opening) (old new : Told) (result : Result Kept ImageFault) : Type 0 where
  pub right : (h : Held) (slots : List Slot) → Calm old new → old.held ≡ Some h → HoldsImage h o slots →
      (new.held ≡ Some h) × OpensAs (image_of o slots) result
  pub found : (h : Held) (bytes : List ℕ) → old.held ≡ Some h → HoldsSpan h o bytes → AreBytes bytes →
      (new.held ≡ Some h) × OnlyRead o bytes result
