-- What reads and writes of records come to, by what was sealed and by what a host holds.
use Rattle.std.specs.Prelude.{true, ◌≡◌, ◌≢◌, ℕ, ◌+◌, ◌*◌, ◌<◌, ◌≤◌, List, length, take, drop, Option, Some, Result, Ok, Err}
use Rattle.std.specs.Map.{update}
use Rattle.std.specs.Prelude.{nat_eq}
use Rattle.host_traits.specs.Held.{Held, Disk, over}
use Rattle.host_traits.specs.Told.{Told, Calm}
use Rattle.host_traits.specs.Did.{Trace}
use Rattle.instance_image.specs.declared.faults.GetFault.{GetFault}
use Rattle.instance_image.specs.declared.faults.GetFault.TheVariants as gets
use Rattle.instance_image.specs.declared.faults.PutFault.{PutFault}
use Rattle.instance_image.specs.declared.faults.PutFault.TheVariants as puts
use Rattle.instance_image.specs.declared.values.Part.{Part}
use Rattle.instance_image.specs.Records.{Kept, size_in, sectors_of, find_part}
use Rattle.instance_image.specs.Sealings.{Sealing, BeginsWith, HeardSealing, IsOneOf, OnlySealed}
use Rattle.instance_image.specs.Access.{GetOutcome, IsPutInto, payload_size, sealing_of, record_bytes}

-- a text of a UUID that was sealed, and whose header and sealed form were heard
pub record WasSealed (salt secret : List ℕ) (sealings : List Sealing) (t : Trace) (uuid text : List ℕ) : Type 0 where
  pub sealing : Sealing
  pub was : IsOneOf sealings sealing
  pub heard : HeardSealing salt secret t.own sealing
  pub uuid_is : sealing.uuid ≡ uuid
  pub text_is : sealing.text ≡ text

-- Where no sealed form was heard but those of these sealings, a text that was got is one of them, of that UUID.
abbrev pub TextsWereSealed : Type 0
TextsWereSealed = (k : Kept) (secret uuid text : List ℕ) (t : Trace) (sealings : List Sealing) → GetOutcome k secret uuid (Ok text) t →
    OnlySealed k.salt secret sealings t.own → WasSealed k.salt secret sealings t uuid text

-- a host holds a partition's record: its header, with the kept size, and the sealed form of a text
pub record HoldsRecord (h : Held) (k : Kept) (secret : List ℕ) (p : Part) (z : Sealing) : Type 0 where
  pub disk : Disk
  pub is : h.disk k.disk ≡ Some disk
  pub room : 512 * ((k.first + p.sector) + (1 + sectors_of p.size)) ≤ length disk.bytes
  pub begins : BeginsWith k.salt secret (take (512 * (1 + sectors_of p.size)) (drop (512 * (k.first + p.sector)) disk.bytes)) z
  pub size_is : size_in z.header ≡ p.size

-- its text was got, or there was no memory
abbrev pub IsTextOf : Sealing → Result (List ℕ) GetFault → Type 0
IsTextOf z (Ok text) = text ≡ z.text
IsTextOf z (Err why) = why ≡ gets.Memory

-- Where a host held the record of a partition, and no call failed or the host is honest, a get gives its text, and the host holds
-- afterwards what it held.
pub record RecordIsGot (k : Kept) (secret uuid : List ℕ) (old new : Told) (result : Result (List ℕ) GetFault) : Type 0 where
  pub right : (h : Held) (p : Part) (z : Sealing) → Calm old new → old.held ≡ Some h →
      find_part k.parts uuid ≡ Some p → z.uuid ≡ uuid → HoldsRecord h k secret p z →
      (new.held ≡ Some h) × IsTextOf z result

-- ---- what a put leaves at a host

-- the bytes of a disk at the record's place are others, and nothing else is
pub record HasPut (k : Kept) (secret uuid nonce text : List ℕ) (h : Held) (new : Option Held) : Type 0 where
  pub part : Part
  pub fits : IsPutInto k uuid text part
  pub disk : Disk
  pub is : h.disk k.disk ≡ Some disk
  pub room : 512 * ((k.first + part.sector) + (1 + sectors_of (payload_size text))) ≤ length disk.bytes
  pub new_is : new ≡ Some (record h {
    disk = update nat_eq h.disk k.disk (Some (record disk {
      bytes = over disk.bytes (512 * (k.first + part.sector)) (record_bytes k.salt secret (sealing_of part uuid nonce text));
    }));
  })

-- the record of the new text is held
pub record HoldsPut (k : Kept) (secret uuid nonce text : List ℕ) (new : Option Held) : Type 0 where
  pub part : Part
  pub fits : IsPutInto k uuid text part
  pub held : Held
  pub held_is : new ≡ Some held
  pub holds : HoldsRecord held k secret (record part { size = payload_size text }) (sealing_of part uuid nonce text)

-- another partition's record is held
pub record HoldsStill (k : Kept) (secret : List ℕ) (q : Part) (z : Sealing) (new : Option Held) : Type 0 where
  pub held : Held
  pub held_is : new ≡ Some held
  pub holds : HoldsRecord held k secret q z

-- An answered put has changed these bytes alone. What is held there is the record of the new text, and the records of other
-- partitions are held as before.
pub record PutStands (k : Kept) (secret uuid nonce text : List ℕ) (h : Held) (new : Option Held) : Type 0 where
  pub changed : HasPut k secret uuid nonce text h new
  pub mine : HoldsPut k secret uuid nonce text new
  pub others : (other : List ℕ) (q : Part) (z : Sealing) → other ≢ uuid → find_part k.parts other ≡ Some q →
      HoldsRecord h k secret q z → HoldsStill k secret q z new

-- any other put has changed nothing
abbrev pub PutLeaves : Kept → List ℕ → List ℕ → List ℕ → List ℕ → Held → Option Held → Result (Unit {0}) PutFault → Type 0
PutLeaves k secret uuid nonce text h new (Ok _) = PutStands k secret uuid nonce text h new
PutLeaves k secret uuid nonce text h new (Err why) = new ≡ Some h

-- a host holds a disk that has the partition's sectors, and they may be written
pub record MayBeWritten (h : Held) (k : Kept) (p : Part) : Type 0 where
  pub disk : Disk
  pub is : h.disk k.disk ≡ Some disk
  pub room : 512 * ((k.first + p.sector) + (1 + p.reserved)) ≤ length disk.bytes
  pub writable : (at : ℕ) → 512 * (k.first + p.sector) ≤ at →
      at < 512 * ((k.first + p.sector) + (1 + p.reserved)) → disk.writable at ≡ true

-- it was put, or memory was wanting
abbrev pub PutOrMemory : Result (Unit {0}) PutFault → Type 0
PutOrMemory (Ok _) = Unit {0}
PutOrMemory (Err why) = why ≡ puts.Memory

-- What a host holds after a put; and where it held sectors of the partition that may be written, the text fits, and no call
-- failed or the host is honest, it was put.
pub record PutIsKept (k : Kept) (secret uuid nonce text : List ℕ) (old new : Told) (result : Result (Unit {0}) PutFault) : Type 0 where
  pub leaves : (h : Held) → old.held ≡ Some h → PutLeaves k secret uuid nonce text h new.held result
  pub right : (h : Held) (p : Part) → Calm old new → old.held ≡ Some h → IsPutInto k uuid text p →
      MayBeWritten h k p → PutOrMemory result
