-- What a put changes of the kept sizes, and what stays of all records of an image; what a get hears of them.
use Rattle.std.specs.Prelude.{◌≡◌, ◌≢◌, ◌⊎◌, ◌≤◌, ℕ, Bool, List, [], ◌∷◌, ◌++◌, length, Option, Some, None}
use Rattle.host_traits.specs.Held.{Held}
use Rattle.host_traits.specs.Told.{Made, ServesAll, heard_of}
use Rattle.host_traits.specs.Did.{Each, reads}
use Rattle.instance_image.specs.declared.values.Part.{Part}
use Rattle.instance_image.specs.Records.{Kept, find_part, keep_size}
use Rattle.instance_image.specs.Sealings.{Sealing, IsOneOf, OnlySealed}
use Rattle.instance_image.specs.Access.{IsGetCall, IsPutInto, payload_size, sealing_of}
use Rattle.instance_image.specs.Opening.{Opening}
use Rattle.instance_image.specs.Grammar.{Slot}
use Rattle.instance_image.specs.Imaged.{HoldsImage, image_of}
use Rattle.instance_image.specs.Promised.{HoldsRecord, PutStands, MayBeWritten}

-- with another size of the first partition of a UUID, that one has it
abbrev pub resized_part : Option Part → ℕ → Option Part
resized_part None size = None
resized_part (Some p) size = Some (record p { size = size })

abbrev pub SizesAreKept : Type 0
SizesAreKept = (parts : List Part) (uuid : List ℕ) (size : ℕ) → find_part (keep_size parts uuid size) uuid ≡ resized_part (find_part parts uuid) size

-- and the others are as they were
abbrev pub OthersAreKept : Type 0
OthersAreKept = (parts : List Part) (uuid other : List ℕ) (size : ℕ) → other ≢ uuid → find_part (keep_size parts uuid size) other ≡ find_part parts other

-- a host holds the record of a partition, and it is one of these sealings
pub record HoldsOneOf (h : Held) (k : Kept) (secret : List ℕ) (sealings : List Sealing) (uuid : List ℕ) (p : Part) : Type 0 where
  pub sealing : Sealing
  pub was : IsOneOf sealings sealing
  pub uuid_is : sealing.uuid ≡ uuid
  pub holds : HoldsRecord h k secret p sealing

-- it does so of each partition that has a record
abbrev pub HoldsRecords : Held → Kept → List ℕ → List Sealing → Type 0
HoldsRecords h k secret sealings = (uuid : List ℕ) (p : Part) → find_part k.parts uuid ≡ Some p →
    (p.size ≡ 0) ⊎ HoldsOneOf h k secret sealings uuid p

-- the image after an answered put
abbrev pub put_image : Kept → List ℕ → List ℕ → Kept
put_image k uuid text = record k { parts = keep_size k.parts uuid (payload_size text) }

-- A host that holds the records of an image holds them after a put, the new one among them.
pub record HoldsAfter (k : Kept) (secret uuid nonce text : List ℕ) (sealings : List Sealing) (new : Option Held) : Type 0 where
  pub part : Part
  pub fits : IsPutInto k uuid text part
  pub held : Held
  pub held_is : new ≡ Some held
  pub holds : HoldsRecords held (put_image k uuid text) secret (sealings ++ sealing_of part uuid nonce text ∷ [])

abbrev pub PutsKeepRecords : Type 0
PutsKeepRecords = (k : Kept) (secret uuid nonce text : List ℕ) (sealings : List Sealing) (h : Held) (new : Option Held) →
    PutStands k secret uuid nonce text h new → HoldsRecords h k secret sealings →
    HoldsAfter k secret uuid nonce text sealings new

-- A get over a host that holds the records of an image, each of some sealings, hears no sealed form but theirs.
abbrev pub GetsHearSealed : Type 0
GetsHearSealed = (k : Kept) (secret uuid : List ℕ) (sealings : List Sealing) (h after : Held) (honest : Bool) (own : List Made) →
    HoldsRecords h k secret sealings → length own ≤ 1 → Each (reads (IsGetCall k uuid)) own → ServesAll honest h own after →
    OnlySealed k.salt secret sealings (heard_of own)

-- ---- the image

-- a host holds an image of the partitions that a put kept
pub record HoldsImageStill (o : Opening) (slots : List Slot) (uuid text : List ℕ) (new : Option Held) : Type 0 where
  pub held : Held
  pub held_is : new ≡ Some held
  pub after : List Slot
  pub holds : HoldsImage held o after
  pub is : image_of o after ≡ put_image (image_of o slots) uuid text

-- Where an image was held, one is held after an answered put.
abbrev pub PutsKeepImages : Type 0
PutsKeepImages = (o : Opening) (slots : List Slot) (secret uuid nonce text : List ℕ) (h : Held) (new : Option Held) →
    length o.salt ≡ 64 → length nonce ≡ 12 → HoldsImage h o slots →
    PutStands (image_of o slots) secret uuid nonce text h new → HoldsImageStill o slots uuid text new

-- Sectors that may be written may be written after it.
abbrev pub PutsKeepWritable : Type 0
PutsKeepWritable = (k : Kept) (secret uuid nonce text : List ℕ) (h held : Held) (q : Part) →
    PutStands k secret uuid nonce text h (Some held) → MayBeWritten h k q → MayBeWritten held (put_image k uuid text) q
