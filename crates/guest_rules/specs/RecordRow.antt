-- The rows of a get and of a put of a record: when each reply comes, and what a put changes.
use Rattle.std.specs.Prelude.{◌≡◌, ℕ, ◌<◌, ◌≤◌, List, [], ◌∷◌, ◌++◌, length, take, drop, nat_lt, if◌then◌else◌, Option, Some, None, Result, Ok, Err}
use Rattle.host_traits.specs.declared.calls.Call.{Call}
use Rattle.host_traits.specs.Did.{Trace, reads}
use Rattle.session_frames.specs.Replies.{Sent, sent_text, sent_code}
use Rattle.verity_path.specs.declared.device.Cause.{Cause}
use Rattle.verity_path.specs.declared.device.Cause.TheVariants as cause
use Rattle.instance_image.specs.declared.faults.GetFault.{GetFault}
use Rattle.instance_image.specs.declared.faults.GetFault.TheVariants as gets
use Rattle.instance_image.specs.declared.faults.PutFault.{PutFault}
use Rattle.instance_image.specs.declared.faults.PutFault.TheVariants as puts
use Rattle.instance_image.specs.declared.values.Part.{Part}
use Rattle.instance_image.specs.Records.{fits_in}
use Rattle.instance_image.specs.Sealings.{Sealing}
use Rattle.instance_image.specs.Access.{GetOutcome, IsGetCall, PutOutcome, IsPutting, sealing_of}
use Rattle.instance_image.specs.Promised.{WasSealed}
use Rattle.guest_rules.specs.Machine.{Instance, State, World, image_with}

-- no call was made
pub record IsQuiet (t : Trace) : Type 0 where
  pub own : t.own ≡ []
  pub failed : t.failed ≡ 0

-- ---- get

-- the reply to a get that came to this: the text with code 0; 2 where there is no record; 5 where what was heard isn't the record,
-- or wasn't heard; 12 for want of memory
abbrev pub get_sent : Result (List ℕ) GetFault → Sent
get_sent (Ok text) = sent_text text
get_sent (Err gets.NoRecord) = sent_code 2 2
get_sent (Err (gets.Failed faults)) = sent_code 2 5
get_sent (Err (gets.Short asked got)) = sent_code 2 5
get_sent (Err (gets.Changed sector)) = sent_code 2 5
get_sent (Err (gets.Tag tag)) = sent_code 2 5
get_sent (Err gets.Memory) = sent_code 2 12

abbrev pub get_cause : Result (List ℕ) GetFault → Option Cause
get_cause (Ok text) = None
get_cause (Err gets.NoRecord) = None
get_cause (Err (gets.Failed faults)) = Some (cause.Failed faults)
get_cause (Err (gets.Short asked got)) = Some (cause.Short asked got)
get_cause (Err (gets.Changed sector)) = Some (cause.Changed sector)
get_cause (Err (gets.Tag tag)) = Some (cause.Tag tag.found)
get_cause (Err gets.Memory) = None

-- where all that was sealed before the run is known, a text that was got is that of a sealing for the UUID: one of those, or one of
-- this run's
abbrev pub IsKnownText : Option (List Sealing) → List Sealing → Instance → List ℕ → Result (List ℕ) GetFault → Trace → Type 0
IsKnownText None run i uuid result t = Unit {0}
IsKnownText (Some earlier) run i uuid (Ok text) t = WasSealed i.salt i.secret (earlier ++ run) t uuid text
IsKnownText (Some earlier) run i uuid (Err why) t = Unit {0}

-- 2 where there is no instance image; else what the one read of the record came to
pub data GetRow (image : Option Instance) (parts : List Part) (world : World) (run : List Sealing) (t : Trace) (uuid : List ℕ) : Sent → Option Cause → Type 0 where
  no_image : image ≡ None → IsQuiet t → GetRow image parts world run t uuid (sent_code 2 2) None
  got : (i : Instance) (result : Result (List ℕ) GetFault) → image ≡ Some i → GetOutcome (image_with i parts) i.secret uuid result t
      → IsKnownText world.sealed run i uuid result t → GetRow image parts world run t uuid (get_sent result) (get_cause result)

-- the call of a get
abbrev pub IsForGet : Option Instance → List Part → List ℕ → Call → List ℕ → Type 0
IsForGet None parts uuid call given = ⊥
IsForGet (Some i) parts uuid call given = reads (IsGetCall (image_with i parts) uuid) call given

-- ---- put

-- the reply to a put that came to this: 0 once it was written; 2 where there is no partition; 27 where the text doesn't fit; 5 where
-- the write failed; 12 for want of memory
abbrev pub put_code : Result (Unit {0}) PutFault → ℕ
put_code (Ok u) = 0
put_code (Err puts.NoRecord) = 2
put_code (Err (puts.TooLarge text room)) = 27
put_code (Err puts.Memory) = 12
put_code (Err (puts.Failed faults)) = 5

abbrev pub put_cause : Result (Unit {0}) PutFault → Option Cause
put_cause (Ok u) = None
put_cause (Err puts.NoRecord) = None
put_cause (Err (puts.TooLarge text room)) = None
put_cause (Err puts.Memory) = None
put_cause (Err (puts.Failed faults)) = Some (cause.Failed faults)

-- a nonce has 12 bytes: those of the entropy that come next
abbrev pub nonce_of : State → List ℕ
nonce_of s = take 12 s.entropy

-- the state with those gone, and other partitions
abbrev pub with_put : State → List Part → State
with_put s parts = record { fuse = s.fuse; entropy = drop 12 s.entropy; parts = parts }

-- 2 where there is no instance image, or no partition of the UUID; else 27 where the text doesn't fit into it; else 200 where fewer
-- than 12 bytes of entropy are left. With these no call was made, and nothing changes. Else these bytes are gone, whatever the one
-- write came to; and where it was answered, the size of the new record is kept.
pub data PutRow (image : Option Instance) (t : Trace) (uuid text : List ℕ) (old new : State) : Sent → Option Cause → Type 0 where
  no_image : image ≡ None → IsQuiet t → new ≡ old → PutRow image t uuid text old new (sent_code 3 2) None
  refused : (i : Instance) (why : PutFault) → image ≡ Some i → fits_in old.parts uuid (length text) ≡ Err why → IsQuiet t → new ≡ old
      → PutRow image t uuid text old new (sent_code 3 (put_code (Err why))) None
  no_entropy : (i : Instance) (part : Part) → image ≡ Some i → fits_in old.parts uuid (length text) ≡ Ok part → length old.entropy < 12 → IsQuiet t → new ≡ old
      → PutRow image t uuid text old new (sent_code 3 200) None
  put : (i : Instance) (part : Part) (result : Result (Unit {0}) PutFault) → image ≡ Some i → fits_in old.parts uuid (length text) ≡ Ok part → 12 ≤ length old.entropy
      → PutOutcome (image_with i old.parts) uuid text (image_with i new.parts) result t → new ≡ with_put old new.parts
      → PutRow image t uuid text old new (sent_code 3 (put_code result)) (put_cause result)

-- the call of a put, and the bytes that it hands over: the header, the sealed form and zeros
abbrev pub IsForPut : Option Instance → State → List ℕ → List ℕ → Call → List ℕ → Type 0
IsForPut None s uuid text call given = ⊥
IsForPut (Some i) s uuid text call given = IsPutting (image_with i s.parts) i.secret uuid (nonce_of s) text call given

-- ---- what a put seals

-- a text that passes the tests of room and of entropy counts as sealed, whatever its write comes to: the host may hold it
abbrev pub sealing_if : Result Part PutFault → List ℕ → State → List ℕ → List Sealing
sealing_if (Err why) uuid s text = []
sealing_if (Ok part) uuid s text = if nat_lt (length s.entropy) 12 then [] else sealing_of part uuid (nonce_of s) text ∷ []

abbrev pub put_sealings : Option Instance → State → List ℕ → List ℕ → List Sealing
put_sealings None s uuid text = []
put_sealings (Some i) s uuid text = sealing_if (fits_in s.parts uuid (length text)) uuid s text
