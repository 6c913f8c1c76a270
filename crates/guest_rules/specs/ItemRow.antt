-- The rows of a read of a measured item: when each reply comes.
use Rattle.std.specs.Prelude.{◌≡◌, ℕ, ◌<◌, ◌≤◌, List, [], length, slice_get, Option, Some, None}
use Rattle.host_traits.specs.declared.calls.Call.{Call}
use Rattle.host_traits.specs.Did.{Trace, IsScarce}
use Rattle.session_frames.specs.Replies.{Sent, sent_bytes, sent_code}
use Rattle.verity_path.specs.declared.device.Cause.{Cause}
use Rattle.verity_path.specs.declared.device.Device.{Device}
use Rattle.verity_path.specs.Judged.{AreRight, AreRightBefore, judged_by}
use Rattle.verity_path.specs.Order.{IsInOrder, asked_in}
use Rattle.verity_path.specs.Range.{IsForRead, IsSlice, IsReadBlame, read_calls}
use Rattle.guest_rules.specs.Machine.{World, ItemRead, size_of}

-- the calls that a read of an item may make
abbrev pub IsForItem : Device → ItemRead → Call → Type 0
IsForItem it r call = IsForRead it.layout it.measure (size_of it) r.offset r.size call

-- those calls, in their order: of each block that the read touches, from the top page down
abbrev pub item_calls : Device → ItemRead → List Call
item_calls it r = read_calls it.layout it.measure (size_of it) r.offset r.size

-- 2 where there is no such item; else 22 where the size is above 131,072; else the bytes with code 0, or 5 with its cause in
-- the answers to the read's own calls, or 12 for want of memory. A call failed only where the cause is one, and then that one.
-- Where the bytes came each of the read's calls was made, in their order, and each answer is right; else the first of them, in
-- that order, and each answer but the one that is the cause is right.
pub data ItemRow (items : List Device) (world : World) (t : Trace) (r : ItemRead) : Sent → Option Cause → Type 0 where
  no_item : length items ≤ r.item → t.failed ≡ 0 → t.own ≡ [] → ItemRow items world t r (sent_code 1 2) None
  too_large : r.item < length items → 131072 < r.size → t.failed ≡ 0 → t.own ≡ [] → ItemRow items world t r (sent_code 1 22) None
  served : (it : Device) (bytes : List ℕ) → slice_get items r.item ≡ Some it → r.size ≤ 131072 → t.failed ≡ 0 → asked_in t.own ≡ item_calls it r → AreRight it.layout it.measure t.own t.own
      → IsSlice (world.item r.item) t.heard it.measure (size_of it) r.offset r.size bytes → ItemRow items world t r (sent_bytes bytes) None
  blamed : (it : Device) (cause : Cause) → slice_get items r.item ≡ Some it → r.size ≤ 131072 → IsReadBlame it.layout it.measure (IsForItem it r) t cause → IsInOrder (item_calls it r) t
      → AreRightBefore it.layout it.measure t.own (judged_by cause) → ItemRow items world t r (sent_code 1 5) (Some cause)
  no_memory : (it : Device) → slice_get items r.item ≡ Some it → r.size ≤ 131072 → IsScarce t → IsInOrder (item_calls it r) t
      → AreRightBefore it.layout it.measure t.own 0 → ItemRow items world t r (sent_code 1 12) None
