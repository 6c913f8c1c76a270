-- Varints and fields (Protocol Buffers, "Encoding": "Base 128 Varints", "Message Structure"), read from the
-- front of a message that ends at the place `end` of the file.
use Rattle.std.specs.Prelude.{◌≡◌, ℕ, ◌+◌, ◌-◌, ◌*◌, ◌/◌, ◌%◌, ◌^◌, Bool, false, ◌||◌, List, [], ◌∷◌, length, take, drop, Result, Ok, Err, ◌==◌, nat_lt, if◌then◌else◌}
use Rattle.composite_spec.specs.declared.kinds.SpecFault.{SpecFault}
use Rattle.composite_spec.specs.declared.kinds.SpecFault.TheVariants as faults
use Rattle.composite_spec.specs.declared.wire.Message.{Message}
use Rattle.composite_spec.specs.declared.wire.Message.TheVariants as messages
use Rattle.composite_spec.specs.declared.wire.Value.{Value}
use Rattle.composite_spec.specs.declared.wire.Value.TheVariants as values

infixl 10 ◌>>=◌
abbrev pub ◌>>=◌ : {A B : Type 0} → Result A SpecFault → (A → Result B SpecFault) → Result B SpecFault
(Ok x) >>= f = f x
(Err e) >>= f = Err e

abbrev pub check : {A : Type 0} → Bool → SpecFault → A → Result A SpecFault
check holds fault x = if holds then Ok x else Err fault

-- what a function returned, seen by view, is what reading gives
abbrev pub Tells : {X Y : Type 0} → (X → Y) → Result X SpecFault → Result Y SpecFault → Type 0
Tells view (Ok x) read = read ≡ Ok (view x)
Tells view (Err fault) read = read ≡ Err fault

-- the value of a field; the bytes of a fixed one say nothing here
pub data Content : Type 0 where
  counted : ℕ → Content
  bytes_of : List ℕ → Content
  skipped : Content

abbrev pub content : Value → Content
content (values.Number n) = counted n
content (values.Sized bytes) = bytes_of bytes.now
content values.Fixed = skipped

-- how many bytes of the message it holds
abbrev pub size_of : Content → ℕ
size_of (counted n) = 0
size_of (bytes_of bytes) = length bytes
size_of skipped = 0

pub record Field : Type 0 where
  pub number : ℕ
  pub value : Content
  pub rest : List ℕ

abbrev pub place : ℕ → List ℕ → ℕ
place end rest = end - length rest

-- A varint of at most `left` bytes: seven bits a byte, least significant first, and 128 more in each byte but
-- the last. What is no number below 2^64 in so many bytes is no varint; one that the message cuts is cut.
unfoldable pub varint_in : ℕ → ℕ → List ℕ → Result (ℕ × List ℕ) SpecFault
varint_in at left [] = Err (faults.Truncated at)
varint_in at left (b ∷ bs) =
    if nat_lt b 128 then Ok (b, bs)
    else if left == 1 then Err (faults.Varint at)
    else (varint_in at (left - 1) bs >>= λ r. check (nat_lt r.0 (2 ^ 57)) (faults.Varint at) (128 * r.0 + (b - 128), r.1))

unfoldable pub varint : ℕ → List ℕ → Result (ℕ × List ℕ) SpecFault
varint end rest = varint_in (place end rest) 10 rest

-- n bytes, or the value at this place is cut
unfoldable pub front : ℕ → ℕ → List ℕ → Result (List ℕ × List ℕ) SpecFault
front at n rest = if nat_lt (length rest) n then Err (faults.Truncated at) else Ok (take n rest, drop n rest)

-- the value of this wire type, which is none of 3, 4, 6 and 7
unfoldable pub value_of : ℕ → ℕ → List ℕ → Result (Content × List ℕ) SpecFault
value_of end wire rest =
    if wire == 0 then (varint end rest >>= λ n. Ok (counted n.0, n.1))
    else if wire == 1 then (front (place end rest) 8 rest >>= λ b. Ok (skipped, b.1))
    else if wire == 2 then (varint end rest >>= λ n. front (place end rest) n.0 n.1 >>= λ b. Ok (bytes_of b.0, b.1))
    else (front (place end rest) 4 rest >>= λ b. Ok (skipped, b.1))

-- the wire types that there are: a varint, eight bytes, a length and bytes, four bytes
abbrev pub is_wire : ℕ → Bool
is_wire wire = nat_lt wire 3 || (wire == 5)

-- whether a field of this number may have this wire type: of a disk the version (1) and the length (3) are
-- varints and a component (2) is bytes; of a component the path (1) is bytes and the offset (2) and the
-- capability (3) are varints; there is no field 0, and others are skipped
abbrev pub allows : Message → ℕ → ℕ → Bool
allows messages.Disk number wire =
    if number == 0 then false
    else if number == 2 then (wire == 2)
    else if nat_lt number 4 then (wire == 0)
    else is_wire wire
allows messages.Component number wire =
    if number == 0 then false
    else if number == 1 then (wire == 2)
    else if nat_lt number 4 then (wire == 0)
    else is_wire wire

-- the field at the front: its tag, which is eight times its number and its wire type, and its value
unfoldable pub field : Message → ℕ → List ℕ → Result Field SpecFault
field message end rest = do
  tag ← varint end rest
  known ← check (allows message (tag.0 / 8) (tag.0 % 8)) (faults.Wire (place end rest)) tag
  value ← value_of end (tag.0 % 8) tag.1
  Ok (record { number = tag.0 / 8; value = value.0; rest = value.1 })
