-- The grammar of a composite file: what is joined to make one (Protocol Buffers, "Encoding": "Base 128 Varints",
-- "Message Structure", "Last One Wins"). It says nothing of how a file is read.
use Rattle.std.specs.Prelude.{◌≡◌, ℕ, ◌+◌, ◌*◌, ◌<◌, ◌≤◌, ◌^◌, true, List, [], ◌∷◌, ◌++◌, ◌⊎◌, length, map, ◌==◌, if◌then◌else◌}
use Rattle.std.specs.List.{AllByRecursion, flat_map}
use Rattle.composite_spec.specs.declared.wire.Message.{Message}
use Rattle.composite_spec.specs.declared.wire.Message.TheVariants as messages
use Rattle.composite_spec.specs.Said.{Placed, Composite, IsComposite, magic, capability_of}
use Rattle.composite_spec.specs.Wire.{Content, counted, bytes_of, skipped, allows}

-- ---- varints

-- the number of these digits in base 128, the least significant first
abbrev pub number_of : List ℕ → ℕ
number_of [] = 0
number_of (d ∷ ds) = d + 128 * number_of ds

-- One to ten digits in base 128, the least significant first, and 128 more in each byte but the last. It need not
-- be the shortest.
pub record IsVarint (bytes : List ℕ) (n : ℕ) : Type 0 where
  pub low : List ℕ
  pub last : ℕ
  pub digits : AllByRecursion (λ d. d < 128) (low ++ last ∷ [])
  pub few : length low < 10
  pub bytes_are : bytes ≡ map (λ d. 128 + d) low ++ last ∷ []
  pub value : n ≡ number_of (low ++ last ∷ [])
  pub bound : n < 2 ^ 64

-- ---- fields

-- a field as it stands in a message: its number, wire type and value, and the bytes of its tag and of its value
pub record Entry : Type 0 where
  pub number : ℕ
  pub wire : ℕ
  pub value : Content
  pub tag : List ℕ
  pub body : List ℕ

abbrev pub entry_bytes : Entry → List ℕ
entry_bytes e = e.tag ++ e.body

-- the bytes are a varint of their length, and behind it these
abbrev pub IsSized : List ℕ → List ℕ → Type 0
IsSized body bytes = (size : List ℕ) × IsVarint size (length bytes) × (body ≡ size ++ bytes)

-- how a value of this wire type is spelled: a varint (0), any eight bytes (1), bytes behind their length (2), any
-- four bytes (5)
abbrev pub IsValue : ℕ → Content → List ℕ → Type 0
IsValue wire (counted n) body = (wire ≡ 0) × IsVarint body n
IsValue wire (bytes_of bytes) body = (wire ≡ 2) × IsSized body bytes
IsValue wire skipped body = ((wire ≡ 1) × (length body ≡ 8)) ⊎ ((wire ≡ 5) × (length body ≡ 4))

-- a field that may stand in this message
pub record IsEntry (message : Message) (e : Entry) : Type 0 where
  pub tagged : IsVarint e.tag (8 * e.number + e.wire)
  pub allowed : allows message e.number e.wire ≡ true
  pub spelled : IsValue e.wire e.value e.body

-- a message: fields one behind the other, in any order
pub record IsMessage (message : Message) (fields : List Entry) (bytes : List ℕ) : Type 0 where
  pub each : AllByRecursion (IsEntry message) fields
  pub joined : bytes ≡ flat_map entry_bytes fields

-- ---- what fields state

abbrev pub number_in : ℕ → ℕ → Content → List ℕ
number_in k number (counted n) = if number == k then n ∷ [] else []
number_in k number (bytes_of bytes) = []
number_in k number skipped = []

abbrev pub bytes_in : ℕ → ℕ → Content → List (List ℕ)
bytes_in k number (counted n) = []
bytes_in k number (bytes_of bytes) = if number == k then bytes ∷ [] else []
bytes_in k number skipped = []

-- the numbers, and the bytes, that the fields k state, in order
abbrev pub numbers_of : ℕ → List Entry → List ℕ
numbers_of k fields = flat_map (λ (e : Entry). number_in k e.number e.value) fields

abbrev pub all_bytes_of : ℕ → List Entry → List (List ℕ)
all_bytes_of k fields = flat_map (λ (e : Entry). bytes_in k e.number e.value) fields

-- the last one, or x where there is none
abbrev pub last_or : {X : Type 0} → X → List X → X
last_or x [] = x
last_or x (y ∷ ys) = last_or y ys

-- ---- components and files

-- a component's message: the last path (1), offset (2) and capability (3) that it states, empty or 0 where it states
-- none
pub record IsComponent (bytes : List ℕ) (c : Placed) : Type 0 where
  pub fields : List Entry
  pub is : IsMessage messages.Component fields bytes
  pub path : c.path ≡ last_or [] (all_bytes_of 1 fields)
  pub offset : c.offset ≡ last_or 0 (numbers_of 2 fields)
  pub capability : capability_of c ≡ last_or 0 (numbers_of 3 fields)

abbrev pub AreComponents : List (List ℕ) → List Placed → Type 0
AreComponents [] [] = Unit {0}
AreComponents [] (c ∷ cs) = ⊥
AreComponents (bytes ∷ more) [] = ⊥
AreComponents (bytes ∷ more) (c ∷ cs) = IsComponent bytes c × AreComponents more cs

-- A composite file that says this: the magic, and a message whose last version (1) is 2, whose components (2) stand
-- in order, and which states the length (3) last. It has at most 1 MiB.
pub record IsFile (bytes : List ℕ) (c : Composite) : Type 0 where
  pub message : List ℕ
  pub fields : List Entry
  pub begins : bytes ≡ magic ++ message
  pub is : IsMessage messages.Disk fields message
  pub few : length bytes ≤ 1048576
  pub version : last_or 0 (numbers_of 1 fields) ≡ 2
  pub components : AreComponents (all_bytes_of 2 fields) c.components
  pub length_is : c.length ≡ last_or 0 (numbers_of 3 fields)
  pub describes : IsComposite c
