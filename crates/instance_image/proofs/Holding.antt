-- An image that is held opens.
use Rattle.std.proofs.Common.{◌≡◌, ◌≢◌, ℕ, zero, suc, ◌+◌, ◌-◌, ◌*◌, ◌<◌, ◌≤◌, ◌^◌, Bool, true, false, List, [], ◌∷◌, ◌++◌, length, take, drop, Option, Some, None, Result, Ok, Err, refl, ap, sym, ◌∙◌, subst, arith, inl, inr, append_assoc, append-nil}
use Rattle.std.specs.Prelude.{◌==◌, nat_lt, nat_le, not, ◌&&◌, if◌then◌else◌}
use Rattle.std.specs.Int.{w16, w32, w64, to_le_bytes, from_le_bytes}
use Rattle.std.specs.List.{AllByRecursion, flat_map}
use Rattle.std.specs.Str.{bytes_eq}
use Rattle.std.specs.Cmp.Lexicographic.{pointwise_decides}
use Rattle.std.proofs.lemmas.Bool.Decides.{Decides-eqb}
use Rattle.std.proofs.lemmas.Bool.{le-ltb}
use Rattle.std.proofs.lemmas.Bool.Decides.{nat_tests}
use Rattle.std.proofs.lemmas.List.{length-append, length-take, length-drop, take_at, drop_at, drop-drop, drop-take, take-take}
use Rattle.std.proofs.lemmas.Nat.{from_le_bytes-to_le_bytes_4, from_le_bytes-to_le_bytes_8}
use Rattle.host_traits.specs.declared.calls.Call.{Call}
use Rattle.host_traits.specs.declared.calls.Call.TheVariants.{BlockRead}
use Rattle.host_traits.specs.declared.calls.Said.{Said}
use Rattle.host_traits.specs.declared.calls.Said.TheVariants.{Bytes}
use Rattle.host_traits.specs.Held.{Held, Disk, serve, found, when}
use Rattle.host_traits.specs.Told.{Exchanges}
use Rattle.host_traits.specs.Did.{Trace}
use Rattle.instance_image.specs.declared.faults.ImageFault.{ImageFault}
use Rattle.instance_image.specs.declared.faults.ImageFault.TheVariants.{Failed, Short, Magic, Version, NotZero, SaltMismatch, Header, TooMany, Memory}
use Rattle.instance_image.specs.declared.values.Part.{Part}
use Rattle.instance_image.specs.Records.{Kept, zeros, part_at, header_of, uuid_in, size_in, reserved_in, find_part}
use Rattle.instance_image.specs.Opening.{Opening, sector_call, ◌then◌, magic, version_in, is_zero, disk_fault, Reading, start, is_nil, is_payload_size, is_some, part_of, header_step, with_part, HeardHeaders, HeardSoFar, HeardNext, IsClosed, IsRefused, OpenOutcome, kept_of}
use Rattle.instance_image.specs.Grammar.{disk_header, Slot, slot_bytes, IsSlot, IsNew, AreApart, part_of_slot, parts_from}
use Rattle.instance_image.specs.Imaged.{HoldsImage, image_of, OpensAs}
use Rattle.instance_image.proofs.Written.{length-header, length-disk, length-slot}
use Rattle.instance_image.proofs.Served.{Answers}

-- ---- tests on lists of bytes

pub same_bytes : (a b : List ℕ) → a ≡ b → bytes_eq a b ≡ true
same_bytes a b e = (pointwise_decides Decides-eqb a b).1 e

pub are_same : (a b : List ℕ) → bytes_eq a b ≡ true → a ≡ b
are_same a b e = (pointwise_decides Decides-eqb a b).0 e

other_bytes : (a b : List ℕ) → (a ≡ b → ⊥) → bytes_eq a b ≡ false
other_bytes a b n = elim (bytes_eq a b) as (λ v. bytes_eq a b ≡ v → v ≡ false) [ true ↦ λ e. absurd (n (are_same a b e)) | false ↦ λ e. refl ] refl

zeros_zero : (n : ℕ) → is_zero (zeros n) ≡ true
unfolding is_zero
zeros_zero zero = refl
zeros_zero (suc n) = zeros_zero n

-- ---- a slot's header

module _ (s : Slot) (is : IsSlot s) where
  header : List ℕ
  header = header_of s.uuid s.size s.reserved

  long : length header ≡ 512
  unfolding header
  long = length-header s.uuid s.size s.reserved is.uuid_len

  size_few : s.size < 2 ^ 64
  size_few = elim is.payload [ inl none ↦ omega (arith, none) | inr some ↦ let m = some.most in omega (arith, m) ]

  uuid_is : uuid_in header ≡ s.uuid
  unfolding header header_of
  uuid_is = take_at s.uuid (to_le_bytes w64 s.size ++ (to_le_bytes w32 s.reserved ++ zeros 484)) 16 is.uuid_len

  size_is : size_in header ≡ s.size
  unfolding header header_of
  size_is = ap (λ (l : List ℕ). from_le_bytes w64 (take 8 l)) (drop_at s.uuid (to_le_bytes w64 s.size ++ (to_le_bytes w32 s.reserved ++ zeros 484)) 16 is.uuid_len) ∙ from_le_bytes-to_le_bytes_8 s.size size_few

  after : drop 24 header ≡ to_le_bytes w32 s.reserved ++ zeros 484
  unfolding header header_of
  after = sym (drop-drop 8 16 header) ∙ ap (drop 8) (drop_at s.uuid (to_le_bytes w64 s.size ++ (to_le_bytes w32 s.reserved ++ zeros 484)) 16 is.uuid_len)

  reserved_is : reserved_in header ≡ s.reserved
  reserved_is = ap (λ (l : List ℕ). from_le_bytes w32 (take 4 l)) after ∙ from_le_bytes-to_le_bytes_4 s.reserved is.reserved

  zeros_is : drop 28 header ≡ zeros 484
  zeros_is = sym (drop-drop 4 24 header) ∙ ap (drop 4) after

  payload_ok : is_payload_size s.size s.reserved ≡ true
  payload_ok = elim is.payload [ inl none ↦ rw none refl | inr some ↦ payload_some s.size s.reserved some.least some.most some.room (s.size == 0) ] where
    payload_some : (size reserved : ℕ) → 28 ≤ size → size ≤ 65564 → size ≤ 512 * reserved → (b : Bool)
        → (if b then true else (not (nat_lt size 28) && not (nat_lt 65564 size) && not (nat_lt (512 * reserved) size))) ≡ true
    payload_some size reserved least most room true = refl
    payload_some size reserved least most room false = grind (arith, nat_tests)

  -- where it stands after these partitions, it is a further one
  steps_on : (sectors : ℕ) (r : Reading) → r.next + (1 + s.reserved) ≤ sectors → find_part r.parts s.uuid ≡ None → length r.parts < 256
      → header_step sectors r header ≡ Ok (Some (part_of_slot r.next s))
  unfolding header_step
  steps_on sectors r end new few =
      let whole : nat_lt (length header) 512 ≡ false = le-ltb (length header) 512 (omega (arith, long)) in
      let named : is_nil (uuid_in header) ≡ false = ap is_nil uuid_is ∙ other_bytes s.uuid (zeros 16) is.named in
      let zero : is_zero (drop 28 header) ≡ true = ap is_zero zeros_is ∙ zeros_zero 484 in
      let inside : nat_lt sectors (r.next + (1 + reserved_in header)) ≡ false = ap (λ (n : ℕ). nat_lt sectors (r.next + (1 + n))) reserved_is ∙ le-ltb sectors (r.next + (1 + s.reserved)) end in
      let sized : is_payload_size (size_in header) (reserved_in header) ≡ true = (λ i. is_payload_size (size_is i) (reserved_is i)) ∙ payload_ok in
      let other : is_some (find_part r.parts (uuid_in header)) ≡ false = ap (λ (u : List ℕ). is_some (find_part r.parts u)) uuid_is ∙ ap is_some new in
      let count : (length r.parts == 256) ≡ false = less_not (length r.parts) few in
      let same : part_of r.next header ≡ part_of_slot r.next s = λ i. record { uuid = record { 0 = uuid_is i }; sector = r.next; reserved = reserved_is i; size = size_is i } in
      rw (whole, named, zero, inside, sized, other, count) (ap (λ (p : Part). Ok (Some p)) same) where
        less_not : (n : ℕ) → n < 256 → (n == 256) ≡ false
        less_not n lt = grind (arith, nat_tests)

-- ---- partitions that were read

-- how many sectors slots take
unfoldable pub sectors_in : List Slot → ℕ
sectors_in [] = 0
sectors_in (s ∷ slots) = 1 + s.reserved + sectors_in slots

pub parts_more : (at : ℕ) (done : List Slot) (s : Slot) → parts_from at (done ++ s ∷ []) ≡ parts_from at done ++ part_of_slot (at + sectors_in done) s ∷ []
unfolding parts_from sectors_in
parts_more at [] s = ap (λ (n : ℕ). part_of_slot n s ∷ []) (omega arith)
parts_more at (d ∷ done) s = ap (λ (l : List Part). part_of_slot at d ∷ l) (parts_more (at + (1 + d.reserved)) done s
    ∙ ap (λ (n : ℕ). parts_from (at + (1 + d.reserved)) done ++ part_of_slot n s ∷ []) (omega arith))

pub sectors_more : (done : List Slot) (s : Slot) → sectors_in (done ++ s ∷ []) ≡ sectors_in done + (1 + s.reserved)
unfolding sectors_in
sectors_more [] s = omega arith
sectors_more (d ∷ done) s = let h = sectors_more done s in omega (arith, h)

pub count_parts : (at : ℕ) (done : List Slot) → length (parts_from at done) ≡ length done
unfolding parts_from
count_parts at [] = refl
count_parts at (d ∷ done) = let h = count_parts (at + (1 + d.reserved)) done in omega (arith, h)

-- a UUID that is none of those is not found
not_found : (at : ℕ) (done : List Slot) (s : Slot) (todo : List Slot) → AreApart (done ++ s ∷ todo) → find_part (parts_from at done) s.uuid ≡ None
unfolding parts_from find_part
not_found at [] s todo a = refl
not_found at (d ∷ done) s todo a =
    let other : bytes_eq d.uuid s.uuid ≡ false = other_bytes d.uuid s.uuid (new_in done a.0) in
    rw other (not_found (at + (1 + d.reserved)) done s todo a.1) where
      new_in : (xs : List Slot) → IsNew d.uuid (xs ++ s ∷ todo) → d.uuid ≢ s.uuid
      new_in [] n = n.0
      new_in (x ∷ xs) n = new_in xs n.1

each_mid : (done : List Slot) (s : Slot) (todo : List Slot) → AllByRecursion IsSlot (done ++ s ∷ todo) → IsSlot s
each_mid [] s todo a = a.0
each_mid (d ∷ done) s todo a = each_mid done s todo a.1

-- ---- the first sector

zeros_426 : (salt : List ℕ) → length salt ≡ 64 → drop 86 (disk_header salt) ≡ zeros 426
unfolding disk_header
zeros_426 salt len = sym (drop-drop 64 22 (magic ++ (to_le_bytes w16 1 ++ (salt ++ zeros 426)))) ∙ drop_at salt (zeros 426) 64 len

salt_at : (salt : List ℕ) → length salt ≡ 64 → part_at 22 64 (disk_header salt) ≡ salt
unfolding disk_header
salt_at salt len = take_at salt (zeros 426) 64 len

front : (salt : List ℕ) → (bytes_eq (take 20 (disk_header salt)) magic ≡ true) × (version_in (disk_header salt) ≡ 1)
unfolding disk_header
front salt = (refl, refl)

disk_good : (salt : List ℕ) → length salt ≡ 64 → disk_fault salt (disk_header salt) ≡ None
unfolding disk_fault
disk_good salt len =
    let whole : nat_lt (length (disk_header salt)) 512 ≡ false = le-ltb (length (disk_header salt)) 512 (omega (arith, length-disk salt len)) in
    let f = front salt in
    let zero : is_zero (drop 86 (disk_header salt)) ≡ true = ap is_zero (zeros_426 salt len) ∙ zeros_zero 426 in
    let same : bytes_eq (part_at 22 64 (disk_header salt)) salt ≡ true = same_bytes _ salt (salt_at salt len) in
    rw (whole, f.0, f.1, zero, same) refl

-- ---- sectors of an image that is held

bytes_is : (a b : List ℕ) → Bytes a ≡ Bytes b → a ≡ b
bytes_is a b e = cc

pair_is : (p q : Said × Held) → Some p ≡ Some q → (p.0 ≡ q.0) × (p.1 ≡ q.1)
pair_is p q e = let same : p ≡ q = cc in (ap (λ x. x.0) same, ap (λ x. x.1) same)

when_is : (b : Bool) (p q : Said × Held) → when {A = Said × Held} b p ≡ Some q → (b ≡ true) × (Some p ≡ Some q)
when_is true p q e = (refl, e)
when_is false p q e = absurd cc

pub read_is : (h : Held) (disk sector : ℕ) (given : List ℕ) (d : Disk) (bytes : List ℕ) (k : Held) → h.disk disk ≡ Some d → serve h (BlockRead disk sector 1) given ≡ Some (Bytes bytes, k)
    → (bytes ≡ take 512 (drop (512 * sector) d.bytes)) × (k ≡ h)
unfolding serve
read_is h disk sector given d bytes k is e =
    let f : Disk → Option (Said × Held) = λ (x : Disk). when (nat_le (512 * (sector + 1)) (length x.bytes)) (Bytes (take 512 (drop (512 * sector) x.bytes)), h) in
    let w = when_is (nat_le (512 * (sector + 1)) (length d.bytes)) (Bytes (take 512 (drop (512 * sector) d.bytes)), h) (Bytes bytes, k)
    (ap (λ (o : Option Disk). found {A = Disk} {B = Said × Held} o f) (sym is) ∙ e) in
    let p = pair_is (Bytes (take 512 (drop (512 * sector) d.bytes)), h) (Bytes bytes, k) w.1 in
    (sym (bytes_is _ _ p.0), sym p.1)

pub serves_split : (xs ys : Exchanges) (h k : Held) → Answers h (xs ++ ys) k → (mid : Held) × Answers h xs mid × Answers mid ys k
serves_split [] ys h k s = (h, refl, s)
serves_split (x ∷ xs) ys h k s = let r = serves_split xs ys s.1 k s.3 in (r.0, (s.0, s.1, s.2, r.1), r.2)

-- a sector of some sectors of a disk
pub sector_within : (bytes : List ℕ) (first sectors at : ℕ) → at < sectors → take 512 (drop (512 * (first + at)) bytes) ≡ take 512 (drop (512 * at) (take (512 * sectors) (drop (512 * first) bytes)))
sector_within bytes first sectors at lt =
    let n : ℕ = 512 * sectors in
    let cut : n ≡ 512 * at + (n - 512 * at) = omega arith in
    let from : 512 * (first + at) ≡ 512 * first + 512 * at = omega arith in
    ap (λ (m : ℕ). take 512 (drop m bytes)) from
    ∙ sym (ap (λ (m : ℕ). take 512 (drop (512 * at) (take m (drop (512 * first) bytes)))) cut
    ∙ ap (take 512) (drop-take (512 * at) (n - 512 * at) (drop (512 * first) bytes))
    ∙ take-take 512 (n - 512 * at) (drop (512 * at) (drop (512 * first) bytes)) (omega arith)
    ∙ ap (take 512) (drop-drop (512 * at) (512 * first) bytes))

module _ (o : Opening) (slots : List Slot) (h : Held) (salt_len : length o.salt ≡ 64) (holds : HoldsImage h o slots) where
  image : List ℕ
  image = take (512 * o.span.sectors) (drop (512 * o.span.first) holds.disk.bytes)

  spelled : image ≡ disk_header o.salt ++ (flat_map slot_bytes slots ++ holds.image.rest)
  unfolding image
  spelled = holds.image.spelled

  image_len : length image ≡ 512 * o.span.sectors
  unfolding image
  image_len = holds.image.len

  -- a sector of the image
  sector : ℕ → List ℕ
  sector at = take 512 (drop (512 * at) image)

  within : (at : ℕ) → at < o.span.sectors → take 512 (drop (512 * (o.span.first + at)) holds.disk.bytes) ≡ sector at
  unfolding image sector
  within at lt = sector_within holds.disk.bytes o.span.first o.span.sectors at lt

  heard_is : (at : ℕ) (given bytes : List ℕ) (k : Held) → at < o.span.sectors → serve h (sector_call o at) given ≡ Some (Bytes bytes, k) → (bytes ≡ sector at) × (k ≡ h)
  heard_is at given bytes k lt e =
      let r = read_is h o.disk (o.span.first + at) given holds.disk bytes k holds.is e in
      (r.0 ∙ within at lt, r.1)

  -- these slots were read, and those are left
  record IsAt (r : Reading) (done todo : List Slot) : Type 0 where
    all : slots ≡ done ++ todo
    parts : r.parts ≡ parts_from 1 done
    next : r.next ≡ 1 + sectors_in done
    left : drop (512 * r.next) image ≡ flat_map slot_bytes todo ++ holds.image.rest

  begins : IsAt start [] slots
  unfolding parts_from sectors_in
  begins = record {
    all = refl;
    parts = refl;
    next = refl;
    left = ap (drop 512) spelled ∙ drop_at (disk_header o.salt) (flat_map slot_bytes slots ++ holds.image.rest) 512 (length-disk o.salt salt_len);
  }

  slot_of : (r : Reading) (done : List Slot) (s : Slot) (todo : List Slot) → IsAt r done (s ∷ todo) → IsSlot s
  slot_of r done s todo at = each_mid done s todo (subst (λ (l : List Slot). AllByRecursion IsSlot l) at.all holds.image.each)

  slot_long : (r : Reading) (done : List Slot) (s : Slot) (todo : List Slot) → IsAt r done (s ∷ todo) → length (slot_bytes s) ≡ 512 * (1 + s.reserved)
  slot_long r done s todo at = let is = slot_of r done s todo at in length-slot s is.uuid_len is.inside_len

  -- a slot lies in the image
  inside : (r : Reading) (done : List Slot) (s : Slot) (todo : List Slot) → IsAt r done (s ∷ todo) → r.next + (1 + s.reserved) ≤ o.span.sectors
  inside r done s todo at =
      let n = slot_long r done s todo at in
      let more : List ℕ = flat_map slot_bytes todo ++ holds.image.rest in
      let shape : drop (512 * r.next) image ≡ slot_bytes s ++ more = at.left ∙ append_assoc (slot_bytes s) (flat_map slot_bytes todo) holds.image.rest in
      omega (arith, length-drop (512 * r.next) image, ap length shape, length-append (slot_bytes s) more, n, image_len)

  header_at : (r : Reading) (done : List Slot) (s : Slot) (todo : List Slot) → IsAt r done (s ∷ todo) → sector r.next ≡ header_of s.uuid s.size s.reserved
  unfolding sector slot_bytes
  header_at r done s todo at =
      let is = slot_of r done s todo at in
      let more : List ℕ = flat_map slot_bytes todo ++ holds.image.rest in
      let head : List ℕ = header_of s.uuid s.size s.reserved in
      ap (take 512) (at.left ∙ append_assoc (head ++ s.inside) (flat_map slot_bytes todo) holds.image.rest ∙ append_assoc head s.inside more)
      ∙ take_at head (s.inside ++ more) 512 (length-header s.uuid s.size s.reserved is.uuid_len)

  count_done : (r : Reading) (done : List Slot) (s : Slot) (todo : List Slot) → IsAt r done (s ∷ todo) → length r.parts < 256
  count_done r done s todo at = omega (arith, ap length at.parts, count_parts 1 done, ap length at.all, length-append done (s ∷ todo), holds.image.few)

  -- the next slot is read
  reads_slot : (r : Reading) (done : List Slot) (s : Slot) (todo : List Slot) → IsAt r done (s ∷ todo) → header_step o.span.sectors r (sector r.next) ≡ Ok (Some (part_of_slot r.next s))
  unfolding header
  reads_slot r done s todo at =
      let new : find_part r.parts s.uuid ≡ None = ap (λ (l : List Part). find_part l s.uuid) at.parts
      ∙ not_found 1 done s todo (subst AreApart at.all holds.image.apart) in
      ap (header_step o.span.sectors r) (header_at r done s todo at)
      ∙ steps_on s (slot_of r done s todo at) o.span.sectors r (inside r done s todo at) new (count_done r done s todo at)

  goes_on : (r : Reading) (done : List Slot) (s : Slot) (todo : List Slot) → IsAt r done (s ∷ todo) → IsAt (with_part r (part_of_slot r.next s)) (done ++ s ∷ []) todo
  goes_on r done s todo at =
      let more : List ℕ = flat_map slot_bytes todo ++ holds.image.rest in
      let shape : drop (512 * r.next) image ≡ slot_bytes s ++ more = at.left ∙ append_assoc (slot_bytes s) (flat_map slot_bytes todo) holds.image.rest in
      let n = slot_long r done s todo at in
      let far : 512 * (r.next + (1 + s.reserved)) ≡ 512 * r.next + 512 * (1 + s.reserved) = omega arith in
      record {
        all = at.all ∙ sym (append_assoc done (s ∷ []) todo);
        parts = (λ i. at.parts i ++ part_of_slot (at.next i) s ∷ []) ∙ sym (parts_more 1 done s);
        next = omega (arith, at.next, sectors_more done s);
        left = ap (λ (m : ℕ). drop m image) far ∙ sym (drop-drop (512 * (1 + s.reserved)) (512 * r.next) image) ∙ ap (drop (512 * (1 + s.reserved))) shape ∙ drop_at (slot_bytes s) more (512 * (1 + s.reserved)) n;
      }

  -- no slot is left: a header that is asked for has a nil UUID
  reads_end : (r : Reading) (done : List Slot) → IsAt r done [] → r.next < o.span.sectors → header_step o.span.sectors r (sector r.next) ≡ Ok None
  unfolding sector header_step
  reads_end r done at lt =
      let left : drop (512 * r.next) image ≡ holds.image.rest = at.left in
      elim holds.image.ends [
        | inl none ↦ absurd (omega (arith, length-drop (512 * r.next) image, ap length left, ap length none, image_len))
        | inr nil ↦ (
            let n : length (take 512 (drop (512 * r.next) image)) ≡ 512 = omega (arith, length-take 512 (drop (512 * r.next) image), ap length left, nil.0) in
            let whole : nat_lt (length (take 512 (drop (512 * r.next) image))) 512 ≡ false = le-ltb (length (take 512 (drop (512 * r.next) image))) 512 (omega (arith, n)) in
            let name : take 16 (take 512 (drop (512 * r.next) image)) ≡ zeros 16 = take-take 16 512 (drop (512 * r.next) image) (omega arith) ∙ ap (take 16) left ∙ nil.1 in
            let closed : is_nil (take 16 (take 512 (drop (512 * r.next) image))) ≡ true = same_bytes _ (zeros 16) name in
            rw (whole, closed) refl)
      ]

  -- no slot is left where the list is closed
  record IsDone (r : Reading) : Type 0 where
    done : List Slot
    todo : List Slot
    at : IsAt r done todo

  walks : (r new : Reading) (own : Exchanges) (after : Held) → HeardHeaders o r own new → Answers h own after → IsDone r → IsDone new × (after ≡ h)
  walks r new [] after heard serves d = (subst IsDone (sym heard) d, serves)
  walks r new (x ∷ own) after heard serves d =
      let bytes = heard.0 in
      let p = heard.1 in
      let called : serve h (sector_call o r.next) serves.0 ≡ Some (Bytes bytes, serves.1) = subst (λ (y : Call × Said). serve h y.0 serves.0 ≡ Some (y.1, serves.1)) heard.3 serves.2 in
      let is = heard_is r.next serves.0 bytes serves.1 heard.2 called in
      let step : header_step o.span.sectors r (sector r.next) ≡ Ok (Some p) = ap (header_step o.span.sectors r) (sym is.0) ∙ heard.4 in
      walks (with_part r p) new own after heard.5 (subst (λ (k : Held). Answers k own after) is.1 serves.3) (next_done d.done d.todo d.at step) where
        next_done : (done todo : List Slot) → IsAt r done todo → header_step o.span.sectors r (sector r.next) ≡ Ok (Some heard.1) → IsDone (with_part r heard.1)
        next_done done [] at step = absurd (some_none heard.1 (sym (reads_end r done at heard.2) ∙ step)) where
          some_none : (p : Part) → ◌≡◌ {A = Result (Option Part) ImageFault} (Ok None) (Ok (Some p)) → ⊥
          some_none p e = cc
        next_done done (s ∷ todo) at step =
            let same : part_of_slot r.next s ≡ heard.1 = part_same (part_of_slot r.next s) heard.1 (sym (reads_slot r done s todo at) ∙ step) in
            record { done = done ++ s ∷ []; todo = todo; at = subst (λ (p : Part). IsAt (with_part r p) (done ++ s ∷ []) todo) same (goes_on r done s todo at) } where
              part_same : (p q : Part) → ◌≡◌ {A = Result (Option Part) ImageFault} (Ok (Some p)) (Ok (Some q)) → p ≡ q
              part_same p q e = cc

  -- the first sector, and what was heard after it
  first_is : (bytes : List ℕ) (given : List ℕ) (k : Held) → 1 ≤ o.span.sectors → serve h (sector_call o 0) given ≡ Some (Bytes bytes, k) → (bytes ≡ disk_header o.salt) × (k ≡ h)
  unfolding sector
  first_is bytes given k some e =
      let r = heard_is 0 given bytes k some e in
      (r.0 ∙ ap (take 512) spelled ∙ take_at (disk_header o.salt) (flat_map slot_bytes slots ++ holds.image.rest) 512 (length-disk o.salt salt_len), r.1)

  has_sectors : 1 ≤ o.span.sectors
  has_sectors = omega (arith, ap length spelled, length-append (disk_header o.salt) (flat_map slot_bytes slots ++ holds.image.rest), length-disk o.salt salt_len, image_len)

  so_far : (own : Exchanges) (r : Reading) (after : Held) → HeardSoFar o own r → Answers h own after → IsDone r × (after ≡ h)
  so_far own r after s serves =
      let called = subst (λ (x : Exchanges). Answers h x after) s.own_is serves in
      let f = first_is s.head called.0 called.1 has_sectors called.2 in
      walks start r s.headers after s.each (subst (λ (k : Held). Answers k s.headers after) f.1 called.3) (record { done = []; todo = slots; at = begins })

  -- the answer for the next header is what is held there
  next_is : (own : Exchanges) (r : Reading) (makes : Result (Option Part) ImageFault) (after : Held) → (n : HeardNext o own r makes) → Answers h own after
      → IsDone r × (header_step o.span.sectors r (sector r.next) ≡ makes)
  next_is own r makes after n serves =
      let cut = serves_split n.before ((sector_call o r.next, Bytes n.bytes) ∷ []) h after (subst (λ (x : Exchanges). Answers h x after) n.own_is serves) in
      let s = so_far n.before r cut.0 n.so_far cut.1 in
      let last = subst (λ (k : Held). Answers k ((sector_call o r.next, Bytes n.bytes) ∷ []) after) s.1 cut.2 in
      let is = heard_is r.next last.0 n.bytes last.1 n.inside last.2 in
      (s.0, ap (header_step o.span.sectors r) (sym is.0) ∙ n.is)

  -- a header that is held breaks no rule
  no_fault : (r : Reading) (why : ImageFault) → IsDone r → r.next < o.span.sectors → header_step o.span.sectors r (sector r.next) ≡ Err why → ⊥
  no_fault r why d lt e = good d.done d.todo d.at where
    bad : (x : Option Part) → ◌≡◌ {A = Result (Option Part) ImageFault} (Ok x) (Err why) → ⊥
    bad x e = cc

    good : (done todo : List Slot) → IsAt r done todo → ⊥
    good done [] at = bad None (sym (reads_end r done at lt) ∙ e)
    good done (s ∷ todo) at = bad (Some (part_of_slot r.next s)) (sym (reads_slot r done s todo at) ∙ e)

  not_refused : (own : Exchanges) (why : ImageFault) (after : Held) → Answers h own after → IsRefused o own why → ⊥
  not_refused own why after serves (inl b) =
      let called = subst (λ (x : Exchanges). Answers h x after) b.own_is serves in
      let f = first_is b.bytes called.0 called.1 has_sectors called.2 in
      none_some why (sym (disk_good o.salt salt_len) ∙ ap (disk_fault o.salt) (sym f.0) ∙ b.is) where
        none_some : (why : ImageFault) → None ≡ Some why → ⊥
        none_some why e = cc
  not_refused own why after serves (inr b) =
      let n = next_is own b.reading (Err why) after b.next serves in
      no_fault b.reading why n.0 b.next.inside n.1

  -- the whole list was read
  closed_is : (own : Exchanges) (r : Reading) (after : Held) → Answers h own after → IsClosed o own r → kept_of o r ≡ image_of o slots
  closed_is own r after serves (inl e) = let s = so_far own r after e.0 serves in ended s.0.done s.0.todo s.0.at where
    ended : (done todo : List Slot) → IsAt r done todo → kept_of o r ≡ image_of o slots
    ended done [] at = ap (λ (l : List Part). let k : Kept = record { disk = o.disk; first = o.span.first; salt = o.salt; parts = l } in k) (at.parts ∙ ap (parts_from 1) (sym (append-nil done) ∙ sym at.all))
    ended done (s ∷ todo) at = absurd (omega (arith, inside r done s todo at, e.1))
  closed_is own r after serves (inr n) = let s = next_is own r (Ok None) after n serves in ended s.0.done s.0.todo s.0.at s.1 where
    none_some : (p : Part) → ◌≡◌ {A = Result (Option Part) ImageFault} (Ok (Some p)) (Ok None) → ⊥
    none_some p e = cc

    ended : (done todo : List Slot) → IsAt r done todo → header_step o.span.sectors r (sector r.next) ≡ Ok None → kept_of o r ≡ image_of o slots
    ended done [] at step = ap (λ (l : List Part). let k : Kept = record { disk = o.disk; first = o.span.first; salt = o.salt; parts = l } in k) (at.parts ∙ ap (parts_from 1) (sym (append-nil done) ∙ sym at.all))
    ended done (s ∷ todo) at step = absurd (none_some (part_of_slot r.next s) (sym (reads_slot r done s todo at) ∙ step))

  module _ (t : Trace) (after : Held) (serves : Answers h t.own after) (none : t.failed ≡ 0) where
    pub opens : (r : Result Kept ImageFault) → OpenOutcome o r t → OpensAs (image_of o slots) r
    opens (Ok k) i = i.1.is ∙ closed_is t.own i.1.reading after serves i.1.closed
    opens (Err (Failed faults)) f = absurd (omega (arith, none, f.failed))
    opens (Err (Short asked got)) f = absurd (not_refused t.own (Short asked got) after serves f.0)
    opens (Err Memory) f = refl
    opens (Err Magic) f = absurd (not_refused t.own Magic after serves f.1)
    opens (Err (Version found)) f = absurd (not_refused t.own (Version found) after serves f.1)
    opens (Err (NotZero sector)) f = absurd (not_refused t.own (NotZero sector) after serves f.1)
    opens (Err SaltMismatch) f = absurd (not_refused t.own SaltMismatch after serves f.1)
    opens (Err (Header sector)) f = absurd (not_refused t.own (Header sector) after serves f.1)
    opens (Err (TooMany sector)) f = absurd (not_refused t.own (TooMany sector) after serves f.1)
