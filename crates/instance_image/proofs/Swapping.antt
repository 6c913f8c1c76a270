-- The image that a host holds after a put.
use Rattle.std.proofs.Common.{◌≡◌, ◌≢◌, ℕ, suc, ◌+◌, ◌-◌, ◌*◌, ◌≤◌, true, false, List, [], ◌∷◌, ◌++◌, length, take, drop, Option, Some, refl, ap, sym, ◌∙◌, subst, arith, inr, append_assoc}
use Rattle.std.specs.Prelude.{nat_eq, if◌then◌else◌}
use Rattle.std.specs.List.{AllByRecursion, flat_map}
use Rattle.std.specs.Str.{bytes_eq}
use Rattle.std.specs.Map.{update}
use Rattle.std.proofs.lemmas.Grind.{flat_map-append}
use Rattle.std.proofs.lemmas.Map.{update_here}
use Rattle.std.proofs.lemmas.List.{length-append, length-replicate, length-take, length-drop, drop-append-le, drop-take, take-take, take_at, drop_at, drop-drop}
use Rattle.host_traits.specs.Held.{Held, Disk, over}
use Rattle.instance_image.specs.declared.values.Part.{Part}
use Rattle.instance_image.specs.Records.{Kept, IsPayloadSize, zeros, header_of, find_part, keep_size, is_large, sectors_of}
use Rattle.instance_image.specs.Sealings.{sealed_of}
use Rattle.instance_image.specs.Access.{sealing_of, record_bytes}
use Rattle.instance_image.specs.Opening.{Opening}
use Rattle.instance_image.specs.Grammar.{disk_header, Slot, slot_bytes, IsSlot, IsNew, AreApart, IsImage, part_of_slot, parts_from}
use Rattle.instance_image.specs.Imaged.{HoldsImage, image_of}
use Rattle.instance_image.specs.Promised.{HasPut, MayBeWritten}
use Rattle.instance_image.specs.Staying.{put_image, HoldsImageStill, PutsKeepImages, PutsKeepWritable}
use Rattle.instance_image.proofs.Accesses.{fits_found, large_not}
use Rattle.instance_image.proofs.Written.{length-header, length-disk, length-slot}
use Rattle.instance_image.proofs.Holding.{are_same, sectors_in}
use Rattle.instance_image.proofs.Promises.{over_long, record_len, few_of}
use Rattle.instance_image.proofs.Others.{over_shape, sectors_few}

-- ---- one of some slots

-- with another one in its place
pub all_swap : (P : Slot → Type 0) (before after : List Slot) (x y : Slot) → (P x → P y) → AllByRecursion P (before ++ x ∷ after) → AllByRecursion P (before ++ y ∷ after)
all_swap P [] after x y f a = (f a.0, a.1)
all_swap P (s ∷ before) after x y f a = (a.0, all_swap P before after x y f a.1)

apart_swap : (before after : List Slot) (x y : Slot) → x.uuid ≡ y.uuid → AreApart (before ++ x ∷ after) → AreApart (before ++ y ∷ after)
apart_swap [] after x y same a = (subst (λ (u : List ℕ). IsNew u after) same a.0, a.1)
apart_swap (s ∷ before) after x y same a =
    (all_swap (λ (t : Slot). s.uuid ≢ t.uuid) before after x y (λ other e. other (e ∙ sym same)) a.0, apart_swap before after x y same a.1)

all_before : (P : Slot → Type 0) (before rest : List Slot) → AllByRecursion P (before ++ rest) → AllByRecursion P before
all_before P [] rest a = tt
all_before P (s ∷ before) rest a = (a.0, all_before P before rest a.1)

all_at : (P : Slot → Type 0) (before after : List Slot) (x : Slot) → AllByRecursion P (before ++ x ∷ after) → P x
all_at P [] after x a = a.0
all_at P (s ∷ before) after x a = all_at P before after x a.1

length_before : (before : List Slot) → AllByRecursion IsSlot before → length (flat_map slot_bytes before) ≡ 512 * sectors_in before
unfolding sectors_in
length_before [] a = refl
length_before (s ∷ before) a =
    let one = length-slot s a.0.uuid_len a.0.inside_len in
    let more = length_before before a.1 in
    length-append (slot_bytes s) (flat_map slot_bytes before) ∙ omega (arith, one, more)

-- the slot of the partition that is found
record IsSplit (at : ℕ) (slots : List Slot) (uuid : List ℕ) (size : ℕ) (p : Part) : Type 0 where
  before : List Slot
  slot : Slot
  after : List Slot
  all : slots ≡ before ++ slot ∷ after
  named : slot.uuid ≡ uuid
  part : p ≡ part_of_slot (at + sectors_in before) slot
  kept : (inside : List ℕ) → keep_size (parts_from at slots) uuid size ≡ parts_from at (before ++ record slot { size = size; inside = inside } ∷ after)

splits : (at : ℕ) (slots : List Slot) (uuid : List ℕ) (size : ℕ) (p : Part) → find_part (parts_from at slots) uuid ≡ Some p → IsSplit at slots uuid size p
unfolding parts_from find_part keep_size sectors_in
splits at [] uuid size p f = absurd cc
splits at (s ∷ slots) uuid size p f =
    elim (bytes_eq s.uuid uuid) as (λ b. bytes_eq s.uuid uuid ≡ b → (if b then Some (part_of_slot at s) else find_part (parts_from (at + (1 + s.reserved)) slots) uuid) ≡ Some p → IsSplit at (s ∷ slots) uuid size p) [
      | true ↦ λ t e. (
          let same : part_of_slot at s ≡ p = cc in
          let none : at ≡ at + 0 = omega arith in
          record {
            before = [];
            slot = s;
            after = slots;
            all = refl;
            named = are_same s.uuid uuid t;
            part = sym same ∙ ap (λ (n : ℕ). part_of_slot n s) none;
            kept = λ inside. rw t refl;
          })
      | false ↦ λ t e. (
          let r = splits (at + (1 + s.reserved)) slots uuid size p e in
          let far : at + (1 + s.reserved) + sectors_in r.before ≡ at + (1 + s.reserved + sectors_in r.before) = omega arith in
          record {
            before = s ∷ r.before;
            slot = r.slot;
            after = r.after;
            all = ap (λ (l : List Slot). s ∷ l) r.all;
            named = r.named;
            part = r.part ∙ ap (λ (n : ℕ). part_of_slot n r.slot) far;
            kept = λ inside. rw t (ap (λ (l : List Part). part_of_slot at s ∷ l) (r.kept inside));
          })
    ] refl f

-- ---- bytes

take_two : (x y : List ℕ) (n m : ℕ) → length x ≡ n → take (n + m) (x ++ y) ≡ x ++ take m y
take_two [] y n m len = let none : n + m ≡ m = omega (arith, len) in ap (λ (j : ℕ). take j y) none
take_two (a ∷ x) y n m len =
    let one : n + m ≡ suc (length x + m) = omega (arith, len) in
    ap (λ (j : ℕ). take j (a ∷ x ++ y)) one ∙ ap (λ (l : List ℕ). a ∷ l) (take_two x y (length x) m refl)

-- bytes that were put over others inside a window
window : (b g : List ℕ) (a x n : ℕ) → x + length g ≤ n → a + n ≤ length b
    → take n (drop a (over b (a + x) g)) ≡ take x (take n (drop a b)) ++ (g ++ drop (x + length g) (take n (drop a b)))
window b g a x n le room =
    let m : ℕ = length g in
    let rest : ℕ = n - (x + length g) in
    let front : List ℕ = take x (drop a b) in
    let tail : List ℕ = drop (a + x + length g) b in
    let lf : length front ≡ x = omega (arith, length-take x (drop a b), length-drop a b) in
    let shape : over b (a + x) g ≡ take (a + x) b ++ (g ++ tail) = over_shape b g (a + x) (omega (arith, le, room)) in
    let dropped : drop a (take (a + x) b ++ (g ++ tail)) ≡ front ++ (g ++ tail) =
    drop-append-le a (take (a + x) b) (g ++ tail) (omega (arith, length-take (a + x) b, le, room)) ∙ ap (λ (l : List ℕ). l ++ (g ++ tail)) (drop-take a x b) in
    let count : n ≡ x + (length g + rest) = omega (arith, le) in
    let left : take n (front ++ (g ++ tail)) ≡ front ++ (g ++ take rest tail) =
    ap (λ (j : ℕ). take j (front ++ (g ++ tail))) count ∙ take_two front (g ++ tail) x (length g + rest) lf ∙ ap (λ (l : List ℕ). front ++ l) (take_two g tail (length g) rest refl) in
    let first : take x (take n (drop a b)) ≡ front = take-take x n (drop a b) (omega (arith, le)) in
    let cut : n ≡ (x + length g) + rest = omega (arith, le) in
    let swap : (x + length g) + a ≡ a + x + length g = omega arith in
    let last : drop (x + length g) (take n (drop a b)) ≡ take rest tail =
    ap (λ (j : ℕ). drop (x + length g) (take j (drop a b))) cut ∙ drop-take (x + length g) rest (drop a b)
    ∙ ap (take rest) (drop-drop (x + length g) a b ∙ ap (λ (j : ℕ). drop j b) (omega arith)) in
    ap (λ (l : List ℕ). take n (drop a l)) shape ∙ ap (take n) dropped ∙ left ∙ sym (λ i. first i ++ (g ++ last i))

-- a slot's header and the front of its sectors were put over
slot_over : (front head old body inside more : List ℕ) (x c : ℕ) → length front ≡ x → length head ≡ 512 → length old ≡ 512 → length body ≡ c → c ≤ length inside
    → take x (front ++ ((old ++ inside) ++ more)) ++ ((head ++ body) ++ drop (x + length (head ++ body)) (front ++ ((old ++ inside) ++ more)))
    ≡ front ++ ((head ++ (body ++ drop c inside)) ++ more)
slot_over front head old body inside more x c lf lh lo lb le =
    let far : x + length (head ++ body) ≡ x + (512 + c) = omega (arith, length-append head body, lh, lb) in
    let first : take x (front ++ ((old ++ inside) ++ more)) ≡ front = take_at front ((old ++ inside) ++ more) x lf in
    let behind : drop x (front ++ ((old ++ inside) ++ more)) ≡ (old ++ inside) ++ more = drop_at front ((old ++ inside) ++ more) x lf in
    let second : drop 512 ((old ++ inside) ++ more) ≡ inside ++ more = ap (drop 512) (append_assoc old inside more) ∙ drop_at old (inside ++ more) 512 lo in
    let third : drop c (inside ++ more) ≡ drop c inside ++ more = drop-append-le c inside more le in
    let last : drop (x + length (head ++ body)) (front ++ ((old ++ inside) ++ more)) ≡ drop c inside ++ more =
    ap (λ (j : ℕ). drop j (front ++ ((old ++ inside) ++ more))) far ∙ sym (drop-drop (512 + c) x (front ++ ((old ++ inside) ++ more))) ∙ ap (drop (512 + c)) behind
    ∙ sym (drop-drop c 512 ((old ++ inside) ++ more)) ∙ ap (drop c) second ∙ third in
    (λ i. first i ++ ((head ++ body) ++ last i)) ∙ simp append_assoc

-- ---- the image

spell : (salt : List ℕ) (before after : List Slot) (s : Slot) (rest : List ℕ)
    → disk_header salt ++ (flat_map slot_bytes (before ++ s ∷ after) ++ rest) ≡ (disk_header salt ++ flat_map slot_bytes before) ++ (slot_bytes s ++ (flat_map slot_bytes after ++ rest))
spell salt before after s rest =
    ap (λ (l : List ℕ). disk_header salt ++ (l ++ rest)) (flat_map-append slot_bytes before (s ∷ after))
    ∙ ap (λ (l : List ℕ). disk_header salt ++ l) (append_assoc (flat_map slot_bytes before) (slot_bytes s ++ flat_map slot_bytes after) rest
    ∙ ap (λ (l : List ℕ). flat_map slot_bytes before ++ l) (append_assoc (slot_bytes s) (flat_map slot_bytes after) rest))
    ∙ sym (append_assoc (disk_header salt) (flat_map slot_bytes before) (slot_bytes s ++ (flat_map slot_bytes after ++ rest)))

module _ (o : Opening) (slots : List Slot) (secret uuid nonce text : List ℕ) (h : Held) (new : Option Held) (salt_len : length o.salt ≡ 64) (nonce_len : length nonce ≡ 12) (holds : HoldsImage h o slots)
    (put : HasPut (image_of o slots) secret uuid nonce text h new) where
  there : (find_part (parts_from 1 slots) uuid ≡ Some put.part) × (is_large (length text) put.part ≡ false)
  there = fits_found (parts_from 1 slots) uuid (length text) put.part put.fits

  split : IsSplit 1 slots uuid (28 + length text) put.part
  split = splits 1 slots uuid (28 + length text) put.part there.0

  before : List Slot
  before = split.before

  after : List Slot
  after = split.after

  slot : Slot
  slot = split.slot

  all_is : slots ≡ before ++ slot ∷ after
  unfolding before slot after
  all_is = split.all

  each : AllByRecursion IsSlot (before ++ slot ∷ after)
  each = subst (λ (l : List Slot). AllByRecursion IsSlot l) all_is holds.image.each

  is : IsSlot slot
  is = all_at IsSlot before after slot each

  named : slot.uuid ≡ uuid
  unfolding slot
  named = split.named

  reserved_is : put.part.reserved ≡ slot.reserved
  unfolding slot
  reserved_is = ap (λ (q : Part). q.reserved) split.part

  sector_is : put.part.sector ≡ 1 + sectors_in before
  unfolding before
  sector_is = ap (λ (q : Part). q.sector) split.part

  large : IsPayloadSize (28 + length text) put.part.reserved
  large = large_not (length text) put.part there.1

  uuid_len : length uuid ≡ 16
  uuid_len = ap length (sym named) ∙ is.uuid_len

  body : List ℕ
  body = sealed_of o.salt secret (sealing_of put.part uuid nonce text) ++ zeros (512 * sectors_of (28 + length text) - (28 + length text))

  head : List ℕ
  head = header_of uuid (28 + length text) put.part.reserved

  given_is : record_bytes o.salt secret (sealing_of put.part uuid nonce text) ≡ head ++ body
  unfolding head body
  given_is = refl

  given_len : length (head ++ body) ≡ 512 * (1 + sectors_of (28 + length text))
  given_len = ap length (sym given_is) ∙ record_len o.salt secret uuid nonce text put.part uuid_len nonce_len (few_of (length text) put.part there.1)

  head_len : length head ≡ 512
  unfolding head
  head_len = length-header uuid (28 + length text) put.part.reserved uuid_len

  body_len : length body ≡ 512 * sectors_of (28 + length text)
  body_len = omega (arith, given_len, length-append head body, head_len)

  fits_in_slot : sectors_of (28 + length text) ≤ slot.reserved
  fits_in_slot = let few = sectors_few (28 + length text) put.part.reserved large.room in omega (arith, few, reserved_is)

  fresh : Slot
  fresh = record slot { size = 28 + length text; inside = body ++ drop (512 * sectors_of (28 + length text)) slot.inside }

  fresh_is : IsSlot fresh
  unfolding fresh
  fresh_is = record {
    uuid_len = is.uuid_len;
    named = is.named;
    reserved = is.reserved;
    payload = inr (subst (λ (r : ℕ). IsPayloadSize (28 + length text) r) reserved_is large);
    inside_len = length-append body (drop (512 * sectors_of (28 + length text)) slot.inside)
        ∙ omega (arith, body_len, length-drop (512 * sectors_of (28 + length text)) slot.inside, is.inside_len, fits_in_slot);
  }

  front : List ℕ
  front = disk_header o.salt ++ flat_map slot_bytes before

  front_len : length front ≡ 512 * put.part.sector
  unfolding front
  front_len =
      length-append (disk_header o.salt) (flat_map slot_bytes before)
      ∙ omega (arith, length-disk o.salt salt_len, length_before before (all_before IsSlot before (slot ∷ after) each), sector_is)

  more : List ℕ
  more = flat_map slot_bytes after ++ holds.image.rest

  disk_is : holds.disk ≡ put.disk
  disk_is = let e : Some holds.disk ≡ Some put.disk = sym holds.is ∙ put.is in cc

  image : List ℕ
  image = take (512 * o.span.sectors) (drop (512 * o.span.first) put.disk.bytes)

  image_is : image ≡ front ++ (slot_bytes slot ++ more)
  unfolding image front more
  image_is =
      ap (λ (d : Disk). take (512 * o.span.sectors) (drop (512 * o.span.first) d.bytes)) (sym disk_is) ∙ holds.image.spelled
      ∙ ap (λ (l : List Slot). disk_header o.salt ++ (flat_map slot_bytes l ++ holds.image.rest)) all_is ∙ spell o.salt before after slot holds.image.rest

  room : 512 * (o.span.first + o.span.sectors) ≤ length put.disk.bytes
  room = let r = holds.room in omega (arith, r, ap (λ (d : Disk). length d.bytes) disk_is)

  image_len : length image ≡ 512 * o.span.sectors
  unfolding image
  image_len = omega (arith, room, length-take (512 * o.span.sectors) (drop (512 * o.span.first) put.disk.bytes), length-drop (512 * o.span.first) put.disk.bytes)

  inside_image : 512 * put.part.sector + length (head ++ body) ≤ 512 * o.span.sectors
  inside_image = omega (arith, given_len, fits_in_slot, ap length image_is, image_len, length-append front (slot_bytes slot ++ more), length-append (slot_bytes slot) more, front_len, length-slot slot is.uuid_len is.inside_len)

  bytes : List ℕ
  bytes = over put.disk.bytes (512 * (o.span.first + put.part.sector)) (record_bytes o.salt secret (sealing_of put.part uuid nonce text))

  place : 512 * (o.span.first + put.part.sector) ≡ 512 * o.span.first + 512 * put.part.sector
  place = omega arith

  bytes_is : bytes ≡ over put.disk.bytes (512 * o.span.first + 512 * put.part.sector) (head ++ body)
  unfolding bytes
  bytes_is = λ i. over put.disk.bytes (place i) (given_is i)

  bytes_len : length bytes ≡ length put.disk.bytes
  bytes_len =
      ap length bytes_is ∙ over_long put.disk.bytes (head ++ body) (512 * o.span.first + 512 * put.part.sector) (omega (arith, inside_image, room))

  fresh_bytes : slot_bytes fresh ≡ head ++ (body ++ drop (512 * sectors_of (28 + length text)) slot.inside)
  unfolding fresh slot_bytes head
  fresh_bytes = λ i. header_of (named i) (28 + length text) (sym reserved_is i) ++ (body ++ drop (512 * sectors_of (28 + length text)) slot.inside)

  slot_is : slot_bytes slot ≡ header_of slot.uuid slot.size slot.reserved ++ slot.inside
  unfolding slot_bytes
  slot_is = refl

  new_image : take (512 * o.span.sectors) (drop (512 * o.span.first) bytes) ≡ disk_header o.salt ++ (flat_map slot_bytes (before ++ fresh ∷ after) ++ holds.image.rest)
  unfolding image front more
  new_image =
      let old : List ℕ = header_of slot.uuid slot.size slot.reserved in
      let c : ℕ = 512 * sectors_of (28 + length text) in
      let shape : image ≡ front ++ ((old ++ slot.inside) ++ more) = image_is ∙ ap (λ (l : List ℕ). front ++ (l ++ more)) slot_is in
      ap (λ (l : List ℕ). take (512 * o.span.sectors) (drop (512 * o.span.first) l)) bytes_is
      ∙ window put.disk.bytes (head ++ body) (512 * o.span.first) (512 * put.part.sector) (512 * o.span.sectors) inside_image (omega (arith, room))
      ∙ (λ i. take (512 * put.part.sector) (shape i) ++ ((head ++ body) ++ drop (512 * put.part.sector + length (head ++ body)) (shape i)))
      ∙ slot_over front head old body slot.inside more (512 * put.part.sector) c front_len head_len (length-header slot.uuid slot.size slot.reserved is.uuid_len) body_len (omega (arith, is.inside_len, fits_in_slot))
      ∙ ap (λ (l : List ℕ). front ++ (l ++ more)) (sym fresh_bytes) ∙ sym (spell o.salt before after fresh holds.image.rest)

  swapped : IsImage o.span.sectors o.salt (before ++ fresh ∷ after) (take (512 * o.span.sectors) (drop (512 * o.span.first) bytes))
  unfolding fresh
  swapped = record {
    rest = holds.image.rest;
    spelled = new_image;
    len = omega (arith, room, bytes_len, length-take (512 * o.span.sectors) (drop (512 * o.span.first) bytes), length-drop (512 * o.span.first) bytes);
    few = omega (arith, holds.image.few, ap length all_is, length-append before (slot ∷ after), length-append before (fresh ∷ after));
    each = all_swap IsSlot before after slot fresh (λ old. fresh_is) each;
    apart = apart_swap before after slot fresh refl (subst AreApart all_is holds.image.apart);
    ends = holds.image.ends;
  }

  parts_are : keep_size (parts_from 1 slots) uuid (28 + length text) ≡ parts_from 1 (before ++ fresh ∷ after)
  unfolding fresh before slot after
  parts_are = split.kept (body ++ drop (512 * sectors_of (28 + length text)) split.slot.inside)

  still : HoldsImageStill o slots uuid text new
  unfolding bytes
  still = record {
    held = record h { disk = update nat_eq h.disk o.disk (Some (record put.disk { bytes = bytes })) };
    held_is = put.new_is;
    after = before ++ fresh ∷ after;
    holds = record {
      disk = record put.disk { bytes = bytes };
      is = update_here h.disk o.disk (Some (record put.disk { bytes = bytes }));
      room = omega (arith, room, bytes_len);
      image = swapped;
    };
    is = ap (λ (l : List Part). let k : Kept = record { disk = o.disk; first = o.span.first; salt = o.salt; parts = l } in k) (sym parts_are);
  }

pub images_kept : PutsKeepImages
images_kept o slots secret uuid nonce text h new salt_len nonce_len holds put = still o slots secret uuid nonce text h new salt_len nonce_len holds put.changed

-- ---- what may be written

over_least : (old given : List ℕ) (at : ℕ) → length old ≤ length (over old at given)
over_least old given at = simp (length-append, length-replicate, length-take, length-drop) (omega arith)

same_held : (a b : Held) → Some a ≡ Some b → a ≡ b
same_held a b e = cc

pub writable_kept : PutsKeepWritable
writable_kept k secret uuid nonce text h held q put may =
    let c = put.changed in
    let same : held ≡ record h { disk = update nat_eq h.disk k.disk (Some (record c.disk { bytes = over c.disk.bytes (512 * (k.first + c.part.sector)) (record_bytes k.salt secret (sealing_of c.part uuid nonce text)) })) } = same_held held _ c.new_is in
    let disk_is : may.disk ≡ c.disk = (let e : Some may.disk ≡ Some c.disk = sym may.is ∙ c.is in cc) in
    let bytes : List ℕ = over c.disk.bytes (512 * (k.first + c.part.sector)) (record_bytes k.salt secret (sealing_of c.part uuid nonce text)) in
    subst (λ (x : Held). MayBeWritten x (put_image k uuid text) q) (sym same) (record {
      disk = record c.disk { bytes = bytes };
      is = update_here h.disk k.disk (Some (record c.disk { bytes = bytes }));
      room = omega (arith, may.room, ap (λ (d : Disk). length d.bytes) disk_is, over_least c.disk.bytes (record_bytes k.salt secret (sealing_of c.part uuid nonce text)) (512 * (k.first + c.part.sector)));
      writable = λ at low high. sym (ap (λ (d : Disk). d.writable at) disk_is) ∙ may.writable at low high;
    })
