-- What opens is an image that is held.
use Rattle.std.proofs.Common.{◌≡◌, ◌≢◌, ℕ, ◌+◌, ◌*◌, ◌<◌, ◌≤◌, ◌^◌, Bool, true, false, List, [], ◌∷◌, ◌++◌, length, get_or, take, drop, Option, Some, None, Result, Ok, Err, refl, ap, sym, ◌∙◌, subst, arith, inl, inr, append_assoc, append-nil}
use Rattle.std.specs.Prelude.{◌⊎◌, ◌==◌, nat_lt, not, if◌then◌else◌}
use Rattle.std.specs.Int.{w16, w32, w64, to_le_bytes}
use Rattle.std.specs.List.{AllByRecursion, flat_map}
use Rattle.std.specs.Str.{bytes_eq}
use Rattle.std.proofs.lemmas.Bool.{ltb-false, eqb-true, eqb-false, cases_lt}
use Rattle.std.proofs.lemmas.Grind.{flat_map-append}
use Rattle.std.proofs.lemmas.List.{length-append, length-take, length-drop, drop-drop, drop_all, take-append-drop, get_or_past, take-take}
use Rattle.std.proofs.lemmas.List.Elements.{All-get_or, All-take, All-drop}
use Rattle.std.proofs.lemmas.Nat.{le_bytes_2, le_bytes_4, le_bytes_8}
use Rattle.host_traits.specs.declared.calls.Call.{Call}
use Rattle.host_traits.specs.declared.calls.Said.{Said}
use Rattle.host_traits.specs.declared.calls.Said.TheVariants.{Bytes}
use Rattle.host_traits.specs.Held.{Held, Disk, serve}
use Rattle.host_traits.specs.Told.{Told, Calm, Exchanges, heard_of, failures_of}
use Rattle.instance_image.specs.declared.faults.ImageFault.{ImageFault}
use Rattle.instance_image.specs.declared.faults.ImageFault.TheVariants.{Short, Magic, Version, NotZero, SaltMismatch, Header, TooMany}
use Rattle.instance_image.specs.declared.values.Part.{Part}
use Rattle.instance_image.specs.Records.{Kept, zeros, part_at, header_of, uuid_in, size_in, reserved_in, find_part, IsPayloadSize}
use Rattle.instance_image.specs.Opening.{Opening, sector_call, must, ◌then◌, magic, version_in, is_zero, disk_fault, Reading, start, is_nil, is_payload_size, is_some, is_header, part_of, header_step, with_part, HeardHeaders, HeardSoFar, IsClosed, IsImageCall, OpenOutcome, kept_of}
use Rattle.instance_image.specs.Grammar.{disk_header, Slot, slot_bytes, IsSlot, IsNew, AreApart, IsEnd, part_of_slot, parts_from}
use Rattle.instance_image.specs.Imaged.{AreBytes, HoldsImage, HoldsSpan, image_of, IsRead, OnlyRead, OpensAs, ImageOpens}
use Rattle.host_traits.specs.Did.{trace_of, Did}
use Rattle.instance_image.proofs.Openings.{payload_good}
use Rattle.instance_image.proofs.Served.{Answers, answers, holds_after, CanServe, reads_keep, no_failure, can_read}
use Rattle.instance_image.proofs.Holding.{read_is, sector_within, serves_split, are_same, same_bytes, sectors_in, parts_more, sectors_more, count_parts, opens}

-- ---- bytes

byte_at : (b : List ℕ) → AreBytes b → (i : ℕ) → get_or b i 0 < 256
byte_at b h i = elim (cases_lt i (length b)) [
  | inl lt ↦ All-get_or (λ (x : ℕ). x < 256) b i 0 lt h
  | inr le ↦ rw (get_or_past b i 0 le) (omega arith)
]

cut_bytes : (at n : ℕ) (b : List ℕ) → AreBytes b → AreBytes (take n (drop at b))
cut_bytes at n b h = All-take (λ (x : ℕ). x < 256) n (drop at b) (All-drop (λ (x : ℕ). x < 256) at b h)

cut_long : (at n : ℕ) (b : List ℕ) → at + n ≤ length b → length (take n (drop at b)) ≡ n
cut_long at n b h = omega (arith, length-take n (drop at b), length-drop at b)

cut : (n m : ℕ) (b : List ℕ) → drop n b ≡ take m (drop n b) ++ drop (n + m) b
cut n m b = sym (take-append-drop m (drop n b)) ∙ ap (λ (y : List ℕ). take m (drop n b) ++ y) (drop-drop m n b)

zero_list : (b : List ℕ) → is_zero b ≡ true → b ≡ zeros (length b)
unfolding is_zero
zero_list [] e = refl
zero_list (x ∷ b) e =
    elim (x == 0) as (λ v. (x == 0) ≡ v → (if v then is_zero b else false) ≡ true → x ∷ b ≡ zeros (length (x ∷ b))) [
      | true ↦ λ t e. (let none : x ≡ 0 = eqb-true x 0 t in λ i. none i ∷ zero_list b e i)
      | false ↦ λ t e. absurd cc
    ] refl e

-- ---- the first sector

fault_none : (whole m v z s : Bool) (len version : ℕ) → (must whole (Short 512 len) then must m Magic then must v (Version version) then must z (NotZero 0) then must s SaltMismatch) ≡ None
    → (whole ≡ true) × (m ≡ true) × (v ≡ true) × (z ≡ true) × (s ≡ true)
fault_none true true true true true len version e = (refl, refl, refl, refl, refl)
fault_none false m v z s len version e = absurd cc
fault_none true false v z s len version e = absurd cc
fault_none true true false z s len version e = absurd cc
fault_none true true true false s len version e = absurd cc
fault_none true true true true false len version e = absurd cc

record KeepsDisk (salt b : List ℕ) : Type 0 where
  front : take 20 b ≡ magic
  version : version_in b ≡ 1
  zero : is_zero (drop 86 b) ≡ true
  salt_is : part_at 22 64 b ≡ salt

keeps_disk : (salt b : List ℕ) → disk_fault salt b ≡ None → KeepsDisk salt b
unfolding disk_fault
keeps_disk salt b e =
    let f = fault_none (not (nat_lt (length b) 512)) (bytes_eq (take 20 b) magic) (version_in b == 1) (is_zero (drop 86 b)) (bytes_eq (part_at 22 64 b) salt) (length b) (version_in b) e in
    record { front = are_same (take 20 b) magic f.1; version = eqb-true (version_in b) 1 f.2; zero = f.3; salt_is = are_same (part_at 22 64 b) salt f.4 }

disk_back : (salt b : List ℕ) → length b ≡ 512 → AreBytes b → disk_fault salt b ≡ None → b ≡ disk_header salt
unfolding disk_header
disk_back salt b len fits e =
    let k = keeps_disk salt b e in
    let left : length (drop 86 b) ≡ 426 = omega (arith, length-drop 86 b, len) in
    let tail : drop 86 b ≡ zeros 426 = zero_list (drop 86 b) k.zero ∙ ap zeros left in
    let version : part_at 20 2 b ≡ to_le_bytes w16 1 = sym (le_bytes_2 (part_at 20 2 b) 1 (cut_long 20 2 b (omega (arith, len))) (byte_at (part_at 20 2 b) (cut_bytes 20 2 b fits)) (sym k.version)) in
    let c0 : b ≡ take 20 b ++ drop 20 b = sym (take-append-drop 20 b) in
    c0 ∙ (λ i. k.front i ++ cut 20 2 b i) ∙ (λ i. magic ++ (version i ++ cut 22 64 b i)) ∙ (λ i. magic ++ (to_le_bytes w16 1 ++ (k.salt_is i ++ tail i)))

-- ---- a header

step_all : (few nil blank long sized listed many : Bool) (len at : ℕ) (p q : Part)
    → ◌≡◌ {A = Result (Option Part) ImageFault} (if few then Err (Short 512 len) else (if nil then Ok None else (if not (if not blank then false else (if long then false else (if not sized then false else not listed))) then Err (Header at) else (if many then Err (TooMany at) else Ok (Some p))))) (Ok (Some q))
    → (few ≡ false) × (nil ≡ false) × (blank ≡ true) × (long ≡ false) × (sized ≡ true) × (listed ≡ false) × (many ≡ false) × (p ≡ q)
step_all true nil blank long sized listed many len at p q e = absurd cc
step_all false true blank long sized listed many len at p q e = absurd cc
step_all false false false long sized listed many len at p q e = absurd cc
step_all false false true true sized listed many len at p q e = absurd cc
step_all false false true false false listed many len at p q e = absurd cc
step_all false false true false true true many len at p q e = absurd cc
step_all false false true false true false true len at p q e = absurd cc
step_all false false true false true false false len at p q e = (refl, refl, refl, refl, refl, refl, refl, cc)

step_nil : (few nil good many : Bool) (len at : ℕ) (p : Part)
    → ◌≡◌ {A = Result (Option Part) ImageFault} (if few then Err (Short 512 len) else (if nil then Ok None else (if not good then Err (Header at) else (if many then Err (TooMany at) else Ok (Some p))))) (Ok None)
    → (few ≡ false) × (nil ≡ true)
step_nil true nil good many len at p e = absurd cc
step_nil false true good many len at p e = (refl, refl)
step_nil false false false many len at p e = absurd cc
step_nil false false true true len at p e = absurd cc
step_nil false false true false len at p e = absurd cc

listed_none : (o : Option Part) → is_some o ≡ false → o ≡ None
listed_none None e = refl
listed_none (Some p) e = absurd cc

record KeepsHeader (sectors : ℕ) (r : Reading) (b : List ℕ) (p : Part) : Type 0 where
  whole : 512 ≤ length b
  named : uuid_in b ≢ zeros 16
  zero : is_zero (drop 28 b) ≡ true
  end : r.next + (1 + reserved_in b) ≤ sectors
  payload : (size_in b ≡ 0) ⊎ IsPayloadSize (size_in b) (reserved_in b)
  new : find_part r.parts (uuid_in b) ≡ None
  count : length r.parts ≡ 256 → ⊥
  part_is : part_of r.next b ≡ p

keeps_header : (sectors : ℕ) (r : Reading) (b : List ℕ) (p : Part) → header_step sectors r b ≡ Ok (Some p) → KeepsHeader sectors r b p
unfolding header_step
keeps_header sectors r b p e =
    let s = step_all (nat_lt (length b) 512) (is_nil (uuid_in b)) (is_zero (drop 28 b)) (nat_lt sectors (r.next + (1 + reserved_in b))) (is_payload_size (size_in b) (reserved_in b)) (is_some (find_part r.parts (uuid_in b)))
    (length r.parts == 256) (length b) r.next (part_of r.next b) p e in
    record {
      whole = ltb-false (length b) 512 s.0;
      named = λ same. true_false (sym (same_bytes (uuid_in b) (zeros 16) same) ∙ s.1);
      zero = s.2;
      end = ltb-false sectors (r.next + (1 + reserved_in b)) s.3;
      payload = payload_good (size_in b) (reserved_in b) (size_in b == 0) refl s.4;
      new = listed_none (find_part r.parts (uuid_in b)) s.5;
      count = eqb-false (length r.parts) 256 s.6;
      part_is = s.7;
    } where
      true_false : true ≡ false → ⊥
      true_false e = cc

closing : (sectors : ℕ) (r : Reading) (b : List ℕ) → header_step sectors r b ≡ Ok None → (512 ≤ length b) × (uuid_in b ≡ zeros 16)
unfolding header_step
closing sectors r b e =
    let s = step_nil (nat_lt (length b) 512) (is_nil (uuid_in b)) (is_header sectors r b) (length r.parts == 256) (length b) r.next (part_of r.next b) e in
    (ltb-false (length b) 512 s.0, are_same (uuid_in b) (zeros 16) s.1)

header_back : (b : List ℕ) → length b ≡ 512 → AreBytes b → is_zero (drop 28 b) ≡ true → b ≡ header_of (uuid_in b) (size_in b) (reserved_in b)
unfolding header_of
header_back b len fits blank =
    let left : length (drop 28 b) ≡ 484 = omega (arith, length-drop 28 b, len) in
    let tail : drop 28 b ≡ zeros 484 = zero_list (drop 28 b) blank ∙ ap zeros left in
    let size : part_at 16 8 b ≡ to_le_bytes w64 (size_in b) = sym (le_bytes_8 (part_at 16 8 b) (size_in b) (cut_long 16 8 b (omega (arith, len))) (byte_at (part_at 16 8 b) (cut_bytes 16 8 b fits)) refl) in
    let res : part_at 24 4 b ≡ to_le_bytes w32 (reserved_in b) = sym (le_bytes_4 (part_at 24 4 b) (reserved_in b) (cut_long 24 4 b (omega (arith, len))) (byte_at (part_at 24 4 b) (cut_bytes 24 4 b fits)) refl) in
    sym (take-append-drop 16 b) ∙ (λ i. take 16 b ++ cut 16 8 b i) ∙ (λ i. take 16 b ++ (size i ++ cut 24 4 b i)) ∙ (λ i. take 16 b ++ (to_le_bytes w64 (size_in b) ++ (res i ++ tail i)))

reserved_small : (b : List ℕ) → AreBytes b → reserved_in b < 2 ^ 32
reserved_small b fits = let f = byte_at (part_at 24 4 b) (cut_bytes 24 4 b fits) in omega (arith, f 0, f 1, f 2, f 3)

-- ---- slots that are apart

new_more : (u : List ℕ) (done : List Slot) (s : Slot) → IsNew u done → u ≢ s.uuid → IsNew u (done ++ s ∷ [])
new_more u [] s n d = (d, tt)
new_more u (x ∷ done) s n d = (n.0, new_more u done s n.1 d)

apart_more : (at : ℕ) (done : List Slot) (s : Slot) → AreApart done → find_part (parts_from at done) s.uuid ≡ None → AreApart (done ++ s ∷ [])
unfolding parts_from find_part
apart_more at [] s a f = (tt, tt)
apart_more at (d ∷ done) s a f =
    elim (bytes_eq d.uuid s.uuid) as (λ v. bytes_eq d.uuid s.uuid ≡ v → (if v then Some (part_of_slot at d) else find_part (parts_from (at + (1 + d.reserved)) done) s.uuid) ≡ None → AreApart (d ∷ done ++ s ∷ [])) [
      | true ↦ λ t e. absurd (some_none (part_of_slot at d) e)
      | false ↦ λ t e. (new_more d.uuid done s a.0 (λ same. true_false (sym (same_bytes d.uuid s.uuid same) ∙ t)), apart_more (at + (1 + d.reserved)) done s a.1 e)
    ] refl f where
      true_false : true ≡ false → ⊥
      true_false e = cc

      some_none : (p : Part) → Some p ≡ None → ⊥
      some_none p e = cc

each_more : (done : List Slot) (s : Slot) → AllByRecursion IsSlot done → IsSlot s → AllByRecursion IsSlot (done ++ s ∷ [])
each_more [] s a h = (h, tt)
each_more (d ∷ done) s a h = (a.0, each_more done s a.1 h)

-- ---- the list

module _ (o : Opening) (h : Held) (image : List ℕ) (some : 1 ≤ o.span.sectors) (salt_len : length o.salt ≡ 64) (holds : HoldsSpan h o image) (fits : AreBytes image) where
  image_len : length image ≡ 512 * o.span.sectors
  image_len =
      let room = holds.room in
      ap length holds.bytes_is ∙ omega (arith, length-take (512 * o.span.sectors) (drop (512 * o.span.first) holds.disk.bytes), length-drop (512 * o.span.first) holds.disk.bytes)

  heard_is : (at : ℕ) (given bytes : List ℕ) (k : Held) → at < o.span.sectors → serve h (sector_call o at) given ≡ Some (Bytes bytes, k) → (bytes ≡ take 512 (drop (512 * at) image)) × (k ≡ h)
  heard_is at given bytes k lt e =
      let r = read_is h o.disk (o.span.first + at) given holds.disk bytes k holds.is e in
      (r.0 ∙ sector_within holds.disk.bytes o.span.first o.span.sectors at lt ∙ ap (λ (l : List ℕ). take 512 (drop (512 * at) l)) (sym holds.bytes_is), r.1)

  -- these slots were read
  record IsFound (r : Reading) (done : List Slot) : Type 0 where
    spelled : image ≡ disk_header o.salt ++ (flat_map slot_bytes done ++ drop (512 * r.next) image)
    parts : r.parts ≡ parts_from 1 done
    next : r.next ≡ 1 + sectors_in done
    inside : r.next ≤ o.span.sectors
    each : AllByRecursion IsSlot done
    apart : AreApart done
    few : length done ≤ 256

  begins : (head : List ℕ) → head ≡ take 512 (drop (512 * 0) image) → disk_fault o.salt head ≡ None → IsFound start []
  unfolding parts_from sectors_in
  begins head is good =
      let first : head ≡ take 512 image = is in
      let len : length head ≡ 512 = ap length first ∙ omega (arith, length-take 512 image, image_len) in
      let bytes : AreBytes head = subst AreBytes (sym first) (All-take (λ (x : ℕ). x < 256) 512 image fits) in
      let back : take 512 image ≡ disk_header o.salt = sym first ∙ disk_back o.salt head len bytes good in
      record {
        spelled = sym (take-append-drop 512 image) ∙ (λ i. back i ++ drop 512 image);
        parts = refl;
        next = refl;
        inside = some;
        each = tt;
        apart = tt;
        few = omega arith;
      }

  module _ (r : Reading) (done : List Slot) (at : IsFound r done) (p : Part) (lt : r.next < o.span.sectors) (step : header_step o.span.sectors r (take 512 (drop (512 * r.next) image)) ≡ Ok (Some p)) where
    header : List ℕ
    header = take 512 (drop (512 * r.next) image)

    keeps : KeepsHeader o.span.sectors r header p
    unfolding header
    keeps = keeps_header o.span.sectors r (take 512 (drop (512 * r.next) image)) p step

    long : length header ≡ 512
    unfolding header
    long = cut_long (512 * r.next) 512 image (omega (arith, image_len, lt))

    bytes : AreBytes header
    unfolding header
    bytes = cut_bytes (512 * r.next) 512 image fits

    inside : List ℕ
    inside = take (512 * reserved_in header) (drop (512 * r.next + 512) image)

    slot : Slot
    slot = record { uuid = uuid_in header; reserved = reserved_in header; size = size_in header; inside = inside }

    is_slot : IsSlot slot
    unfolding slot inside
    is_slot = record {
      uuid_len = omega (arith, length-take 16 header, long);
      named = keeps.named;
      reserved = reserved_small header bytes;
      payload = keeps.payload;
      inside_len = cut_long (512 * r.next + 512) (512 * reserved_in header) image (omega (arith, image_len, keeps.end));
    }

    slot_is : slot_bytes slot ≡ header ++ inside
    unfolding slot slot_bytes
    slot_is = ap (λ (l : List ℕ). l ++ inside) (sym (header_back header long bytes keeps.zero))

    split : drop (512 * r.next) image ≡ slot_bytes slot ++ drop (512 * (r.next + (1 + reserved_in header))) image
    unfolding header inside
    split =
        let n : ℕ = reserved_in header in
        let far : 512 * r.next + 512 + 512 * n ≡ 512 * (r.next + (1 + n)) = omega arith in
        cut (512 * r.next) 512 image ∙ (λ i. header ++ cut (512 * r.next + 512) (512 * n) image i) ∙ sym (append_assoc header inside (drop (512 * r.next + 512 + 512 * n) image))
        ∙ (λ i. sym slot_is i ++ drop (far i) image)

    goes_on : IsFound (with_part r p) (done ++ slot ∷ [])
    unfolding slot
    goes_on =
        let reserved : reserved_in header ≡ p.reserved = ap (λ (q : Part). q.reserved) keeps.part_is in
        let next : ℕ = r.next + (1 + reserved_in header) in
        let part : p ≡ part_of_slot r.next slot = sym keeps.part_is in
        let rest : List ℕ = drop (512 * next) image in
        let same : flat_map slot_bytes (done ++ slot ∷ []) ≡ flat_map slot_bytes done ++ slot_bytes slot = flat_map-append slot_bytes done (slot ∷ []) ∙ ap (λ (l : List ℕ). flat_map slot_bytes done ++ l) (append-nil (slot_bytes slot)) in
        let whole : image ≡ disk_header o.salt ++ (flat_map slot_bytes (done ++ slot ∷ []) ++ rest) =
        at.spelled ∙ ap (λ (l : List ℕ). disk_header o.salt ++ (flat_map slot_bytes done ++ l)) split
        ∙ ap (λ (l : List ℕ). disk_header o.salt ++ l) (sym (append_assoc (flat_map slot_bytes done) (slot_bytes slot) rest) ∙ ap (λ (l : List ℕ). l ++ rest) (sym same)) in
        record {
          spelled = whole ∙ ap (λ (n : ℕ). disk_header o.salt ++ (flat_map slot_bytes (done ++ slot ∷ []) ++ drop (512 * (r.next + (1 + n))) image)) reserved;
          parts = (λ i. at.parts i ++ part i ∷ []) ∙ ap (λ (n : ℕ). parts_from 1 done ++ part_of_slot n slot ∷ []) at.next ∙ sym (parts_more 1 done slot);
          next = omega (arith, at.next, sectors_more done slot, reserved);
          inside = omega (arith, keeps.end, reserved);
          each = each_more done slot at.each is_slot;
          apart = apart_more 1 done slot at.apart (ap (λ (l : List Part). find_part l (uuid_in header)) (sym at.parts) ∙ keeps.new);
          few = omega (arith, length-append done (slot ∷ []), at.few, keeps.count, ap length at.parts, count_parts 1 done);
        }

  record HasFound (r : Reading) : Type 0 where
    done : List Slot
    at : IsFound r done

  walks : (r new : Reading) (own : Exchanges) (after : Held) → HeardHeaders o r own new → Answers h own after → HasFound r → HasFound new × (after ≡ h)
  walks r new [] after heard serves d = (subst HasFound (sym heard) d, serves)
  walks r new (x ∷ own) after heard serves d =
      let called : serve h (sector_call o r.next) serves.0 ≡ Some (Bytes heard.0, serves.1) = subst (λ (y : Call × Said). serve h y.0 serves.0 ≡ Some (y.1, serves.1)) heard.3 serves.2 in
      let is = heard_is r.next serves.0 heard.0 serves.1 heard.2 called in
      let step = ap (header_step o.span.sectors r) (sym is.0) ∙ heard.4 in
      walks (with_part r heard.1) new own after heard.5 (subst (λ (k : Held). Answers k own after) is.1 serves.3)
      (record { done = d.done ++ slot r d.done d.at heard.1 heard.2 step ∷ []; at = goes_on r d.done d.at heard.1 heard.2 step })

  so_far : (own : Exchanges) (r : Reading) (after : Held) → HeardSoFar o own r → Answers h own after → HasFound r × (after ≡ h)
  so_far own r after s serves =
      let called = subst (λ (x : Exchanges). Answers h x after) s.own_is serves in
      let f = heard_is 0 called.0 s.head called.1 some called.2 in
      walks start r s.headers after s.each (subst (λ (k : Held). Answers k s.headers after) f.1 called.3) (record { done = []; at = begins s.head f.0 s.good })

  ended : (r : Reading) (done : List Slot) → IsFound r done → IsEnd (drop (512 * r.next) image) → IsRead o image (kept_of o r)
  ended r done at end = record {
    slots = done;
    image = record { rest = drop (512 * r.next) image; spelled = at.spelled; len = image_len; few = at.few; each = at.each; apart = at.apart; ends = end };
    is = ap (λ (l : List Part). let k : Kept = record { disk = o.disk; first = o.span.first; salt = o.salt; parts = l } in k) at.parts;
  }

  closed : (own : Exchanges) (r : Reading) (after : Held) → Answers h own after → IsClosed o own r → IsRead o image (kept_of o r)
  closed own r after serves (inl e) =
      let s = so_far own r after e.0 serves in
      ended r s.0.done s.0.at (inl (drop_all (512 * r.next) image (omega (arith, image_len, e.1))))
  closed own r after serves (inr n) =
      let split = serves_split n.before ((sector_call o r.next, Bytes n.bytes) ∷ []) h after (subst (λ (x : Exchanges). Answers h x after) n.own_is serves) in
      let s = so_far n.before r split.0 n.so_far split.1 in
      let last = subst (λ (k : Held). Answers k ((sector_call o r.next, Bytes n.bytes) ∷ []) after) s.1 split.2 in
      let is = heard_is r.next last.0 n.bytes last.1 n.inside last.2 in
      let c = closing o.span.sectors r (take 512 (drop (512 * r.next) image)) (ap (header_step o.span.sectors r) (sym is.0) ∙ n.is) in
      let left : List ℕ = drop (512 * r.next) image in
      ended r s.0.done s.0.at (inr (omega (arith, length-take 512 left, c.0), sym (take-take 16 512 left (omega arith)) ∙ c.1))

-- ---- opening, over what is held

-- each sector of the image can be read
can_ask : (o : Opening) (h : Held) (d : Disk) → h.disk o.disk ≡ Some d → 512 * (o.span.first + o.span.sectors) ≤ length d.bytes → (call : Call) → IsImageCall o call → CanServe h call
can_ask o h d is room call c = subst (λ z. CanServe h z) (sym c.call_is) (can_read h o.disk (o.span.first + c.at) 1 d is (omega (arith, room, c.inside)))

pub image_right : (o : Opening) (a b : Told) (r : Result Kept ImageFault) → 1 ≤ o.span.sectors → length o.salt ≡ 64 → Did (IsImageCall o) 258 a b (OpenOutcome o r) → ImageOpens o a b r
image_right o a b r some salt_len d = record { right = right; found = found_in } where
  right : (h : Held) (slots : List Slot) → Calm a b → a.held ≡ Some h → HoldsImage h o slots → (b.held ≡ Some h) × OpensAs (image_of o slots) r
  right h slots calm is holds =
      let after = holds_after h a b d.own is d.talked in
      let can = can_ask o h holds.disk holds.is holds.room in
      let kept = reads_keep (IsImageCall o) a.honest d.own h after.0 can after.2 d.calls in
      let none = no_failure (IsImageCall o) d.own h after.0 a b d.talked d.calls can after.2 calm in
      (after.1 ∙ ap Some kept, opens o slots h salt_len holds (trace_of (heard_of d.own) (failures_of d.own) a b) after.0 (answers a.honest d.own h after.0 after.2) none r d.outcome)

  read : (h : Held) (image : List ℕ) → HoldsSpan h o image → AreBytes image → (after : Held) → Answers h (heard_of d.own) after → (r : Result Kept ImageFault)
      → OpenOutcome o r (trace_of (heard_of d.own) (failures_of d.own) a b) → OnlyRead o image r
  read h image holds fits after serves (Ok k) opened =
      subst (λ (x : Kept). IsRead o image x) (sym opened.1.is) (closed o h image some salt_len holds fits (heard_of d.own) opened.1.reading after serves opened.1.closed)
  read h image holds fits after serves (Err why) opened = tt

  found_in : (h : Held) (image : List ℕ) → a.held ≡ Some h → HoldsSpan h o image → AreBytes image → (b.held ≡ Some h) × OnlyRead o image r
  found_in h image is holds fits =
      let after = holds_after h a b d.own is d.talked in
      let can = can_ask o h holds.disk holds.is holds.room in
      let kept = reads_keep (IsImageCall o) a.honest d.own h after.0 can after.2 d.calls in
      (after.1 ∙ ap Some kept, read h image holds fits after.0 (answers a.honest d.own h after.0 after.2) r d.outcome)
