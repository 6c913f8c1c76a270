-- A header's bytes give its fields, and its fields give the bytes.
use Rattle.std.proofs.Common.{◌≡◌, ℕ, ◌+◌, List, ◌++◌, All, length, take, drop, refl, sym, ap, ◌∙◌, arith}
use Rattle.std.proofs.lemmas.List.{take_at, drop_at, drop-drop, drop_all, length-append}
use Rattle.std.proofs.lemmas.Nat.{from_le_bytes-to_le_bytes_4, from_le_bytes-to_le_bytes_8}
use Rattle.std.specs.Int.{w32, w64, from_le_bytes}
use Rattle.guid_crc.specs.Guids.{disk_form, Guid}
use Rattle.guid_crc.proofs.Spelled.{disk_form-twice}
use Rattle.gpt.specs.declared.header.Header.{Header}
use Rattle.gpt.specs.Fields.{part_at, u32_at, u64_at, guid_at}
use Rattle.gpt.specs.Header.{le32, le64, signature, IsHeader, header_text, header_of, blanked}
use Rattle.gpt.proofs.Pieces.{IsByte, u32_at-fits, u64_at-fits, guid_at-fits, disk_form-length, cut, cut32, cut64, cut_guid}

-- the fields before the disk's GUID and behind it
start : Header → List ℕ
start h =
    signature ++ (le32 h.revision ++ (le32 h.size ++ (le32 h.crc ++ (le32 h.reserved
    ++ (le64 h.own ++ (le64 h.other ++ (le64 h.first_usable ++ le64 h.last_usable)))))))

end : Header → List ℕ
end h = le64 h.array ++ (le32 h.count ++ (le32 h.entry_size ++ le32 h.array_crc))

parts : (h : Header) → header_text h ≡ start h ++ (disk_form h.disk.0 ++ end h)
unfolding header_text start end
parts h = refl

start-length : (h : Header) → length (start h) ≡ 56
unfolding start
start-length h = refl

end-length : (h : Header) → length (end h) ≡ 20
unfolding end
end-length h = refl

pub header_text-length : (h : Header) → IsHeader h → length (header_text h) ≡ 92
header_text-length h fits =
    let disk : List ℕ = disk_form h.disk.0 in
    ap length (parts h)
    ∙ omega (arith, length-append (start h) (disk ++ end h), length-append disk (end h), start-length h, end-length h, disk_form-length h.disk.0 fits.disk.0)

pub blanked-text : (h : Header) → blanked (header_text h) ≡ header_text (record h { crc = 0 })
unfolding header_text
blanked-text h = refl

pub signature-text : (h : Header) → take 8 (header_text h) ≡ signature
unfolding header_text
signature-text h = refl

at56 : (h : Header) → drop 56 (header_text h) ≡ disk_form h.disk.0 ++ end h
at56 h = ap (drop 56) (parts h) ∙ drop_at (start h) (disk_form h.disk.0 ++ end h) 56 (start-length h)

at72 : (h : Header) → IsHeader h → drop 72 (header_text h) ≡ end h
at72 h fits = sym (drop-drop 16 56 (header_text h)) ∙ ap (drop 16) (at56 h) ∙ drop_at (disk_form h.disk.0) (end h) 16 (disk_form-length h.disk.0 fits.disk.0)

later : (h : Header) → IsHeader h → (n m : ℕ) → part_at (72 + n) m (header_text h) ≡ part_at n m (end h)
later h fits n m = ap (take m) (sym (drop-drop n 72 (header_text h)) ∙ ap (drop n) (at72 h fits))

disk_of : (h : Header) → IsHeader h → guid_at 56 (header_text h) ≡ h.disk
disk_of h fits =
    let twice : disk_form (part_at 56 16 (header_text h)) ≡ h.disk.0 =
    ap disk_form (ap (take 16) (at56 h) ∙ take_at (disk_form h.disk.0) (end h) 16 (disk_form-length h.disk.0 fits.disk.0))
    ∙ disk_form-twice h.disk.0 fits.disk.0 in
    ap (λ (b : List ℕ). let g : Guid = record { 0 = b } in g) twice

early32 : (h : Header) → IsHeader h
    → (u32_at 8 (header_text h) ≡ h.revision) × (u32_at 12 (header_text h) ≡ h.size) × (u32_at 16 (header_text h) ≡ h.crc) × (u32_at 20 (header_text h) ≡ h.reserved)
unfolding header_text
early32 h fits = (from_le_bytes-to_le_bytes_4 h.revision fits.revision, from_le_bytes-to_le_bytes_4 h.size fits.size, from_le_bytes-to_le_bytes_4 h.crc fits.crc, from_le_bytes-to_le_bytes_4 h.reserved fits.reserved)

early64 : (h : Header) → IsHeader h
    → (u64_at 24 (header_text h) ≡ h.own) × (u64_at 32 (header_text h) ≡ h.other) × (u64_at 40 (header_text h) ≡ h.first_usable) × (u64_at 48 (header_text h) ≡ h.last_usable)
unfolding header_text
early64 h fits = (from_le_bytes-to_le_bytes_8 h.own fits.own, from_le_bytes-to_le_bytes_8 h.other fits.other, from_le_bytes-to_le_bytes_8 h.first_usable fits.first_usable, from_le_bytes-to_le_bytes_8 h.last_usable fits.last_usable)

at_end : (h : Header) → IsHeader h
    → (u64_at 0 (end h) ≡ h.array) × (u32_at 8 (end h) ≡ h.count) × (u32_at 12 (end h) ≡ h.entry_size) × (u32_at 16 (end h) ≡ h.array_crc)
unfolding end
at_end h fits = (from_le_bytes-to_le_bytes_8 h.array fits.array, from_le_bytes-to_le_bytes_4 h.count fits.count, from_le_bytes-to_le_bytes_4 h.entry_size fits.entry_size, from_le_bytes-to_le_bytes_4 h.array_crc fits.array_crc)

pub header_of-text : (h : Header) → IsHeader h → header_of (header_text h) ≡ h
unfolding header_of
header_of-text h fits =
    let a = early32 h fits in
    let b = early64 h fits in
    let e = at_end h fits in
    let array : u64_at 72 (header_text h) ≡ h.array = ap (from_le_bytes w64) (later h fits 0 8) ∙ e.0 in
    let count : u32_at 80 (header_text h) ≡ h.count = ap (from_le_bytes w32) (later h fits 8 4) ∙ e.1 in
    let entry_size : u32_at 84 (header_text h) ≡ h.entry_size = ap (from_le_bytes w32) (later h fits 12 4) ∙ e.2 in
    let array_crc : u32_at 88 (header_text h) ≡ h.array_crc = ap (from_le_bytes w32) (later h fits 16 4) ∙ e.3 in
    λ i. record {
      revision = a.0 i;
      size = a.1 i;
      crc = a.2 i;
      reserved = a.3 i;
      own = b.0 i;
      other = b.1 i;
      first_usable = b.2 i;
      last_usable = b.3 i;
      disk = disk_of h fits i;
      array = array i;
      count = count i;
      entry_size = entry_size i;
      array_crc = array_crc i;
    }

pub header_of-fits : (b : List ℕ) → length b ≡ 92 → All IsByte b → IsHeader (header_of b)
unfolding header_of
header_of-fits b len bytes = record {
  revision = u32_at-fits 8 b bytes;
  size = u32_at-fits 12 b bytes;
  crc = u32_at-fits 16 b bytes;
  reserved = u32_at-fits 20 b bytes;
  own = u64_at-fits 24 b bytes;
  other = u64_at-fits 32 b bytes;
  first_usable = u64_at-fits 40 b bytes;
  last_usable = u64_at-fits 48 b bytes;
  disk = guid_at-fits 56 b (omega arith) bytes;
  array = u64_at-fits 72 b bytes;
  count = u32_at-fits 80 b bytes;
  entry_size = u32_at-fits 84 b bytes;
  array_crc = u32_at-fits 88 b bytes;
}

pub text-header_of : (b : List ℕ) → length b ≡ 92 → All IsByte b → take 8 b ≡ signature → b ≡ header_text (header_of b)
unfolding header_of header_text
text-header_of b len bytes signed =
    let p0 = cut 0 8 b signature signed in
    let p1 = cut32 8 b (omega arith) bytes in
    let p2 = cut32 12 b (omega arith) bytes in
    let p3 = cut32 16 b (omega arith) bytes in
    let p4 = cut32 20 b (omega arith) bytes in
    let p5 = cut64 24 b (omega arith) bytes in
    let p6 = cut64 32 b (omega arith) bytes in
    let p7 = cut64 40 b (omega arith) bytes in
    let p8 = cut64 48 b (omega arith) bytes in
    let p9 = cut_guid 56 b (omega arith) in
    let p10 = cut64 72 b (omega arith) bytes in
    let p11 = cut32 80 b (omega arith) bytes in
    let p12 = cut32 84 b (omega arith) bytes in
    let p13 = cut32 88 b (omega arith) bytes ∙ ap (λ (x : List ℕ). le32 (u32_at 88 b) ++ x) (drop_all 92 b (omega arith)) in
    p0 ∙ ap (λ (x : List ℕ). signature ++ x)
    (p1 ∙ ap (λ (x : List ℕ). le32 (u32_at 8 b) ++ x)
    (p2 ∙ ap (λ (x : List ℕ). le32 (u32_at 12 b) ++ x)
    (p3 ∙ ap (λ (x : List ℕ). le32 (u32_at 16 b) ++ x)
    (p4 ∙ ap (λ (x : List ℕ). le32 (u32_at 20 b) ++ x)
    (p5 ∙ ap (λ (x : List ℕ). le64 (u64_at 24 b) ++ x)
    (p6 ∙ ap (λ (x : List ℕ). le64 (u64_at 32 b) ++ x)
    (p7 ∙ ap (λ (x : List ℕ). le64 (u64_at 40 b) ++ x)
    (p8 ∙ ap (λ (x : List ℕ). le64 (u64_at 48 b) ++ x)
    (p9 ∙ ap (λ (x : List ℕ). disk_form (guid_at 56 b).0 ++ x)
    (p10 ∙ ap (λ (x : List ℕ). le64 (u64_at 72 b) ++ x)
    (p11 ∙ ap (λ (x : List ℕ). le32 (u32_at 80 b) ++ x)
    (p12 ∙ ap (λ (x : List ℕ). le32 (u32_at 84 b) ++ x) p13))))))))))))
