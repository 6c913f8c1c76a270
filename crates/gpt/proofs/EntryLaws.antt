-- An entry's bytes give its fields, and its fields give the bytes; and so with arrays of entries.
use Rattle.std.proofs.Common.{◌≡◌, ℕ, zero, suc, ◌+◌, ◌*◌, ◌<◌, ◌≤◌, List, [], ◌∷◌, ◌++◌, All, length, take, drop, refl, sym, ap, ◌∙◌, arith, append-nil, append_assoc, ◌-◌}
use Rattle.std.specs.Int.{w64, from_le_bytes}
use Rattle.std.specs.List.{AllByRecursion}
use Rattle.std.proofs.lemmas.List.{take_at, drop_at, take_all, drop-drop, length-append, length-take, length-drop, take-append-drop}
use Rattle.std.proofs.lemmas.List.Elements.{All-take, All-drop}
use Rattle.std.proofs.lemmas.Nat.{from_le_bytes-to_le_bytes_8}
use Rattle.guid_crc.specs.Guids.{disk_form, Guid}
use Rattle.guid_crc.proofs.Spelled.{disk_form-twice}
use Rattle.gpt.specs.declared.values.Entry.{Entry}
use Rattle.gpt.specs.Fields.{part_at, u64_at, guid_at}
use Rattle.gpt.specs.Header.{le64}
use Rattle.gpt.specs.Entries.{IsEntry, entry_text, array_text, entry_of, entries_of}
use Rattle.gpt.proofs.Pieces.{IsByte, u64_at-fits, guid_at-fits, disk_form-length, part_length, part_bytes, cut64, cut_guid}

-- the fields behind the two GUIDs
end : Entry → List ℕ
end e = le64 e.first ++ (le64 e.last ++ (le64 e.attributes ++ e.name))

parts : (e : Entry) → entry_text e ≡ disk_form e.kind.0 ++ (disk_form e.unique.0 ++ end e)
unfolding entry_text end
parts e = refl

end-length : (e : Entry) → IsEntry e → length (end e) ≡ 96
unfolding end
end-length e fits =
    let numbers = le64 e.first ++ (le64 e.last ++ le64 e.attributes) in
    let n : length numbers ≡ 24 = refl in
    omega (arith, length-append numbers e.name, n, fits.name)

pub entry_text-length : (e : Entry) → IsEntry e → length (entry_text e) ≡ 128
entry_text-length e fits =
    let kind : List ℕ = disk_form e.kind.0 in
    let unique : List ℕ = disk_form e.unique.0 in
    ap length (parts e)
    ∙ omega (arith, length-append kind (unique ++ end e), length-append unique (end e), end-length e fits, disk_form-length e.kind.0 fits.kind.0, disk_form-length e.unique.0 fits.unique.0)

at16 : (e : Entry) → IsEntry e → drop 16 (entry_text e) ≡ disk_form e.unique.0 ++ end e
at16 e fits = ap (drop 16) (parts e) ∙ drop_at (disk_form e.kind.0) (disk_form e.unique.0 ++ end e) 16 (disk_form-length e.kind.0 fits.kind.0)

at32 : (e : Entry) → IsEntry e → drop 32 (entry_text e) ≡ end e
at32 e fits = sym (drop-drop 16 16 (entry_text e)) ∙ ap (drop 16) (at16 e fits) ∙ drop_at (disk_form e.unique.0) (end e) 16 (disk_form-length e.unique.0 fits.unique.0)

later : (e : Entry) → IsEntry e → (n m : ℕ) → part_at (32 + n) m (entry_text e) ≡ part_at n m (end e)
later e fits n m = ap (take m) (sym (drop-drop n 32 (entry_text e)) ∙ ap (drop n) (at32 e fits))

guid_back : (b : List ℕ) (g : Guid) → length g.0 ≡ 16 → b ≡ disk_form g.0 → record { 0 = disk_form b } ≡ g
guid_back b g len e = ap (λ (x : List ℕ). let r : Guid = record { 0 = x } in r) (ap disk_form e ∙ disk_form-twice g.0 len)

kind_of : (e : Entry) → IsEntry e → guid_at 0 (entry_text e) ≡ e.kind
kind_of e fits = guid_back (part_at 0 16 (entry_text e)) e.kind fits.kind.0
    (ap (take 16) (parts e) ∙ take_at (disk_form e.kind.0) (disk_form e.unique.0 ++ end e) 16 (disk_form-length e.kind.0 fits.kind.0))

unique_of : (e : Entry) → IsEntry e → guid_at 16 (entry_text e) ≡ e.unique
unique_of e fits = guid_back (part_at 16 16 (entry_text e)) e.unique fits.unique.0
    (ap (take 16) (at16 e fits) ∙ take_at (disk_form e.unique.0) (end e) 16 (disk_form-length e.unique.0 fits.unique.0))

at_end : (e : Entry) → IsEntry e → (u64_at 0 (end e) ≡ e.first) × (u64_at 8 (end e) ≡ e.last) × (u64_at 16 (end e) ≡ e.attributes) × (drop 24 (end e) ≡ e.name)
unfolding end
at_end e fits = (from_le_bytes-to_le_bytes_8 e.first fits.first, from_le_bytes-to_le_bytes_8 e.last fits.last, from_le_bytes-to_le_bytes_8 e.attributes fits.attributes, refl)

pub entry_of-text : (e : Entry) → IsEntry e → entry_of (entry_text e) ≡ e
unfolding entry_of
entry_of-text e fits =
    let a = at_end e fits in
    let first : u64_at 32 (entry_text e) ≡ e.first = ap (from_le_bytes w64) (later e fits 0 8) ∙ a.0 in
    let last : u64_at 40 (entry_text e) ≡ e.last = ap (from_le_bytes w64) (later e fits 8 8) ∙ a.1 in
    let attributes : u64_at 48 (entry_text e) ≡ e.attributes = ap (from_le_bytes w64) (later e fits 16 8) ∙ a.2 in
    let name : part_at 56 72 (entry_text e) ≡ e.name = later e fits 24 72 ∙ ap (take 72) a.3 ∙ take_all 72 e.name (omega (arith, fits.name)) in
    λ i. record {
      kind = kind_of e fits i;
      unique = unique_of e fits i;
      first = first i;
      last = last i;
      attributes = attributes i;
      name = name i;
    }

pub entry_of-fits : (b : List ℕ) → length b ≡ 128 → All IsByte b → IsEntry (entry_of b)
unfolding entry_of
entry_of-fits b len bytes = record {
  kind = guid_at-fits 0 b (omega arith) bytes;
  unique = guid_at-fits 16 b (omega arith) bytes;
  first = u64_at-fits 32 b bytes;
  last = u64_at-fits 40 b bytes;
  attributes = u64_at-fits 48 b bytes;
  name = part_length 56 72 b (omega arith);
  bytes = part_bytes 56 72 b bytes;
}

pub text-entry_of : (b : List ℕ) → length b ≡ 128 → All IsByte b → entry_text (entry_of b) ≡ b
unfolding entry_of entry_text
text-entry_of b len bytes =
    let p0 = cut_guid 0 b (omega arith) in
    let p1 = cut_guid 16 b (omega arith) in
    let p2 = cut64 32 b (omega arith) bytes in
    let p3 = cut64 40 b (omega arith) bytes in
    let p4 = cut64 48 b (omega arith) bytes in
    let p5 : drop 56 b ≡ part_at 56 72 b = sym (take_all 72 (drop 56 b) (omega (arith, length-drop 56 b))) in
    sym (p0 ∙ ap (λ (x : List ℕ). disk_form (guid_at 0 b).0 ++ x)
    (p1 ∙ ap (λ (x : List ℕ). disk_form (guid_at 16 b).0 ++ x)
    (p2 ∙ ap (λ (x : List ℕ). le64 (u64_at 32 b) ++ x)
    (p3 ∙ ap (λ (x : List ℕ). le64 (u64_at 40 b) ++ x)
    (p4 ∙ ap (λ (x : List ℕ). le64 (u64_at 48 b) ++ x) p5)))))

-- ---- arrays

pub array_text-length : (es : List Entry) → AllByRecursion IsEntry es → length (array_text es) ≡ 128 * length es
array_text-length [] fits = refl
array_text-length (e ∷ es) fits =
    omega (arith, length-append (entry_text e) (array_text es), entry_text-length e fits.0, array_text-length es fits.1)

pub entries_of-text : (es : List Entry) → AllByRecursion IsEntry es → entries_of (length es) (array_text es) ≡ es
unfolding entries_of
entries_of-text [] fits = refl
entries_of-text (e ∷ es) fits =
    let len = entry_text-length e fits.0 in
    let front : entry_of (take 128 (array_text (e ∷ es))) ≡ e = ap entry_of (take_at (entry_text e) (array_text es) 128 len) ∙ entry_of-text e fits.0 in
    let rest : entries_of (length es) (drop 128 (array_text (e ∷ es))) ≡ es = ap (entries_of (length es)) (drop_at (entry_text e) (array_text es) 128 len) ∙ entries_of-text es fits.1 in
    λ i. front i ∷ rest i

pub entries_of-length : (n : ℕ) (a : List ℕ) → length (entries_of n a) ≡ n
unfolding entries_of
entries_of-length zero a = refl
entries_of-length (suc n) a = ap suc (entries_of-length n (drop 128 a))

front_length : (n : ℕ) (a : List ℕ) → length a ≡ 128 * suc n → length (take 128 a) ≡ 128
front_length n a len = omega (arith, length-take 128 a)

rest_length : (n : ℕ) (a : List ℕ) → length a ≡ 128 * suc n → length (drop 128 a) ≡ 128 * n
rest_length n a len = omega (arith, length-drop 128 a)

pub text-entries_of : (n : ℕ) (a : List ℕ) → length a ≡ 128 * n → All IsByte a → array_text (entries_of n a) ≡ a
unfolding entries_of
text-entries_of zero [] len bytes = refl
text-entries_of zero (b ∷ a) len bytes = absurd (omega arith)
text-entries_of (suc n) a len bytes =
    (λ i. text-entry_of (take 128 a) (front_length n a len) (All-take IsByte 128 a bytes) i ++ text-entries_of n (drop 128 a) (rest_length n a len) (All-drop IsByte 128 a bytes) i)
    ∙ take-append-drop 128 a

pub entries_of-fits : (n : ℕ) (a : List ℕ) → length a ≡ 128 * n → All IsByte a → AllByRecursion IsEntry (entries_of n a)
unfolding entries_of
entries_of-fits zero a len bytes = tt
entries_of-fits (suc n) a len bytes =
    (entry_of-fits (take 128 a) (front_length n a len) (All-take IsByte 128 a bytes), entries_of-fits n (drop 128 a) (rest_length n a len) (All-drop IsByte 128 a bytes))

-- ---- reading an array entry by entry

entries_of-first : (n : ℕ) (a : List ℕ) → 0 < n → entries_of n a ≡ entry_of (take 128 a) ∷ entries_of (n - 1) (drop 128 a)
unfolding entries_of
entries_of-first zero a some = absurd (omega arith)
entries_of-first (suc n) a some =
    let less : n ≡ suc n - 1 = omega arith in
    ap (λ (k : ℕ). entry_of (take 128 a) ∷ entries_of k (drop 128 a)) less

entries_of-none : (n : ℕ) (a : List ℕ) → n ≡ 0 → entries_of n a ≡ []
unfolding entries_of
entries_of-none n a e = rw e refl

-- one entry more
pub entry_more : (old new all : List Entry) (x : Entry) (n i m f : ℕ) (a : List ℕ) → i < n → m ≡ 128 → f ≡ 128 * i
    → x ≡ entry_of (take m (drop f a)) → new ≡ old ++ x ∷ []
    → old ++ entries_of (n - i) (drop (128 * i) a) ≡ all
    → new ++ entries_of (n - (i + 1)) (drop (128 * (i + 1)) a) ≡ all
entry_more old new all x n i m f a lt em ef is added before =
    let left : n - i - 1 ≡ n - (i + 1) = omega arith in
    let here : entry_of (take 128 (drop (128 * i) a)) ≡ x = sym (is ∙ (λ j. entry_of (take (em j) (drop (ef j) a)))) in
    let rest : drop 128 (drop (128 * i) a) ≡ drop (128 * (i + 1)) a = drop-drop 128 (128 * i) a ∙ ap (λ (k : ℕ). drop k a) (omega arith) in
    let split : entries_of (n - i) (drop (128 * i) a) ≡ x ∷ entries_of (n - (i + 1)) (drop (128 * (i + 1)) a) =
    entries_of-first (n - i) (drop (128 * i) a) (omega arith) ∙ (λ j. here j ∷ entries_of (left j) (rest j)) in
    let tail = entries_of (n - (i + 1)) (drop (128 * (i + 1)) a) in
    ap (λ (v : List Entry). v ++ tail) added ∙ append_assoc old (x ∷ []) tail ∙ ap (λ (v : List Entry). old ++ v) (sym split) ∙ before

pub entries_done : (old all : List Entry) (n i : ℕ) (a : List ℕ) → n ≤ i → old ++ entries_of (n - i) (drop (128 * i) a) ≡ all → old ≡ all
entries_done old all n i a le before =
    sym (append-nil old) ∙ ap (λ (v : List Entry). old ++ v) (sym (entries_of-none (n - i) (drop (128 * i) a) (omega arith))) ∙ before
