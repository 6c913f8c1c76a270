-- What is written is in the grammar.
use Rattle.std.proofs.Common.{◌≡◌, ◌⊎◌, inl, inr, ℕ, zero, suc, ◌+◌, ◌-◌, ◌*◌, ◌/◌, ◌%◌, ◌^◌, ◌<◌, ◌≤◌, Bool, true, false, not, ◌&&◌, true≢false, eqb, ltb, List, [], ◌∷◌, ◌++◌, All, length, take, drop, replicate, get_or, bit_xor, min, lit<, lit≤, refl, sym, ap, subst, ◌∙◌, arith, append_assoc, if◌then◌else◌}
use Rattle.std.specs.List.{AllByRecursion, AllPairs}
use Rattle.std.proofs.lemmas.Bool.{lt-ltb}
use Rattle.std.proofs.lemmas.List.{take_at, drop_at, length-append, length-replicate}
use Rattle.std.proofs.lemmas.List.Elements.{All-from_recursion, All-replicate, All-head, All-tail}
use Rattle.std.proofs.lemmas.List.Kept.{AllPairs-cons}
use Rattle.std.proofs.lemmas.Nat.{xor_lt}
use Rattle.guid_crc.specs.Guids.{Guid, IsGuid}
use Rattle.guid_crc.specs.Remainder.{multiple, times_x, remainder, bits, message_bits, ones, crc32}
use Rattle.gpt.specs.declared.header.Header.{Header}
use Rattle.gpt.specs.declared.header.Side.{Side}
use Rattle.gpt.specs.declared.image.Part.{Part}
use Rattle.gpt.specs.declared.values.Entry.{Entry}
use Rattle.gpt.specs.Fields.{StandsAt}
use Rattle.gpt.specs.Header.{IsHeader, header_text}
use Rattle.gpt.specs.Entries.{IsEntry, array_text, is_used}
use Rattle.gpt.specs.Rules.{primary, alternate}
use Rattle.gpt.specs.Grammar.{UsedIsWithin, IsCopy, IsGpt}
use Rattle.gpt.specs.Image.{zeros, linux, unused, entry_for, placed, taken, all_entries, written, total, plain_header, header_for, primary_header, alternate_header, mbr_record, mbr_with, mbr, header_sector, head_with, tail_with, head_bytes, tail_bytes, HasSectors}
use Rattle.gpt.proofs.Pieces.{IsByte}
use Rattle.gpt.proofs.HeaderLaws.{header_text-length}
use Rattle.gpt.proofs.EntryLaws.{array_text-length}
use Rattle.gpt.proofs.Kept.{Apart}
use Rattle.gpt.proofs.ImageLaws.{none, zeros-length, placed-drop, placed-end}

-- ---- a CRC-32 has 32 bits

times_x-fits : (r : ℕ) → r < 2 ^ 32 → times_x r < 2 ^ 32
unfolding times_x
times_x-fits r h = xor_lt 32 (r / 2) (multiple (r % 2)) (omega arith) (small (eqb (r % 2) 1))
  where
    small : (t : Bool) → (if t then 0xEDB88320 else 0) < 2 ^ 32
    small true = lit< tt
    small false = lit< tt

remainder-fits : (r : ℕ) (bs : List ℕ) → r < 2 ^ 32 → AllByRecursion (λ b. b < 2) bs → remainder r bs < 2 ^ 32
unfolding remainder
remainder-fits r [] h all = h
remainder-fits r (b ∷ bs) h all = remainder-fits (times_x (bit_xor r b)) bs (times_x-fits (bit_xor r b) (xor_lt 32 r b h (let low = all.0 in omega arith))) all.1

all_append : (P : ℕ → Type 0) (xs ys : List ℕ) → AllByRecursion P xs → AllByRecursion P ys → AllByRecursion P (xs ++ ys)
all_append P [] ys a b = b
all_append P (x ∷ xs) ys a b = (a.0, all_append P xs ys a.1 b)

bits-fit : (n b : ℕ) → AllByRecursion (λ b. b < 2) (bits n b)
unfolding bits
bits-fit zero b = tt
bits-fit (suc n) b = (omega arith, bits-fit n (b / 2))

message-fits : (bytes : List ℕ) → AllByRecursion (λ b. b < 2) (message_bits bytes)
message-fits [] = tt
message-fits (b ∷ bytes) = all_append (λ b. b < 2) (bits 8 b) (message_bits bytes) (bits-fit 8 b) (message-fits bytes)

crc32-fits : (bytes : List ℕ) → crc32 bytes < 2 ^ 32
crc32-fits bytes = xor_lt 32 (remainder ones (message_bits bytes)) ones (remainder-fits ones (message_bits bytes) (lit< tt) (message-fits bytes)) (lit< tt)

-- ---- the entries

-- what a part can say, by its type
pub record IsPart (p : Part) : Type 0 where
  pub unique : IsGuid p.unique
  pub name : length p.name ≡ 72
  pub bytes : All IsByte p.name

linux-fits : IsGuid linux
linux-fits = (refl, All-from_recursion IsByte linux.0 (lit< tt, (lit< tt, (lit< tt, (lit< tt, (lit< tt, (lit< tt, (lit< tt, (lit< tt, (lit< tt, (lit< tt, (lit< tt, (lit< tt, (lit< tt, (lit< tt, (lit< tt, (lit< tt, tt)))))))))))))))))

pub entry-fits : (first : ℕ) (p : Part) → IsPart p → 1 ≤ p.sectors → first + p.sectors < 2 ^ 64 → IsEntry (entry_for first p)
entry-fits first p fits some room = record {
  kind = linux-fits;
  unique = fits.unique;
  first = omega arith;
  last = omega arith;
  attributes = lit< tt;
  name = fits.name;
  bytes = fits.bytes;
}

unused-fits : IsEntry unused
unused-fits = record {
  kind = (refl, All-replicate IsByte 16 0 (lit< tt));
  unique = (refl, All-replicate IsByte 16 0 (lit< tt));
  first = lit< tt;
  last = lit< tt;
  attributes = lit< tt;
  name = refl;
  bytes = All-replicate IsByte 72 0 (lit< tt);
}

-- what holds of the unused entries and of each placed one
each_entry : (P : Entry → Type 0) (k : ℕ) → P unused → AllByRecursion P (replicate k unused)
each_entry P zero p = tt
each_entry P (suc k) p = (p, each_entry P k p)

-- the entries still to be placed fit, and then all of them
pub placed_more : (all : Type 0) (first i : ℕ) (ps : List Part) (e : Entry) → i < length ps → e ≡ entry_for first (get_or ps i none) → IsEntry e
    → (AllByRecursion IsEntry (placed first (drop i ps)) → all)
    → AllByRecursion IsEntry (placed (first + (get_or ps i none).sectors) (drop (i + 1) ps)) → all
placed_more all first i ps e lt is fits before later =
    before (subst (AllByRecursion IsEntry) (sym (placed-drop first ps i lt)) (subst IsEntry is fits, later))

pub placed_done : (all : Type 0) (first i : ℕ) (ps : List Part) → length ps ≤ i → (AllByRecursion IsEntry (placed first (drop i ps)) → all) → all
placed_done all first i ps le before = before (subst (AllByRecursion IsEntry) (sym (placed-end first ps i le)) tt)

entries_append : (es fs : List Entry) → AllByRecursion IsEntry es → AllByRecursion IsEntry fs → AllByRecursion IsEntry (es ++ fs)
entries_append [] fs a b = b
entries_append (e ∷ es) fs a b = (a.0, entries_append es fs a.1 b)

pub all_entries-fit : (ps : List Part) → AllByRecursion IsEntry (placed 40 ps) → AllByRecursion IsEntry (all_entries ps)
all_entries-fit ps fits = entries_append (placed 40 ps) (replicate (128 - length ps) unused) fits (each_entry IsEntry (128 - length ps) unused-fits)

unused-within : (low high : ℕ) → UsedIsWithin low high unused
unused-within low high used = absurd (true≢false (sym used))

placed-within : (first k high : ℕ) (ps : List Part) → All HasSectors ps → 40 ≤ first → first + taken ps ≤ high + 1
    → AllByRecursion (UsedIsWithin 40 high) (placed first ps ++ replicate k unused)
unfolding placed taken
placed-within first k high [] fits low room = each_entry (UsedIsWithin 40 high) k (unused-within 40 high)
placed-within first k high (p ∷ ps) fits low room =
    let some = All-head HasSectors p ps fits in
    ((λ used. record { first = low; order = omega arith; last = omega arith }), placed-within (first + p.sectors) k high ps (All-tail HasSectors p ps fits) (omega arith) (omega arith))

-- an entry that isn't used, or that begins at or behind this sector
Behind : ℕ → Entry → Type 0
Behind sector e = (is_used e ≡ false) ⊎ (sector ≤ e.first)

placed-behind : (sector first k : ℕ) (ps : List Part) → sector ≤ first → AllByRecursion (Behind sector) (placed first ps ++ replicate k unused)
unfolding placed Behind
placed-behind sector first k [] le = each_entry (Behind sector) k (inl refl)
placed-behind sector first k (p ∷ ps) le = (inr le, placed-behind sector (first + p.sectors) k ps (omega arith))

apart_behind : (first : ℕ) (p : Part) (e : Entry) → 1 ≤ p.sectors → Behind (first + p.sectors) e → Apart (entry_for first p) e
unfolding Behind
apart_behind first p e some (inl unused_one) = ap (λ (t : Bool). if t then not (ltb e.last first) && not (ltb (first + p.sectors - 1) e.first) else false) unused_one
apart_behind first p e some (inr le) =
    let before : ltb (first + p.sectors - 1) e.first ≡ true = lt-ltb _ _ (omega arith) in
    by_tests (is_used e) (not (ltb e.last first)) (ltb (first + p.sectors - 1) e.first) before
  where
    by_tests : (u x y : Bool) → y ≡ true → (if u then x && not y else false) ≡ false
    by_tests true true true e = refl
    by_tests true false true e = refl
    by_tests true x false e = absurd (true≢false (sym e))
    by_tests false x y e = refl

all_weaker : (P Q : Entry → Type 0) → ((e : Entry) → P e → Q e) → (es : List Entry) → AllByRecursion P es → AllByRecursion Q es
all_weaker P Q f [] all = tt
all_weaker P Q f (e ∷ es) all = (f e all.0, all_weaker P Q f es all.1)

unused-apart : (k : ℕ) → AllPairs Apart (replicate k unused)
unused-apart zero = λ i j d lt in'. absurd (omega arith)
unused-apart (suc k) = AllPairs-cons Apart unused (replicate k unused) (All-from_recursion (Apart unused) (replicate k unused) (each_entry (Apart unused) k refl)) (unused-apart k)

placed-apart : (first k : ℕ) (ps : List Part) → All HasSectors ps → AllPairs Apart (placed first ps ++ replicate k unused)
unfolding placed
placed-apart first k [] fits = unused-apart k
placed-apart first k (p ∷ ps) fits =
    let rest = placed (first + p.sectors) ps ++ replicate k unused in
    let behind = placed-behind (first + p.sectors) (first + p.sectors) k ps (omega arith) in
    AllPairs-cons Apart (entry_for first p) rest
    (All-from_recursion (Apart (entry_for first p)) rest (all_weaker (Behind (first + p.sectors)) (Apart (entry_for first p)) (λ e h. apart_behind first p e (All-head HasSectors p ps fits) h) rest behind))
    (placed-apart (first + p.sectors) k ps (All-tail HasSectors p ps fits))

placed-length : (first : ℕ) (ps : List Part) → length (placed first ps) ≡ length ps
unfolding placed
placed-length first [] = refl
placed-length first (p ∷ ps) = ap suc (placed-length (first + p.sectors) ps)

all_entries-length : (ps : List Part) → length ps ≤ 128 → length (all_entries ps) ≡ 128
all_entries-length ps few = omega (arith, length-append (placed 40 ps) (replicate (128 - length ps) unused), placed-length 40 ps, length-replicate (128 - length ps) unused)

taken-some : (ps : List Part) → 1 ≤ length ps → All HasSectors ps → 1 ≤ taken ps
unfolding taken
taken-some [] some each = absurd (omega arith)
taken-some (p ∷ ps) some each = let first = All-head HasSectors p ps each in omega (arith, first)

-- ---- a copy

header-fits : (own other array : ℕ) (disk : Guid) (ps : List Part) → IsGuid disk → own < 2 ^ 64 → other < 2 ^ 64 → array < 2 ^ 64 → taken ps + 39 < 2 ^ 64
    → IsHeader (header_for own other array disk ps)
header-fits own other array disk ps guid own_fits other_fits array_fits last = record {
  revision = lit< tt;
  size = lit< tt;
  crc = crc32-fits (header_text (plain_header own other array disk (taken ps) (crc32 (array_text (all_entries ps)))));
  reserved = lit< tt;
  own = own_fits;
  other = other_fits;
  first_usable = lit< tt;
  last_usable = last;
  disk = guid;
  array = array_fits;
  count = lit< tt;
  entry_size = lit< tt;
  array_crc = crc32-fits (array_text (all_entries ps));
}

pub is_copy : (s : Side) (b : List ℕ) (own other array : ℕ) (disk : Guid) (ps : List Part)
    → IsGuid disk → 1 ≤ length ps → All HasSectors ps → AllByRecursion IsEntry (all_entries ps) → length ps ≤ 128 → taken ps ≤ 2 ^ 39
    → own ≡ s.own → own < 2 ^ 64 → other < 2 ^ 64 → array < 2 ^ 64 → s.low ≤ array → 4 * array + 128 ≤ 4 * s.high → taken ps + 39 < s.sectors
    → StandsAt ((s.own - s.base) * 512) (header_text (header_for own other array disk ps)) b
    → StandsAt ((array - s.base) * 512) (array_text (all_entries ps)) b
    → IsCopy s b (written disk ps)
is_copy s b own other array disk ps guid some fits entries few sum is_own own_fits other_fits array_fits low high last header_stands array_stands =
    let k = 128 - length ps in
    let sectors = taken-some ps some fits in
    record {
      header = header_for own other array disk ps;
      fits = header-fits own other array disk ps guid own_fits other_fits array_fits (omega (arith, sum));
      stands = header_stands;
      revision = refl;
      size = refl;
      crc = refl;
      entry_size = refl;
      some = lit≤ tt;
      few = lit≤ tt;
      place = record { own = is_own; low = low; high = high; usable = omega (arith, sectors); last = last };
      disk = refl;
      count = sym (all_entries-length ps few);
      entries = entries;
      array = array_stands;
      array_crc = refl;
      within = placed-within 40 k (taken ps + 39) ps fits (lit≤ tt) (omega arith);
      apart = placed-apart 40 k ps fits;
    }

-- ---- the pieces stand at their places

mbr-length : (others : ℕ) → length (mbr_with others) ≡ 512
unfolding mbr_with
mbr-length others =
    let tail : List ℕ = 0x55 ∷ 0xaa ∷ [] in
    let l446 = zeros-length 446 in
    let l48 = zeros-length 48 in
    let record16 : length (mbr_record others) ≡ 16 = refl in
    omega (arith, length-append (zeros 446) (mbr_record others ++ (zeros 48 ++ tail)), length-append (mbr_record others) (zeros 48 ++ tail), length-append (zeros 48) tail, l446, l48, record16)

stands_at : (at : ℕ) (x piece y : List ℕ) → length x ≡ at → StandsAt at piece (x ++ (piece ++ y))
stands_at at x piece y len = ap (take (length piece)) (drop_at x (piece ++ y) at len) ∙ take_at piece y (length piece) refl

-- behind a header's sector
sector-length : (h : Header) → IsHeader h → length (header_sector h) ≡ 512
sector-length h fits = omega (arith, length-append (header_text h) (zeros 420), header_text-length h fits, zeros-length 420)

head-header : (n : ℕ) (h : Header) (a : List ℕ) → StandsAt 512 (header_text h) (head_with n h a)
head-header n h a =
    let rest : List ℕ = a ++ zeros 3072 in
    subst (StandsAt 512 (header_text h)) (ap (λ (x : List ℕ). mbr n ++ x) (sym (append_assoc (header_text h) (zeros 420) rest)))
    (stands_at 512 (mbr n) (header_text h) (zeros 420 ++ rest) (mbr-length (min (n - 1) 0xFFFFFFFF)))

head-array : (n : ℕ) (h : Header) (a : List ℕ) → IsHeader h → StandsAt 1024 a (head_with n h a)
head-array n h a fits =
    let front : length (mbr n ++ header_sector h) ≡ 1024 = omega (arith, length-append (mbr n) (header_sector h), mbr-length (min (n - 1) 0xFFFFFFFF), sector-length h fits) in
    subst (StandsAt 1024 a) (append_assoc (mbr n) (header_sector h) (a ++ zeros 3072)) (stands_at 1024 (mbr n ++ header_sector h) a (zeros 3072) front)

tail-array : (h : Header) (a : List ℕ) → StandsAt 3584 a (tail_with h a)
tail-array h a = stands_at 3584 (zeros 3584) a (header_sector h) (zeros-length 3584)

tail-header : (h : Header) (a : List ℕ) → length a ≡ 16384 → StandsAt 19968 (header_text h) (tail_with h a)
tail-header h a len =
    let front : length (zeros 3584 ++ a) ≡ 19968 = omega (arith, length-append (zeros 3584) a, zeros-length 3584, len) in
    subst (StandsAt 19968 (header_text h)) (append_assoc (zeros 3584) a (header_sector h))
    (stands_at 19968 (zeros 3584 ++ a) (header_text h) (zeros 420) front)

array-length : (ps : List Part) → AllByRecursion IsEntry (all_entries ps) → length ps ≤ 128 → length (array_text (all_entries ps)) ≡ 16384
array-length ps fits few =
    omega (arith, array_text-length (all_entries ps) fits, all_entries-length ps few)

pub primary_copy : (disk : Guid) (ps : List Part) → IsGuid disk → 1 ≤ length ps → All HasSectors ps → AllByRecursion IsEntry (all_entries ps) → length ps ≤ 128 → taken ps ≤ 2 ^ 39
    → IsCopy (primary (total ps)) (head_bytes disk ps) (written disk ps)
unfolding head_bytes
primary_copy disk ps guid some fits entries few sum =
    let h = primary_header disk ps in
    let a = array_text (all_entries ps) in
    let is_header = header-fits 1 (taken ps + 79) 2 disk ps guid (lit< tt) (omega arith) (lit< tt) (omega arith) in
    is_copy (primary (total ps)) (head_bytes disk ps) 1 (taken ps + 79) 2 disk ps guid some fits entries few sum refl (lit< tt) (omega arith) (lit< tt) (lit≤ tt) (lit≤ tt) (omega arith)
    (head-header (total ps) h a) (head-array (total ps) h a is_header)

pub alternate_copy : (disk : Guid) (ps : List Part) → IsGuid disk → 1 ≤ length ps → All HasSectors ps → AllByRecursion IsEntry (all_entries ps) → length ps ≤ 128 → taken ps ≤ 2 ^ 39
    → IsCopy (alternate (total ps)) (tail_bytes disk ps) (written disk ps)
unfolding tail_bytes
alternate_copy disk ps guid some fits entries few sum =
    let h = alternate_header disk ps in
    let a = array_text (all_entries ps) in
    let t = taken ps in
    let own : t + 79 ≡ t + 80 - 1 = omega arith in
    let header_at : 19968 ≡ (t + 80 - 1 - (t + 80 - 40)) * 512 = omega arith in
    let array_at : 3584 ≡ (t + 47 - (t + 80 - 40)) * 512 = omega arith in
    is_copy (alternate (total ps)) (tail_bytes disk ps) (t + 79) 1 (t + 47) disk ps guid some fits entries few sum own (omega arith) (lit< tt) (omega arith) (omega arith) (omega arith) (omega arith)
    (subst (λ (n : ℕ). StandsAt n (header_text h) (tail_with h a)) header_at (tail-header h a (array-length ps entries few)))
    (subst (λ (n : ℕ). StandsAt n a (tail_with h a)) array_at (tail-array h a))

-- ---- the same of what has these bytes

pub primary_written : (n : ℕ) (head : List ℕ) (disk : Guid) (ps : List Part) → head ≡ head_bytes disk ps → n ≡ total ps
    → IsGuid disk → 1 ≤ length ps → All HasSectors ps → AllByRecursion IsEntry (all_entries ps) → length ps ≤ 128 → taken ps ≤ 2 ^ 39 → IsCopy (primary n) head (written disk ps)
primary_written n head disk ps eh en guid some fits entries few sum =
    subst (λ (b : List ℕ). IsCopy (primary n) b (written disk ps)) (sym eh)
    (subst (λ (m : ℕ). IsCopy (primary m) (head_bytes disk ps) (written disk ps)) (sym en) (primary_copy disk ps guid some fits entries few sum))

pub alternate_written : (n : ℕ) (tail : List ℕ) (disk : Guid) (ps : List Part) → tail ≡ tail_bytes disk ps → n ≡ total ps
    → IsGuid disk → 1 ≤ length ps → All HasSectors ps → AllByRecursion IsEntry (all_entries ps) → length ps ≤ 128 → taken ps ≤ 2 ^ 39 → IsCopy (alternate n) tail (written disk ps)
alternate_written n tail disk ps et en guid some fits entries few sum =
    subst (λ (b : List ℕ). IsCopy (alternate n) b (written disk ps)) (sym et)
    (subst (λ (m : ℕ). IsCopy (alternate m) (tail_bytes disk ps) (written disk ps)) (sym en) (alternate_copy disk ps guid some fits entries few sum))

pub all_written : (n : ℕ) (head tail : List ℕ) (disk : Guid) (ps : List Part) → head ≡ head_bytes disk ps → tail ≡ tail_bytes disk ps → n ≡ total ps
    → IsGuid disk → 1 ≤ length ps → All HasSectors ps → AllByRecursion IsEntry (all_entries ps) → length ps ≤ 128 → taken ps ≤ 2 ^ 39 → IsGpt head tail n (written disk ps)
all_written n head tail disk ps eh et en guid some fits entries few sum = record {
  least = omega (arith, en);
  most = omega (arith, en, sum);
  copy = inl (primary_written n head disk ps eh en guid some fits entries few sum);
}
