-- What is read record by record is the grammar.
use Rattle.std.proofs.Common.{◌≡◌, ◌<◌, ◌≤◌, ◌+◌, ◌^◌, ℕ, zero, suc, List, [], ◌∷◌, ◌++◌, length, get_or, take, drop, Bool, true, false, cond, ltb, ◌||◌, Option, Some, None, Result, Ok, Err, refl, sym, ap, subst, ◌∙◌, append_assoc, append-nil, arith, inl, inr}
use Rattle.std.specs.Prelude.{◌⊎◌, IfOk, IfErr, All}
use Rattle.std.specs.Int.{w32, w64, from_le_bytes, to_le_bytes}
use Rattle.std.specs.List.{AllByRecursion}
use Rattle.std.proofs.lemmas.Bool.{ltb-false, le-ltb, cases_lt}
use Rattle.std.proofs.lemmas.List.{take-append-drop, length-take, length-drop, get_or-take, get_or-drop, get_or_past, drop_at, take_at, drop-drop, length-append}
use Rattle.std.proofs.lemmas.Nat.{le_bytes_4, le_bytes_8, from_le_bytes-to_le_bytes_4, from_le_bytes-to_le_bytes_8}
use Rattle.host_traits.specs.declared.calls.TapeItem.{TapeItem}
use Rattle.host_traits.specs.declared.calls.TapeItem.TheVariants.{Failed, Done, Number, Bytes}
use Rattle.host_tape.specs.declared.fault.TapeFault.{TapeFault}
use Rattle.host_tape.specs.declared.fault.TapeFault.TheVariants as faults
use Rattle.host_tape.specs.Tape.{IsItem, item_bytes, items_bytes, header, tape_bytes, IsTape, BeginsNone, IsBroken, Breaks}
use Rattle.host_tape.specs.Reading.{record_of, items_in, Reads, Stops, Found, Reading, IsRead, IsRefused}
use Rattle.host_tape.specs.Played.{Played, unplayed}
use Rattle.host_tape.proofs.Steps.{all_read}

-- ---- bytes

abbrev pub AreBytes : List ℕ → Type 0
AreBytes b = (i : ℕ) → get_or b i 0 < 256

pub all_bytes : (b : List ℕ) → All (λ x. x < 256) b → AreBytes b
all_bytes b h i =
    elim (cases_lt i (length b)) [
      | inl lt ↦ h i 0 lt
      | inr le ↦ rw (get_or_past b i 0 le) (omega arith)
    ]

front_bytes : (m : ℕ) (b : List ℕ) → AreBytes b → AreBytes (take m b)
front_bytes m b h i =
    elim (cases_lt i m) [
      | inl lt ↦ rw (get_or-take m b i 0 lt) (h i)
      | inr le ↦ rw (get_or_past (take m b) i 0 (omega (arith, length-take m b))) (omega arith)
    ]

drop_bytes : (n : ℕ) (b : List ℕ) → AreBytes b → AreBytes (drop n b)
drop_bytes n b h i = rw (get_or-drop n b i 0) (h (n + i))

below8 : (bytes : List ℕ) → AreBytes bytes → from_le_bytes w64 bytes < 2 ^ 64
below8 bytes fits = omega (arith, fits 0, fits 1, fits 2, fits 3, fits 4, fits 5, fits 6, fits 7)

-- ---- one record

abbrev Front : Type 0
Front = Option (TapeItem × ℕ)

some_is : (x y : TapeItem × ℕ) → let a : Front = Some x in a ≡ Some y → x ≡ y
some_is x y e = cc

chosen : (b : Bool) (x y z : Front) → cond b x y ≡ z → ((b ≡ true) × (x ≡ z)) ⊎ ((b ≡ false) × (y ≡ z))
chosen true x y z e = inl (refl, e)
chosen false x y z e = inr (refl, e)

neither : (a b : Bool) → (a || b) ≡ false → (a ≡ false) × (b ≡ false)
neither true b e = absurd cc
neither false b e = (refl, e)

-- the bytes that a record takes, and what is behind them
pub record Takes (text : List ℕ) (item : TapeItem) (n : ℕ) : Type 0 where
  pub is : IsItem item
  pub front : text ≡ item_bytes item ++ drop n text
  pub some : 0 < n

abbrev TakesPair : List ℕ → TapeItem × ℕ → Type 0
TakesPair text p = Takes text p.0 p.1

number_takes : (rest : List ℕ) (p : TapeItem × ℕ) → AreBytes rest → record_of (2 ∷ rest) ≡ Some p → TakesPair (2 ∷ rest) p
unfolding record_of item_bytes
number_takes rest p fits e =
    let n : ℕ = from_le_bytes w64 (take 8 rest) in
    let made : TapeItem × ℕ = (Number n, 9) in
    elim (chosen (ltb (length rest) 8) None (Some made) (Some p) e) [
      | inl h ↦ absurd (cc (h.1))
      | inr h ↦
          let long : 8 ≤ length rest = ltb-false (length rest) 8 h.0 in
          let eight : length (take 8 rest) ≡ 8 = omega (arith, length-take 8 rest) in
          let spelled : to_le_bytes w64 n ≡ take 8 rest = le_bytes_8 (take 8 rest) n eight (front_bytes 8 rest fits) refl in
          subst (TakesPair (2 ∷ rest)) (some_is made p h.1) (record {
            is = below8 (take 8 rest) (front_bytes 8 rest fits);
            front = ap (λ (x : List ℕ). 2 ∷ x) (sym (take-append-drop 8 rest) ∙ ap (λ (x : List ℕ). x ++ drop 8 rest) (sym spelled));
            some = omega arith;
          })
    ]

bytes_takes : (rest : List ℕ) (p : TapeItem × ℕ) → AreBytes rest → record_of (3 ∷ rest) ≡ Some p → TakesPair (3 ∷ rest) p
unfolding record_of item_bytes
bytes_takes rest p fits e =
    let n : ℕ = from_le_bytes w32 (take 4 rest) in
    let made : TapeItem × ℕ = (Bytes (take n (drop 4 rest)), 5 + n) in
    elim (chosen (ltb (length rest) 4) None _ (Some p) e) [
      | inl h ↦ absurd (cc (h.1))
      | inr h ↦ elim (chosen (ltb 69632 n || ltb (length rest) (4 + n)) None (Some made) (Some p) h.1) [
        | inl g ↦ absurd (cc (g.1))
        | inr g ↦
            let tests = neither (ltb 69632 n) (ltb (length rest) (4 + n)) g.0 in
            let few : n ≤ 69632 = ltb-false 69632 n tests.0 in
            let long : 4 + n ≤ length rest = ltb-false (length rest) (4 + n) tests.1 in
            let four : length (take 4 rest) ≡ 4 = omega (arith, length-take 4 rest) in
            let spelled : to_le_bytes w32 n ≡ take 4 rest = le_bytes_4 (take 4 rest) n four (front_bytes 4 rest fits) refl in
            let body : List ℕ = take n (drop 4 rest) in
            let count : length body ≡ n = omega (arith, length-take n (drop 4 rest), length-drop 4 rest) in
            let back : drop n (drop 4 rest) ≡ drop (4 + n) rest = drop-drop n 4 rest in
            let parts : rest ≡ to_le_bytes w32 (length body) ++ (body ++ drop (4 + n) rest) =
            sym (take-append-drop 4 rest) ∙ ap (λ (x : List ℕ). x ++ drop 4 rest) (sym spelled ∙ ap (to_le_bytes w32) (sym count))
            ∙ ap (λ (x : List ℕ). to_le_bytes w32 (length body) ++ x) (sym (take-append-drop n (drop 4 rest)) ∙ ap (λ (x : List ℕ). body ++ x) back) in
            subst (TakesPair (3 ∷ rest)) (some_is made p g.1) (record {
              is = omega arith;
              front = ap (λ (x : List ℕ). 3 ∷ x) (parts ∙ sym (append_assoc (to_le_bytes w32 (length body)) body (drop (4 + n) rest))) ∙ ap (λ (k : ℕ). (3 ∷ (to_le_bytes w32 (length body) ++ body)) ++ drop k (3 ∷ rest)) (five n);
              some = omega arith;
            })
      ]
    ]
  where
    five : (n : ℕ) → suc (4 + n) ≡ 5 + n
    five n = omega arith

pub record_takes : (text : List ℕ) (item : TapeItem) (n : ℕ) → AreBytes text → record_of text ≡ Some (item, n) → Takes text item n
unfolding record_of item_bytes
record_takes [] item n fits e = absurd cc
record_takes (zero ∷ rest) item n fits e =
    let made : TapeItem × ℕ = (Failed, 1) in
    subst (TakesPair (0 ∷ rest)) (some_is made (item, n) e) (record { is = tt; front = refl; some = omega arith })
record_takes (suc zero ∷ rest) item n fits e =
    let made : TapeItem × ℕ = (Done, 1) in
    subst (TakesPair (1 ∷ rest)) (some_is made (item, n) e) (record { is = tt; front = refl; some = omega arith })
record_takes (suc (suc zero) ∷ rest) item n fits e = number_takes rest (item, n) (λ i. fits (suc i)) e
record_takes (suc (suc (suc zero)) ∷ rest) item n fits e = bytes_takes rest (item, n) (λ i. fits (suc i)) e
record_takes (suc (suc (suc (suc b))) ∷ rest) item n fits e = absurd cc

number_front : (rest : List ℕ) (n : ℕ) → 8 ≤ length rest → from_le_bytes w64 (take 8 rest) ≡ n → record_of (2 ∷ rest) ≡ Some (Number n, 9)
unfolding record_of
number_front rest n long value =
    let enough : ltb (length rest) 8 ≡ false = le-ltb _ _ long in
    rw (enough, value) refl

bytes_front : (rest : List ℕ) (n : ℕ) → 4 + n ≤ length rest → n ≤ 69632 → from_le_bytes w32 (take 4 rest) ≡ n → record_of (3 ∷ rest) ≡ Some (Bytes (take n (drop 4 rest)), 5 + n)
unfolding record_of
bytes_front rest n long few value =
    let enough : ltb (length rest) 4 ≡ false = le-ltb _ _ (omega arith) in
    let small : ltb 69632 n ≡ false = le-ltb _ _ few in
    let whole : ltb (length rest) (4 + n) ≡ false = le-ltb _ _ long in
    rw (enough, value, small, whole) refl

counted : (item : TapeItem) (n m : ℕ) → n ≡ m → let a : Front = Some (item, n) in a ≡ Some (item, m)
counted item n m e = ap (λ (k : ℕ). let a : Front = Some (item, k) in a) e

pub record_again : (item : TapeItem) (more : List ℕ) → IsItem item → record_of (item_bytes item ++ more) ≡ Some (item, length (item_bytes item))
unfolding record_of item_bytes
record_again Failed more h = refl
record_again Done more h = refl
record_again (Number n) more h =
    let front : List ℕ = to_le_bytes w64 n in
    number_front (front ++ more) n (omega (arith, length-append front more)) (from_le_bytes-to_le_bytes_8 n h)
record_again (Bytes bytes) more h =
    let len : ℕ = length bytes in
    let few : len ≤ 69632 = h in
    let front : List ℕ = to_le_bytes w32 len in
    let rest : List ℕ = (front ++ bytes) ++ more in
    let total : length rest ≡ 4 + len + length more = omega (arith, length-append (front ++ bytes) more, length-append front bytes) in
    let value : from_le_bytes w32 front ≡ len = from_le_bytes-to_le_bytes_4 len (omega arith) in
    let body : take len (bytes ++ more) ≡ bytes = take_at bytes more len refl in
    bytes_front rest len (omega (arith, total)) few value
    ∙ ap (λ (b : List ℕ). let a : Front = Some (Bytes b, 5 + len) in a) body
    ∙ counted (Bytes bytes) (5 + len) (length (3 ∷ (front ++ bytes))) (omega (arith, length-append front bytes))

-- ---- many records

-- records that are read are spelled so
pub reads_takes : (text : List ℕ) (items : List TapeItem) (rest : List ℕ) → AreBytes text → Reads text items rest → AllByRecursion IsItem items × (text ≡ items_bytes items ++ rest)
reads_takes text [] rest fits e = (tt, e)
reads_takes text (item ∷ items) rest fits h =
    let t = record_takes text item h.0 fits h.1 in
    let others = reads_takes (drop h.0 text) items rest (drop_bytes h.0 text fits) h.2 in (
      (t.is, others.0),
      t.front ∙ ap (λ (x : List ℕ). item_bytes item ++ x) others.1 ∙ sym (append_assoc (item_bytes item) (items_bytes items) rest),
    )

-- and records that are spelled so are read
pub reads_again : (items : List TapeItem) (rest : List ℕ) → AllByRecursion IsItem items → Reads (items_bytes items ++ rest) items rest
reads_again [] rest h = refl
reads_again (item ∷ items) rest h =
    let front : List ℕ = item_bytes item in
    let parts : (front ++ items_bytes items) ++ rest ≡ front ++ (items_bytes items ++ rest) = append_assoc front (items_bytes items) rest in (
      length front,
      ap record_of parts ∙ record_again item (items_bytes items ++ rest) h.0,
      subst (λ (x : List ℕ). Reads x items rest) (sym (ap (drop (length front)) parts ∙ drop_at front (items_bytes items ++ rest) (length front) refl)) (reads_again items rest h.1),
    )

-- the records of a tape are those behind its header
pub spelled_items : (items : List TapeItem) → AllByRecursion IsItem items → items_in (length items) (items_bytes items) ≡ items
spelled_items items each = ap (items_in (length items)) (sym (append-nil (items_bytes items))) ∙ all_read (items_bytes items ++ []) items [] (reads_again items [] each)

pair_is : (x y : TapeItem × ℕ) → let a : Front = Some x in a ≡ Some y → x ≡ y
pair_is x y e = cc

-- nothing is left: there is no record more
nothing_left : (item : TapeItem) (n : ℕ) → record_of [] ≡ Some (item, n) → ⊥
unfolding record_of
nothing_left item n e = cc

-- where no record begins, reading has come to its end
abbrev Ends : List ℕ → Type 0
Ends rest = (item : TapeItem) (n : ℕ) → record_of rest ≡ Some (item, n) → ⊥

first_is : (text rest : List ℕ) (o : Front) (item : TapeItem) (n : ℕ) → o ≡ Some (item, n) → o ≡ record_of rest → Ends rest → ⊥
first_is text rest o item n e same end = end item n (sym same ∙ e)

-- two readings of one text up to where no record begins are one
pub reads_once : (text : List ℕ) (a b : List TapeItem) (x y : List ℕ) → Reads text a x → Reads text b y → Ends x → Ends y → (a ≡ b) × (x ≡ y)
reads_once text [] [] x y h k ex ey = (refl, sym h ∙ k)
reads_once text [] (j ∷ b) x y h k ex ey = absurd (ex j k.0 (ap record_of (sym h) ∙ k.1))
reads_once text (i ∷ a) [] x y h k ex ey = absurd (ey i h.0 (ap record_of (sym k) ∙ h.1))
reads_once text (i ∷ a) (j ∷ b) x y h k ex ey =
    let same : (i, h.0) ≡ (j, k.0) = pair_is (i, h.0) (j, k.0) (sym h.1 ∙ k.1) in
    let item : i ≡ j = ap (λ (p : TapeItem × ℕ). p.0) same in
    let count : h.0 ≡ k.0 = ap (λ (p : TapeItem × ℕ). p.1) same in
    let others = reads_once (drop h.0 text) a b x y h.2 (subst (λ (n : ℕ). Reads (drop n text) b y) (sym count) k.2) ex ey in
    (ap (λ (z : TapeItem). z ∷ a) item ∙ ap (λ (z : List TapeItem). j ∷ z) others.0, others.1)

-- a record that begins bytes is read there
pub none_begins : (rest : List ℕ) → record_of rest ≡ None → BeginsNone rest
none_begins rest none item more is e = absurd (none_some (item, length (item_bytes item)) (sym none ∙ ap record_of e ∙ record_again item more is))
  where
    none_some : (p : TapeItem × ℕ) → let a : Front = None in a ≡ Some p → ⊥
    none_some p e = cc

pub begins_none : (rest : List ℕ) → AreBytes rest → BeginsNone rest → Ends rest
begins_none rest fits none item n e = let t = record_takes rest item n fits e in none item (drop n rest) t.is t.front

-- ---- the whole text

pub whole : (text : List ℕ) → take 13 text ≡ header → text ≡ header ++ drop 13 text
whole text e = sym (take-append-drop 13 text) ∙ ap (λ (x : List ℕ). x ++ drop 13 text) e

abbrev Answer : Type 0
Answer = Result Played TapeFault

ok_is : (text : List ℕ) (t : Played) → AreBytes text → Found text (Ok t) → IsTape text t.records
ok_is text t fits h =
    let r = reads_takes (drop 13 text) t.records [] (drop_bytes 13 text fits) h.1 in
    (r.0, whole text h.0 ∙ ap (λ (x : List ℕ). header ++ x) (r.1 ∙ append-nil (items_bytes t.records)))

-- the text goes on behind the header, and stops there
stops_is : (text : List ℕ) (at : ℕ) → AreBytes text → take 13 text ≡ header → Stops text at → IsBroken text at
stops_is text at fits head h =
    let items = h.2.0 in
    let r = reads_takes (drop 13 text) items (drop at text) (drop_bytes 13 text fits) h.2.1 in
    let parts : text ≡ tape_bytes items ++ drop at text = whole text head ∙ ap (λ (x : List ℕ). header ++ x) r.1 ∙ sym (append_assoc header (items_bytes items) (drop at text)) in
    let total : length text ≡ length (tape_bytes items) + length (drop at text) = ap length parts ∙ length-append (tape_bytes items) (drop at text) in
    let inside : at < length text = h.1 in
    record {
      items = items;
      rest = drop at text;
      each = r.0;
      front = parts;
      place = omega (arith, total, length-drop at text);
      some = omega (arith, length-drop at text);
      none = none_begins (drop at text) h.3;
    }

other_header : (text rest : List ℕ) → (take 13 text ≡ header → ⊥) → text ≡ header ++ rest → ⊥
other_header text rest not e = not (ap (take 13) e)

pub new_found : (text : List ℕ) (items : List TapeItem) (r : Answer) → take 13 text ≡ header → Reads (drop 13 text) items [] → IfOk r (λ t. t ≡ unplayed items) → IfErr r (λ e. e ≡ faults.Memory) → Found text r
new_found text items (Ok t) head reads is err =
    let records : t.records ≡ items = ap (λ (p : Played). p.records) is in
    (head, subst (λ (x : List TapeItem). Reads (drop 13 text) x []) (sym records) reads, is ∙ ap unplayed (sym records))
new_found text items (Err f) head reads is err = subst (λ (x : TapeFault). Found text (Err x)) (sym err) tt

pub reading_is : (text : List ℕ) (r : Answer) → AreBytes text → Found text r → Reading text r
reading_is text (Ok t) fits h = (ok_is text t fits h, h.2)
reading_is text (Err (faults.At at)) fits (inl h) = inl (h.0, λ rest. other_header text rest h.1)
reading_is text (Err (faults.At at)) fits (inr h) = inr (stops_is text at fits h.0 h.1)
reading_is text (Err faults.Memory) fits h = tt

-- a tape's text is read to its end
tape_reads : (text : List ℕ) (items : List TapeItem) → IsTape text items → (take 13 text ≡ header) × Reads (drop 13 text) items []
tape_reads text items h = (
  ap (take 13) h.1,
  subst (λ (x : List ℕ). Reads x items []) (append-nil (items_bytes items) ∙ sym (ap (drop 13) h.1)) (reads_again items [] h.0),
)

none_ends : (rest : List ℕ) → record_of rest ≡ None → Ends rest
none_ends rest none item n e = absurd (none_some (item, n) (sym none ∙ e))
  where
    none_some : (p : TapeItem × ℕ) → let a : Front = None in a ≡ Some p → ⊥
    none_some p e = cc

long_rest : (at : ℕ) (text : List ℕ) → at < length text → drop at text ≡ [] → ⊥
long_rest at text lt e = let none : length (drop at text) ≡ 0 = ap length e in absurd (omega (arith, length-drop at text))

pub read_again : (text : List ℕ) (items : List TapeItem) (r : Answer) → Found text r → IsTape text items → IsRead items r
read_again text items (Ok t) h is = (reads_once (drop 13 text) t.records items [] [] h.1 (tape_reads text items is).1 nothing_left nothing_left).0
read_again text items (Err (faults.At at)) (inl h) is = absurd (h.1 (tape_reads text items is).0)
read_again text items (Err (faults.At at)) (inr h) is =
    let same = reads_once (drop 13 text) h.1.2.0 items (drop at text) [] h.1.2.1 (tape_reads text items is).1 (none_ends (drop at text) h.1.3) nothing_left in
    absurd (long_rest at text h.1.1 same.1)
read_again text items (Err faults.Memory) h is = tt

-- where a broken text stops
record StopsAt (text : List ℕ) (at : ℕ) (b : IsBroken text at) : Type 0 where
  head : take 13 text ≡ header
  reads : Reads (drop 13 text) b.items b.rest
  ends : Ends b.rest

broken_bytes : (text : List ℕ) (at : ℕ) → AreBytes text → (b : IsBroken text at) → AreBytes b.rest
broken_bytes text at fits b = subst AreBytes (ap (drop (length (tape_bytes b.items))) b.front ∙ drop_at (tape_bytes b.items) b.rest (length (tape_bytes b.items)) refl) (drop_bytes (length (tape_bytes b.items)) text fits)

broken_stops : (text : List ℕ) (at : ℕ) → AreBytes text → (b : IsBroken text at) → StopsAt text at b
broken_stops text at fits b =
    let parts : text ≡ header ++ (items_bytes b.items ++ b.rest) = b.front ∙ append_assoc header (items_bytes b.items) b.rest in
    record {
      head = ap (take 13) parts;
      reads = subst (λ (x : List ℕ). Reads x b.items b.rest) (sym (ap (drop 13) parts)) (reads_again b.items b.rest b.each);
      ends = begins_none b.rest (broken_bytes text at fits b) b.none;
    }

empty_not : (rest : List ℕ) → 0 < length rest → rest ≡ [] → ⊥
empty_not rest some e = let none : length rest ≡ 0 = ap length e in absurd (omega arith)

same_place : (text : List ℕ) (at place : ℕ) (b : IsBroken text at) → at < length text → place < length text → b.rest ≡ drop place text → place ≡ at
same_place text at place b lt inside same =
    let total : length text ≡ length (tape_bytes b.items) + length b.rest = ap length b.front ∙ length-append (tape_bytes b.items) b.rest in
    let rest : length b.rest ≡ length (drop place text) = ap length same in
    let is : at ≡ length (tape_bytes b.items) = b.place in
    omega (arith, total, rest, is, length-drop place text)

inside_broken : (text : List ℕ) (at : ℕ) (b : IsBroken text at) → at < length text
inside_broken text at b =
    let total : length text ≡ length (tape_bytes b.items) + length b.rest = ap length b.front ∙ length-append (tape_bytes b.items) b.rest in
    let is : at ≡ length (tape_bytes b.items) = b.place in
    let some : 0 < length b.rest = b.some in
    omega (arith, total, is, some)

pub refused_again : (text : List ℕ) (at : ℕ) (r : Answer) → AreBytes text → Found text r → Breaks text at → IsRefused at r
refused_again text at (Ok t) fits h (inl b) = absurd (b.1 (drop 13 text) (whole text h.0))
refused_again text at (Ok t) fits h (inr b) =
    let s = broken_stops text at fits b in
    let same = reads_once (drop 13 text) t.records b.items [] b.rest h.1 s.reads nothing_left s.ends in
    absurd (empty_not b.rest b.some (sym same.1))
refused_again text at (Err (faults.At place)) fits (inl h) (inl b) = h.0 ∙ sym b.0
refused_again text at (Err (faults.At place)) fits (inl h) (inr b) = absurd (h.1 (broken_stops text at fits b).head)
refused_again text at (Err (faults.At place)) fits (inr h) (inl b) = absurd (b.1 (drop 13 text) (whole text h.0))
refused_again text at (Err (faults.At place)) fits (inr h) (inr b) =
    let s = broken_stops text at fits b in
    let same = reads_once (drop 13 text) b.items h.1.2.0 b.rest (drop place text) s.reads h.1.2.1 s.ends (none_ends (drop place text) h.1.3) in
    same_place text at place b (inside_broken text at b) h.1.1 same.1
refused_again text at (Err faults.Memory) fits h b = tt
