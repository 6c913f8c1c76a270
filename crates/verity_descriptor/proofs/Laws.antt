-- What is read is spelled so, and what is spelled so is read.
use Rattle.std.proofs.Common.{◌≡◌, ℕ, ◌+◌, ◌-◌, ◌^◌, ◌<◌, ◌≤◌, Bool, true, false, ltb, List, [], ◌∷◌, ◌++◌, length, get_or, take, drop, Option, Some, None, Result, Ok, Err, refl, sym, ap, subst, ◌∙◌, append_assoc, arith, inl, inr, zero-add, suc-add}
use Rattle.std.specs.Prelude.{IfOk}
use Rattle.std.specs.Int.{w64, from_le_bytes, to_le_bytes}
use Rattle.std.proofs.lemmas.Bool.{eqb-true, ltb-true, lt-ltb, cases_lt}
use Rattle.std.proofs.lemmas.List.{take_at, drop_at, take-append-drop, drop-drop, length-append, length-take, length-drop, length-replicate, take_all, drop-replicate, get_or-drop, get_or-take, get_or_past}
use Rattle.std.proofs.lemmas.Nat.{le_bytes_8, from_le_bytes-to_le_bytes_8}
use Rattle.verity_descriptor.specs.declared.Descriptor.{Descriptor}
use Rattle.verity_descriptor.specs.declared.DescriptorFault.{DescriptorFault}
use Rattle.verity_descriptor.specs.Spelling.{IsDescriptor, descriptor_bytes, zeros, must, ◌then◌, first_not_zero, not_zero, reserved, first_fault, said, answer, decoded, fault_of}
use Rattle.verity_descriptor.proofs.Zeros.{zeros_pass, passed_zeros}

-- the bytes keep every rule
pub record Keeps (b : List ℕ) : Type 0 where
  pub version : get_or b 0 0 ≡ 1
  pub algorithm : get_or b 1 0 ≡ 1
  pub block : get_or b 2 0 ≡ 12
  pub salt : get_or b 3 0 < 33
  pub first : take 4 (drop 4 b) ≡ zeros (length (take 4 (drop 4 b)))
  pub second : take 32 (drop 48 b) ≡ zeros (length (take 32 (drop 48 b)))
  pub third : take (256 - (80 + get_or b 3 0)) (drop (80 + get_or b 3 0) b) ≡ zeros (length (take (256 - (80 + get_or b 3 0)) (drop (80 + get_or b 3 0) b)))

then_none : (x y : Option DescriptorFault) → (x then y) ≡ None → (x ≡ None) × (y ≡ None)
then_none None y e = (refl, e)
then_none (Some f) y e = absurd cc

must_none : (t : Bool) (f : DescriptorFault) → must t f ≡ None → t ≡ true
must_none true f e = refl
must_none false f e = absurd cc

not_zero_none : (o : Option ℕ) → not_zero o ≡ None → o ≡ None
not_zero_none None e = refl
not_zero_none (Some at) e = absurd cc

pub keeps : (b : List ℕ) → first_fault b ≡ None → Keeps b
unfolding first_fault
keeps b e =
    let r0 = then_none _ _ e in
    let r1 = then_none _ _ r0.1 in
    let r2 = then_none _ _ r1.1 in
    let r3 = then_none _ _ r2.1 in
    let r4 = then_none _ _ r3.1 in
    let r5 = then_none _ _ r4.1 in
    record {
      version = eqb-true _ _ (must_none _ _ r0.0);
      algorithm = eqb-true _ _ (must_none _ _ r1.0);
      block = eqb-true _ _ (must_none _ _ r2.0);
      salt = ltb-true _ _ (must_none _ _ r3.0);
      first = passed_zeros _ _ (not_zero_none _ r4.0);
      second = passed_zeros _ _ (not_zero_none _ r5.0);
      third = passed_zeros _ _ (not_zero_none _ r5.1);
    }

pub kept : (b : List ℕ) → Keeps b → first_fault b ≡ None
unfolding first_fault
kept b k =
    let salt : ltb (get_or b 3 0) 33 ≡ true = lt-ltb _ _ k.salt in
    let first : reserved 4 8 b ≡ None = ap not_zero (ap (first_not_zero 4) k.first ∙ zeros_pass 4 (length (take 4 (drop 4 b)))) in
    let second : reserved 48 80 b ≡ None = ap not_zero (ap (first_not_zero 48) k.second ∙ zeros_pass 48 (length (take 32 (drop 48 b)))) in
    let third : reserved (80 + get_or b 3 0) 256 b ≡ None = ap not_zero (ap (first_not_zero (80 + get_or b 3 0)) k.third ∙ zeros_pass (80 + get_or b 3 0) (length (take (256 - (80 + get_or b 3 0)) (drop (80 + get_or b 3 0) b)))) in
    rw (k.version, k.algorithm, k.block, salt, first, second, third) refl

-- ---- what is read is spelled so

cut : (n m : ℕ) (b x : List ℕ) → take m (drop n b) ≡ x → drop n b ≡ x ++ drop (n + m) b
cut n m b x e = sym (take-append-drop m (drop n b)) ∙ ap (λ (y : List ℕ). y ++ drop m (drop n b)) e ∙ ap (λ (y : List ℕ). x ++ y) (drop-drop m n b)

front4 : (b : List ℕ) → 4 ≤ length b → take 4 b ≡ get_or b 0 0 ∷ get_or b 1 0 ∷ get_or b 2 0 ∷ get_or b 3 0 ∷ []
front4 [] h = absurd (omega arith)
front4 (b0 ∷ []) h = absurd (omega arith)
front4 (b0 ∷ b1 ∷ []) h = absurd (omega arith)
front4 (b0 ∷ b1 ∷ b2 ∷ []) h = absurd (omega arith)
front4 (b0 ∷ b1 ∷ b2 ∷ b3 ∷ b) h = refl

abbrev pub AreBytes : List ℕ → Type 0
AreBytes b = (i : ℕ) → get_or b i 0 < 256

part_fits : (n m : ℕ) (b : List ℕ) → AreBytes b → AreBytes (take m (drop n b))
part_fits n m b h i =
    elim (cases_lt i m) [
      | inl lt ↦ rw (get_or-take m (drop n b) i 0 lt, get_or-drop n b i 0) (h (n + i))
      | inr le ↦ rw (get_or_past (take m (drop n b)) i 0 (omega (arith, length-take m (drop n b)))) (omega arith)
    ]

part_length : (n m : ℕ) (b : List ℕ) → n + m ≤ length b → length (take m (drop n b)) ≡ m
part_length n m b h = omega (arith, length-take m (drop n b), length-drop n b)

below8 : (bytes : List ℕ) → AreBytes bytes → from_le_bytes w64 bytes < 2 ^ 64
below8 bytes fits = omega (arith, fits 0, fits 1, fits 2, fits 3, fits 4, fits 5, fits 6, fits 7)

spelled : (b : List ℕ) → length b ≡ 256 → AreBytes b → Keeps b → IsDescriptor (said b) × (b ≡ descriptor_bytes (said b))
unfolding descriptor_bytes
spelled b len fits k =
    let s : ℕ = get_or b 3 0 in
    let few : s < 33 = k.salt in
    let d = said b in
    let size_len : length (take 8 (drop 8 b)) ≡ 8 = part_length 8 8 b (omega arith) in
    let salt_len : length (take s (drop 80 b)) ≡ s = part_length 80 s b (omega arith) in
    let zeros_is : (n m : ℕ) → n + m ≤ length b → take m (drop n b) ≡ zeros (length (take m (drop n b))) → take m (drop n b) ≡ zeros m = λ n m h e. e ∙ ap zeros (part_length n m b h) in
    let p0 = cut 0 4 b (1 ∷ 1 ∷ 12 ∷ s ∷ []) (front4 b (omega arith) ∙ rw (k.version, k.algorithm, k.block) refl) in
    let p1 = cut 4 4 b (zeros 4) (zeros_is 4 4 (omega arith) k.first) in
    let p2 = cut 8 8 b (to_le_bytes w64 (from_le_bytes w64 (take 8 (drop 8 b)))) (sym (le_bytes_8 (take 8 (drop 8 b)) _ size_len (part_fits 8 8 b fits) refl)) in
    let p3 = cut 16 32 b (take 32 (drop 16 b)) refl in
    let p4 = cut 48 32 b (zeros 32) (zeros_is 48 32 (omega arith) k.second) in
    let p5 = cut 80 s b (take s (drop 80 b)) refl in
    let left : 256 - (80 + s) ≡ 176 - s = omega arith in
    let p6 : drop (80 + s) b ≡ zeros (176 - s) = sym (take_all (256 - (80 + s)) (drop (80 + s) b) (omega (arith, length-drop (80 + s) b))) ∙ zeros_is (80 + s) (256 - (80 + s)) (omega arith) k.third ∙ ap zeros left in
    let whole : b ≡ (1 ∷ 1 ∷ 12 ∷ s ∷ []) ++ (zeros 4 ++ (to_le_bytes w64 d.size ++ (d.root.0 ++ (zeros 32 ++ (d.salt ++ zeros (176 - s)))))) =
    p0 ∙ ap (λ (x : List ℕ). (1 ∷ 1 ∷ 12 ∷ s ∷ []) ++ x) (p1 ∙ ap (λ (x : List ℕ). zeros 4 ++ x) (p2 ∙ ap (λ (x : List ℕ). to_le_bytes w64 d.size ++ x) (p3 ∙ ap (λ (x : List ℕ). d.root.0 ++ x) (p4 ∙ ap (λ (x : List ℕ). zeros 32 ++ x) (p5 ∙ ap (λ (x : List ℕ). d.salt ++ x) p6))))) in (
      record { size = below8 (take 8 (drop 8 b)) (part_fits 8 8 b fits); root = part_length 16 32 b (omega arith); salt = omega (arith, salt_len) },
      whole ∙ ap (λ (n : ℕ). (1 ∷ 1 ∷ 12 ∷ n ∷ []) ++ (zeros 4 ++ (to_le_bytes w64 d.size ++ (d.root.0 ++ (zeros 32 ++ (d.salt ++ zeros (176 - n))))))) (sym salt_len),
    )

answer_ok : (o : Option DescriptorFault) (d e : Descriptor) → answer o d ≡ Ok e → (o ≡ None) × (d ≡ e)
answer_ok None d e h = (refl, cc)
answer_ok (Some f) d e h = absurd cc

pub decoded_is : (b : List ℕ) (d : Descriptor) → length b ≡ 256 → AreBytes b → decoded b ≡ Ok d → IsDescriptor d × (b ≡ descriptor_bytes d)
decoded_is b d len fits e =
    let a = answer_ok (first_fault b) (said b) d e in
    subst (λ (x : Descriptor). IsDescriptor x × (b ≡ descriptor_bytes x)) a.1 (spelled b len fits (keeps b a.0))

-- ---- what is spelled so is read

pub again : (d : Descriptor) → IsDescriptor d → decoded (descriptor_bytes d) ≡ Ok d
unfolding descriptor_bytes
again d h =
    let s : ℕ = length d.salt in
    let few : s ≤ 32 = h.salt in
    let b : List ℕ = descriptor_bytes d in
    let tail3 : List ℕ = zeros (176 - s) in
    let tail2 : List ℕ = d.salt ++ tail3 in
    let tail1 : List ℕ = d.root.0 ++ (zeros 32 ++ tail2) in
    let at16 : drop 16 b ≡ tail1 = refl in
    let at48 : drop 48 b ≡ zeros 32 ++ tail2 = sym (drop-drop 32 16 b) ∙ ap (drop 32) at16 ∙ drop_at d.root.0 (zeros 32 ++ tail2) 32 h.root in
    let at80 : drop 80 b ≡ tail2 = sym (drop-drop 32 48 b) ∙ ap (drop 32) at48 in
    let after : drop (80 + s) b ≡ tail3 = sym (drop-drop s 80 b) ∙ ap (drop s) at80 ∙ drop_at d.salt tail3 s refl in
    let zero_is : (n : ℕ) (x : List ℕ) → x ≡ zeros n → x ≡ zeros (length x) = λ n x e. e ∙ ap zeros (sym (ap length e ∙ length-replicate n 0)) in
    let second : take 32 (drop 48 b) ≡ zeros 32 = ap (take 32) at48 in
    let left : 256 - (80 + s) ≡ 176 - s = omega arith in
    let third : take (256 - (80 + s)) (drop (80 + s) b) ≡ zeros (176 - s) = ap (take (256 - (80 + s))) after ∙ take_all (256 - (80 + s)) tail3 (omega (arith, length-replicate {A = ℕ} (176 - s) 0)) in
    let keeps_all : Keeps b = record { version = refl; algorithm = refl; block = refl; salt = omega arith; first = refl; second = zero_is 32 _ second; third = zero_is (176 - s) _ third } in
    let size : from_le_bytes w64 (take 8 (drop 8 b)) ≡ d.size = from_le_bytes-to_le_bytes_8 d.size h.size in
    let root : take 32 (drop 16 b) ≡ d.root.0 = ap (take 32) at16 ∙ take_at d.root.0 (zeros 32 ++ tail2) 32 h.root in
    let salt : take s (drop 80 b) ≡ d.salt = ap (take s) at80 ∙ take_at d.salt tail3 s refl in
    let same : said b ≡ d = ap (λ (n : ℕ). let r : Descriptor = record { size = n; root = record { 0 = take 32 (drop 16 b) }; salt = take s (drop 80 b) } in r) size
    ∙ ap (λ (n : List ℕ). let r : Descriptor = record { size = d.size; root = record { 0 = n }; salt = take s (drop 80 b) } in r) root
    ∙ ap (λ (n : List ℕ). let r : Descriptor = record { size = d.size; root = d.root; salt = n } in r) salt in
    ap (λ (o : Option DescriptorFault). answer o (said b)) (kept b keeps_all) ∙ ap (λ (x : Descriptor). Ok x) same

pub answer_is : (b : List ℕ) → (o : Option DescriptorFault) (d : Descriptor) → fault_of (answer o d) ≡ o
answer_is b None d = refl
answer_is b (Some f) d = refl

-- ---- what is written

same_front : (p q : List ℕ) (n m : ℕ) → length p ≡ n → take (n + m) (p ++ q) ≡ p ++ take m q
same_front [] q n m e = ap (λ (k : ℕ). take (k + m) q) (sym e) ∙ ap (λ (k : ℕ). take k q) (zero-add m)
same_front (x ∷ p) q n m e = ap (λ (k : ℕ). take (k + m) (x ∷ p ++ q)) (sym e) ∙ ap (λ (k : ℕ). take k (x ∷ (p ++ q))) (suc-add (length p) m) ∙ ap (λ (y : List ℕ). x ∷ y) (same_front p q (length p) m refl)

sum_is : (s : ℕ) → 48 + (32 + s) ≡ 80 + s
sum_is s = omega arith

rest_is : (s : ℕ) → 208 - (32 + s) ≡ 176 - s
rest_is s = omega arith

-- pieces put into room for them
pub placed : (h root salt : List ℕ) → length h ≡ 16 → length root ≡ 32 → length salt ≤ 32
    → take 80 (h ++ root ++ zeros 208) ++ salt ++ drop (80 + length salt) (h ++ root ++ zeros 208) ≡ h ++ (root ++ (zeros 32 ++ (salt ++ zeros (176 - length salt))))
placed h root salt h16 h32 few =
    let s : ℕ = length salt in
    let hr : List ℕ = h ++ root in
    let hr_len : length hr ≡ 48 = omega (arith, length-append h root) in
    let z : List ℕ = zeros 208 in
    let b : List ℕ = hr ++ z in
    let past48 : drop 48 b ≡ z = drop_at hr z 48 hr_len in
    let front : take 80 b ≡ hr ++ zeros 32 = same_front hr z 48 32 hr_len in
    let back : drop (80 + s) b ≡ zeros (176 - s) = sym (drop-drop (32 + s) 48 b ∙ ap (λ (n : ℕ). drop n b) (sum_is s)) ∙ ap (drop (32 + s)) past48 ∙ drop-replicate (32 + s) 208 0 ∙ ap zeros (rest_is s) in
    ap (λ (x : List ℕ). x ++ salt ++ drop (80 + s) b) front ∙ ap (λ (x : List ℕ). (hr ++ zeros 32) ++ salt ++ x) back
    ∙ simp append_assoc

pub found_is : (b : List ℕ) (r : Result Descriptor DescriptorFault) → length b ≡ 256 → AreBytes b → r ≡ decoded b → IfOk r (λ d. IsDescriptor d × (b ≡ descriptor_bytes d))
found_is b (Ok d) len fits e = decoded_is b d len fits (sym e)
found_is b (Err f) len fits e = tt
