-- How long the pieces of a file are, and pieces put behind one another.
use Rattle.std.proofs.Common.{◌≡◌, ℕ, ◌+◌, ◌^◌, ◌<◌, List, [], ◌∷◌, ◌++◌, length, refl, sym, ap, ◌∙◌, append_assoc, arith}
use Rattle.std.specs.Int.{w32, from_le_bytes}
use Rattle.std.proofs.lemmas.List.{length-append}
use Rattle.std.proofs.lemmas.Nat.{from_le_bytes-to_le_bytes_4}
use Rattle.idsig_v4.specs.Grammar.{int32, sized, info_bytes, front_bytes}

pub length_int32 : (n : ℕ) → length (int32 n) ≡ 4
unfolding int32
length_int32 n = refl

pub read_int32 : (n : ℕ) → n < 2 ^ 32 → from_le_bytes w32 (int32 n) ≡ n
unfolding int32
read_int32 n h = from_le_bytes-to_le_bytes_4 n h

pub length_sized : (bytes : List ℕ) → length (sized bytes) ≡ 4 + length bytes
length_sized bytes = omega (arith, length-append (int32 (length bytes)) bytes, length_int32 (length bytes))

pub length_info : (salt root : List ℕ) → length root ≡ 32 → length (info_bytes salt root) ≡ 45 + length salt
unfolding info_bytes
length_info salt root h =
    omega (arith, length-append (int32 1) (12 ∷ (sized salt ++ sized root)), length_int32 1, length-append (sized salt) (sized root), length_sized salt, length_sized root)

pub length_front : (salt root signing : List ℕ) (n : ℕ) → length root ≡ 32 → length (front_bytes salt root signing n) ≡ 61 + length salt + length signing
unfolding front_bytes
length_front salt root signing n h =
    let info : List ℕ = info_bytes salt root in
    omega (
      arith,
      length-append (int32 2) (sized info ++ (sized signing ++ int32 n)),
      length_int32 2,
      length-append (sized info) (sized signing ++ int32 n),
      length_sized info,
      length_info salt root h,
      length-append (sized signing) (int32 n),
      length_sized signing,
      length_int32 n,
    )

-- pieces, each put behind what stood before, are the whole
pub info_joined : (old salt root a b c d e : List ℕ) → length root ≡ 32 →
    a ≡ old ++ int32 (45 + length salt) → b ≡ a ++ int32 1 → c ≡ b ++ 12 ∷ [] → d ≡ c ++ sized salt → e ≡ d ++ sized root →
    e ≡ old ++ sized (info_bytes salt root)
unfolding info_bytes
info_joined old salt root a b c d e h ea eb ec ed ee =
    ee ∙ ap (λ (x : List ℕ). x ++ sized root) (ed ∙ ap (λ (x : List ℕ). x ++ sized salt) (ec ∙ ap (λ (x : List ℕ). x ++ 12 ∷ []) (eb ∙ ap (λ (x : List ℕ). x ++ int32 1) ea)))
    ∙ ap (λ (n : ℕ). old ++ int32 n ++ int32 1 ++ (12 ∷ []) ++ sized salt ++ sized root) (sym (length_info salt root h))
    ∙ simp append_assoc

pub front_joined : (old salt root signing : List ℕ) (n : ℕ) (a b c d : List ℕ) →
    a ≡ old ++ int32 2 → b ≡ a ++ sized (info_bytes salt root) → c ≡ b ++ sized signing → d ≡ c ++ int32 n →
    d ≡ old ++ front_bytes salt root signing n
unfolding front_bytes
front_joined old salt root signing n a b c d ea eb ec ed =
    ed ∙ ap (λ (x : List ℕ). x ++ int32 n) (ec ∙ ap (λ (x : List ℕ). x ++ sized signing) (eb ∙ ap (λ (x : List ℕ). x ++ sized (info_bytes salt root)) ea)) ∙ simp append_assoc

-- the fields one behind the other
pub flat : (salt root signing : List ℕ) (n : ℕ) (rest : List ℕ) → length root ≡ 32 →
    front_bytes salt root signing n ++ rest
    ≡ int32 2 ++ (int32 (45 + length salt) ++ (int32 1 ++ (12 ∷ (int32 (length salt) ++ (salt ++ (int32 32 ++ (root ++ (int32 (length signing) ++ (signing ++ (int32 n ++ rest))))))))))
unfolding front_bytes info_bytes
flat salt root signing n rest h =
    ap (λ (k : ℕ). (int32 2 ++ ((int32 k ++ (int32 1 ++ (12 ∷ (sized salt ++ sized root)))) ++ (sized signing ++ int32 n))) ++ rest) (length_info salt root h)
    ∙ ap (λ (k : ℕ). (int32 2 ++ ((int32 (45 + length salt) ++ (int32 1 ++ (12 ∷ (sized salt ++ (int32 k ++ root))))) ++ (sized signing ++ int32 n))) ++ rest) h
    ∙ simp append_assoc
