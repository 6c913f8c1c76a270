-- Bytes in two parts: those in front, and those behind.
use Rattle.std.proofs.Common.{◌≡◌, ℕ, ◌+◌, ◌-◌, ◌<◌, ◌≤◌, min, List, ◌++◌, length, take, drop, get_or, refl, sym, ◌∙◌, ap, inl, inr, arith}
use Rattle.std.proofs.lemmas.Bool.{cases_lt}
use Rattle.std.proofs.lemmas.List.{ext_get_or, get_or-take, get_or-drop, get_or_append_left, get_or-append_right, length-append, length-take, length-drop}
use Rattle.std.proofs.lemmas.Slice.{drop-append-drop}
use Rattle.std.proofs.Math.Seq.{take-append_seam}
use Rattle.host_traits.specs.Held.{over, resized}
use Rattle.mem_files.proofs.ByteLists.{over_low, over_high, over_in, over-length, over-get, resized-length, resized-get, patched_before, patched_in, patched_after}

-- a list filled up to a place, filled by one piece more
pub filled_more : (b p o out : List ℕ) (done n : ℕ) → length b ≡ done → length p ≡ n → out ≡ b ++ drop done o
    → take done out ++ p ++ drop (done + length p) out ≡ b ++ p ++ drop (done + n) o
filled_more b p o out done n b_is p_is out_is =
    let front : take done out ≡ b = ap (take done) out_is ∙ ap (λ k. take k (b ++ drop done o)) (sym b_is) ∙ take-append_seam b (drop done o) in
    let rest : drop (done + length p) out ≡ drop (done + n) o =
    ap (drop (done + length p)) out_is ∙ drop-append-drop done o b (done + length p) (omega arith) b_is ∙ ap (λ k. drop (done + k) o) p_is in
    ap (λ z. z ++ p ++ drop (done + length p) out) front ∙ ap (λ z. b ++ p ++ z) rest

-- the bytes with others put over them, of the same length
put-length : (from : ℕ) (p h : List ℕ) → from + length p ≤ length h → length (take from h ++ p ++ drop (from + length p) h) ≡ length h
put-length from p h fits =
    omega (arith, fits, length-append (take from h) p, length-append (take from h ++ p) (drop (from + length p) h), length-take from h, length-drop (from + length p) h)

-- a piece read of two parts
pub read_parts : (h t : List ℕ) (at n from cut : ℕ) → at + n ≤ length (h ++ t) → from ≡ min at (length h) → cut ≡ min n (length h - from)
    → take cut (drop from h) ++ take (n - cut) (drop (at - length h) t) ≡ take n (drop at (h ++ t))
read_parts h t at n from cut fits from_is cut_is =
    let all = length-append h t in
    let a : length (take cut (drop from h)) ≡ cut = omega (arith, from_is, cut_is, length-take cut (drop from h), length-drop from h) in
    let b : length (take (n - cut) (drop (at - length h) t)) ≡ n - cut =
    omega (arith, fits, all, from_is, cut_is, length-take (n - cut) (drop (at - length h) t), length-drop (at - length h) t) in
    let whole : length (take n (drop at (h ++ t))) ≡ n = omega (arith, fits, length-take n (drop at (h ++ t)), length-drop at (h ++ t)) in
    let both = length-append (take cut (drop from h)) (take (n - cut) (drop (at - length h) t)) in
    ext_get_or 0 (take cut (drop from h) ++ take (n - cut) (drop (at - length h) t)) (take n (drop at (h ++ t))) (omega (arith, a, b, whole, both, cut_is)) (λ i lt.
    let small : i < n = omega (arith, lt, a, b, both, cut_is) in
    let right = get_or-take n (drop at (h ++ t)) i 0 small ∙ get_or-drop at (h ++ t) i 0 in
    elim (cases_lt i cut) [
      | inl low ↦
          let place : from + i ≡ at + i = omega (arith, low, from_is, cut_is) in
          get_or_append_left (take cut (drop from h)) (take (n - cut) (drop (at - length h) t)) 0 i (omega (arith, a, low))
          ∙ get_or-take cut (drop from h) i 0 low ∙ get_or-drop from h i 0 ∙ ap (λ k. get_or h k 0) place
          ∙ sym (get_or_append_left h t 0 (at + i) (omega (arith, low, from_is, cut_is))) ∙ sym right
      | inr high ↦
          let place : (at - length h) + (i - cut) ≡ (at + i) - length h = omega (arith, high, small, from_is, cut_is) in
          get_or-append_right (take cut (drop from h)) (take (n - cut) (drop (at - length h) t)) cut i 0 a high
          ∙ get_or-take (n - cut) (drop (at - length h) t) (i - cut) 0 (omega (arith, high, small)) ∙ get_or-drop (at - length h) t (i - cut) 0 ∙ ap (λ k. get_or t k 0) place
          ∙ sym (get_or-append_right h t (length h) (at + i) 0 refl (omega (arith, high, small, from_is, cut_is))) ∙ sym right
    ])

-- bytes put over two parts
pub over_parts : (h t : List ℕ) (at from cut : ℕ) (bytes : List ℕ) → from ≡ min at (length h) → cut ≡ min (length bytes) (length h - from)
    → (take from h ++ take cut bytes ++ drop (from + length (take cut bytes)) h) ++ over t (at - length h) (drop cut bytes) ≡ over (h ++ t) at bytes
over_parts h t at from cut bytes from_is cut_is =
    let p : List ℕ = take cut bytes in
    let q : List ℕ = drop cut bytes in
    let p_is : length p ≡ cut = omega (arith, cut_is, length-take cut bytes) in
    let q_is : length q ≡ length bytes - cut = length-drop cut bytes in
    let fits : from + length p ≤ length h = omega (arith, p_is, from_is, cut_is) in
    let front : List ℕ = take from h ++ p ++ drop (from + length p) h in
    let a : length front ≡ length h = put-length from p h fits in
    let b = over-length t (at - length h) q in
    let both = length-append front (over t (at - length h) q) in
    let all = length-append h t in
    let size = over-length (h ++ t) at bytes in
    ext_get_or 0 (front ++ over t (at - length h) q) (over (h ++ t) at bytes) (omega (arith, a, b, both, all, size, q_is, from_is, cut_is)) (λ i lt.
    let right = over-get (h ++ t) at bytes i in
    elim (cases_lt i (length h)) [
      | inl low ↦
          let left = get_or_append_left front (over t (at - length h) q) 0 i (omega (arith, a, low)) in
          let old = get_or_append_left h t 0 i low in
          elim (cases_lt i at) [
            | inl before ↦ left ∙ patched_before from p h i fits (omega (arith, before, low, from_is)) ∙ sym old ∙ sym (over_low at bytes (λ k. get_or (h ++ t) k 0) i before) ∙ sym right
            | inr from_on ↦ elim (cases_lt i (at + length bytes)) [
              | inl inside ↦
                  let place : i - from ≡ i - at = omega (arith, low, from_on, from_is) in
                  left ∙ patched_in from p h i fits (omega (arith, low, from_on, from_is)) (omega (arith, p_is, low, inside, from_on, from_is, cut_is))
                  ∙ get_or-take cut bytes (i - from) 0 (omega (arith, low, inside, from_on, from_is, cut_is)) ∙ ap (λ k. get_or bytes k 0) place
                  ∙ sym (over_in at bytes (λ k. get_or (h ++ t) k 0) i from_on inside) ∙ sym right
              | inr past ↦
                  left ∙ patched_after from p h i fits (omega (arith, p_is, past, from_is, cut_is)) ∙ sym old ∙ sym (over_high at bytes (λ k. get_or (h ++ t) k 0) i past) ∙ sym right
            ]
          ]
      | inr high ↦
          let left = get_or-append_right front (over t (at - length h) q) (length h) i 0 a high ∙ over-get t (at - length h) q (i - length h) in
          let old = get_or-append_right h t (length h) i 0 refl high in
          elim (cases_lt i at) [
            | inl before ↦
                left ∙ over_low (at - length h) q (λ k. get_or t k 0) (i - length h) (omega (arith, before, high)) ∙ sym old
                ∙ sym (over_low at bytes (λ k. get_or (h ++ t) k 0) i before) ∙ sym right
            | inr from_on ↦ elim (cases_lt i (at + length bytes)) [
              | inl inside ↦
                  let place : cut + ((i - length h) - (at - length h)) ≡ i - at = omega (arith, high, from_on, inside, from_is, cut_is) in
                  left ∙ over_in (at - length h) q (λ k. get_or t k 0) (i - length h) (omega (arith, high, from_on)) (omega (arith, q_is, high, from_on, inside, from_is, cut_is))
                  ∙ get_or-drop cut bytes ((i - length h) - (at - length h)) 0 ∙ ap (λ k. get_or bytes k 0) place
                  ∙ sym (over_in at bytes (λ k. get_or (h ++ t) k 0) i from_on inside) ∙ sym right
              | inr past ↦
                  left ∙ over_high (at - length h) q (λ k. get_or t k 0) (i - length h) (omega (arith, q_is, high, from_on, past, from_is, cut_is)) ∙ sym old
                  ∙ sym (over_high at bytes (λ k. get_or (h ++ t) k 0) i past) ∙ sym right
            ]
          ]
    ])

-- two parts cut, or with zeros added: size is what stays of the first
pub resized_parts : (h t g : List ℕ) (size : ℕ) → g ≡ take (min size (length h)) h → g ++ resized t (size - length h) ≡ resized (h ++ t) size
resized_parts h t g size g_is =
    let kept : ℕ = min size (length h) in
    let a : length g ≡ kept = ap length g_is ∙ omega (arith, length-take kept h) in
    let b = resized-length t (size - length h) in
    let both = length-append g (resized t (size - length h)) in
    let all = resized-length (h ++ t) size in
    ext_get_or 0 (g ++ resized t (size - length h)) (resized (h ++ t) size) (omega (arith, a, b, both, all)) (λ i lt.
    let small : i < size = omega (arith, lt, a, b, both) in
    let right = resized-get (h ++ t) size i small in
    elim (cases_lt i (length h)) [
      | inl low ↦
          get_or_append_left g (resized t (size - length h)) 0 i (omega (arith, a, low, small)) ∙ ap (λ z. get_or z i 0) g_is ∙ get_or-take kept h i 0 (omega (arith, low, small))
          ∙ sym (get_or_append_left h t 0 i low) ∙ sym right
      | inr high ↦
          let whole : length g ≡ length h = omega (arith, a, high, small) in
          get_or-append_right g (resized t (size - length h)) (length h) i 0 whole high ∙ resized-get t (size - length h) (i - length h) (omega (arith, high, small))
          ∙ sym (get_or-append_right h t (length h) i 0 refl high) ∙ sym right
    ])
