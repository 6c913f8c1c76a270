use Rattle.std.proofs.Common.{◌≡◌, ◌+◌, ◌-◌, ◌++◌, ◌<◌, ℕ, zero, suc, List, length, get_or, take, drop, min, refl, sym, ap, ◌∙◌, arith, inl, inr, length-take, length-drop}
use Rattle.std.specs.Prelude.{replicate}
use Rattle.std.proofs.lemmas.Bool.{cases_lt}
use Rattle.std.proofs.lemmas.List.{get_or_append_left, get_or-append_right, get_or-take, get_or-drop, get_or_past}
use Rattle.block_map.proofs.bytes.copy_from.Goals as goal

zeros : (n i : ℕ) → let none : List ℕ = replicate n 0 in get_or none i 0 ≡ 0
zeros zero i = refl
zeros (suc n) zero = refl
zeros (suc n) (suc i) = zeros n i

padded : (file : List ℕ) (from n b h k : ℕ) → b ≡ min from (length file) → h ≡ min (length file - b) n → k < n
    → let piece : List ℕ = take ((b + h) - b) (drop b file) in get_or (piece ++ replicate (n - length piece) 0) k 0 ≡ get_or file (from + k) 0
padded file from n b h k is_b is_h lt =
    let piece : List ℕ = take ((b + h) - b) (drop b file) in
    let size : length piece ≡ h = omega (arith, length-take ((b + h) - b) (drop b file), length-drop b file) in
    elim (cases_lt k h) [
      | inl less ↦
          let same : b + k ≡ from + k = omega arith in
          get_or_append_left piece (replicate (n - length piece) 0) 0 k (omega arith) ∙ get_or-take ((b + h) - b) (drop b file) k 0 (omega arith) ∙ get_or-drop b file k 0 ∙ ap (λ (i : ℕ). get_or file i 0) same
      | inr more ↦
          get_or-append_right piece (replicate (n - length piece) 0) h k 0 size more ∙ zeros (n - length piece) (k - h) ∙ sym (get_or_past file (from + k) 0 (omega arith))
    ]

pub returns : goal.returns
returns c = λ k lt. ap (λ (x : List ℕ). get_or x k 0) c.pad_into.ensures ∙ padded c.args.file.now c.args.from (length c.args.out.now) c.min-begin.result c.min-have.result k c.min-begin.ensures c.min-have.ensures lt
