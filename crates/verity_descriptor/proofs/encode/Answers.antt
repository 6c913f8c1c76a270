use Rattle.std.proofs.Common.{◌≡◌, ◌≤◌, ◌+◌, ◌++◌, ◌∷◌, [], List, ℕ, length, take, drop, ap, ◌∙◌, refl, arith, rules}
use Rattle.std.specs.Int.{w64, to_le_bytes}
use Rattle.verity_descriptor.specs.Spelling.{descriptor_bytes, zeros}
use Rattle.verity_descriptor.proofs.Laws.{placed}
use Rattle.verity_descriptor.proofs.encode.Goals as goal

pub returns : goal.returns
unfolding descriptor_bytes
returns c =
    let salt : List ℕ = c.bytes-salt.result.now in
    let root : List ℕ = c.args.d.now.root.0 in
    let size : List ℕ = to_le_bytes w64 c.args.d.now.size in
    let head : List ℕ = (1 ∷ 1 ∷ 12 ∷ length salt ∷ 0 ∷ 0 ∷ 0 ∷ 0 ∷ []) ++ size in
    let root_len : length root ≡ 32 = search rules in
    let same_salt : salt ≡ c.args.d.now.salt = c.bytes-salt.ensures.value in
    let few : length salt ≤ 32 = omega (arith, ap length same_salt, c.bytes-salt.ensures.len) in
    let b1 : List ℕ = c.put.new.bytes in
    let e1 : b1 ≡ 1 ∷ 1 ∷ 12 ∷ length salt ∷ zeros 252 = c.put.ensures in
    let b2 : List ℕ = c.put-2.new.bytes in
    let e2 : b2 ≡ head ++ zeros 240 = c.put-2.ensures ∙ ap (λ (p : List ℕ). take 8 b1 ++ p ++ drop (8 + length p) b1) c.to_le_bytes.ensures ∙ ap (λ (b : List ℕ). take 8 b ++ size ++ drop 16 b) e1 in
    let b3 : List ℕ = c.put-3.new.bytes in
    let e3 : b3 ≡ head ++ root ++ zeros 208 = c.put-3.ensures ∙ ap (λ (n : ℕ). take 16 b2 ++ root ++ drop (16 + n) b2) root_len ∙ ap (λ (b : List ℕ). take 16 b ++ root ++ drop 48 b) e2 in
    c.put-4.ensures ∙ ap (λ (b : List ℕ). take 80 b ++ salt ++ drop (80 + length salt) b) e3 ∙ placed head root salt refl root_len few ∙ ap (λ (s : List ℕ). descriptor_bytes (record { size = c.args.d.now.size; root = record { 0 = root }; salt = s })) same_salt
