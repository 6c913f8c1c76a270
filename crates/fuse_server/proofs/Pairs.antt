-- Pairs of nodes and counts, one after another.
use Rattle.std.proofs.Common.{◌≡◌, ◌∙◌, ◌+◌, ◌-◌, ◌*◌, ◌<◌, ℕ, suc, List, drop, refl, ap, arith}
use Rattle.std.proofs.Common.{drop-drop}
use Rattle.authfs_dirs.specs.Names.{Names, forgotten}
use Rattle.fuse_codec.specs.Reading.{u64_at, pairs_in}
use Rattle.fuse_server.specs.Effects.{all_forgotten}

one_on : (names : Names) (bytes : List ℕ) (m k : ℕ) → m ≡ suc k
    → all_forgotten names (pairs_in m bytes) ≡ all_forgotten (forgotten names (u64_at bytes 0) (u64_at bytes 8)) (pairs_in k (drop 16 bytes))
unfolding pairs_in
one_on names bytes m k e = rw e refl

-- the first of those that are left
pub forget_on : (names : Names) (bytes : List ℕ) (end place : ℕ) → place < end
    → all_forgotten names (pairs_in (end - place) (drop (16 * place) bytes))
    ≡ all_forgotten (forgotten names (u64_at (drop (16 * place) bytes) 0) (u64_at (drop (16 * place) bytes) 8)) (pairs_in (end - (place + 1)) (drop (16 * (place + 1)) bytes))
forget_on names bytes end place less =
    one_on names (drop (16 * place) bytes) (end - place) (end - (place + 1)) (omega (arith, less))
    ∙ ap (λ (x : List ℕ). all_forgotten (forgotten names (u64_at (drop (16 * place) bytes) 0) (u64_at (drop (16 * place) bytes) 8)) (pairs_in (end - (place + 1)) x)) (on bytes)
  where
    on : (b : List ℕ) → drop 16 (drop (16 * place) b) ≡ drop (16 * (place + 1)) b
    on b = drop-drop 16 (16 * place) b ∙ ap (λ (n : ℕ). drop n b) (omega arith)

-- none is left
pub forget_last : (names : Names) (bytes : List ℕ) (end place : ℕ) → place ≡ end → names ≡ all_forgotten names (pairs_in (end - place) bytes)
unfolding pairs_in
forget_last names bytes end place e = rw (none end place e) refl where
  none : (n k : ℕ) → k ≡ n → n - k ≡ 0
  none n k e = omega (arith, e)
