-- What private functions say of their parts. No public clause names these.
use Rattle.std.specs.Prelude.{◌≡◌, ℕ, zero, suc, ◌*◌, ◌<◌, List, ◌++◌, take, drop, length, slice_index}
use Rattle.aes_core.specs.Aes.{xor_bytes}
use Rattle.aes_gcm.specs.Ghash.{product_steps, shifted}
use Rattle.aes_gcm.specs.Gcm.{key_stream}
use Rattle.aes_gcm.specs.declared.ghash.Tables.{Tables}

-- v shifted n times
unfoldable pub shifts : ℕ → ℕ → ℕ
shifts zero v = v
shifts (suc n) v = shifts n (shifted v)

-- the table has the product of h by each byte, as the first bits of a block
abbrev pub HoldsProducts : ℕ → List ℕ → Type 0
HoldsProducts h t = (b : ℕ) → b < 256 → slice_index t b ≡ product_steps 8 b h

-- the tables are those of the hash subkey h
pub record HasTables (h : ℕ) (t : Tables) : Type 0 where
  pub first : HoldsProducts h t.first
  pub second : HoldsProducts (shifts 32 h) t.second
  pub third : HoldsProducts (shifts 32 (shifts 32 h)) t.third
  pub fourth : HoldsProducts (shifts 32 (shifts 32 (shifts 32 h))) t.fourth

-- the first i blocks of the text xs are under the stream, and the others are as they were
abbrev pub IsUnder : List ℕ → List ℕ → List ℕ → List ℕ → ℕ → Type 0
IsUnder k n xs text i = (length (key_stream k n 2 i) ≡ 16 * i)
    × (text ≡ xor_bytes (take (16 * i) xs) (key_stream k n 2 i) ++ drop (16 * i) xs)
